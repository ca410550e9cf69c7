use Rattle.number_sets.proofs.trees.+without.Given as goal

abbrev pub decreases-without : goal.decreases-without
decreases-without l = l.width
