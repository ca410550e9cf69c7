use Rattle.number_sets.proofs.trees.+both.Given as goal

abbrev pub decreases-both : goal.decreases-both
decreases-both l = l.width
