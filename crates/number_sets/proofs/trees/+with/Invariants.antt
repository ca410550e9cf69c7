use Rattle.number_sets.proofs.trees.+with.Given as goal

abbrev pub decreases-with : goal.decreases-with
decreases-with l = l.width
