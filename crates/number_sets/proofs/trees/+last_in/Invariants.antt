use Rattle.number_sets.proofs.trees.+last_in.Given as goal

abbrev pub decreases-last_in : goal.decreases-last_in
decreases-last_in l = l.width
