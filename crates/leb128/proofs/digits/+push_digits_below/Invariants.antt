use Rattle.leb128.proofs.digits.+push_digits_below.Given as goal

abbrev pub decreases-push_digits_below : goal.decreases-push_digits_below
decreases-push_digits_below l = l.more
