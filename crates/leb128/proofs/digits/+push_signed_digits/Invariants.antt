use Rattle.leb128.proofs.digits.+push_signed_digits.Given as goal

abbrev pub decreases-push_signed_digits : goal.decreases-push_signed_digits
decreases-push_signed_digits l = l.more
