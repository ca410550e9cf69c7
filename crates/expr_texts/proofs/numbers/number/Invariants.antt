-- The digits so far, and those to come, give the number of all.
use Rattle.std.proofs.Common.{◌≡◌, drop}
use Rattle.asm_base.specs.Digits.{number_after}
use Rattle.expr_texts.proofs.numbers.number.Given as goal

abbrev pub invariant-loop-digit : goal.invariant-loop-digit
invariant-loop-digit l = number_after l.radix l.number (drop l.digit-index l.digits) ≡ number_after l.radix 0 l.digits
