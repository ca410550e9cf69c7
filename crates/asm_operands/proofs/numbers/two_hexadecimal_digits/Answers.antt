-- Two digits that fit are their numeral.
use Rattle.asm_operands.proofs.NumberLemmas.{two_hexadecimal}
use Rattle.asm_operands.proofs.numbers.two_hexadecimal_digits.Goals as goal

pub returns : goal.returns
returns c = two_hexadecimal _ _ _ _ c.in_ok-sixteens.ensures c.in_ok-ones.ensures
