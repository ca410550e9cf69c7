-- The shortest forms are spelled so.
use Rattle.asm_operands.proofs.LeafLemmas.{four_found}
use Rattle.asm_operands.proofs.numbers.number.Goals as goal

pub returns-in-len4 : goal.returns-in-len4
returns-in-len4 c =
    four_found _ _ _ _ _ _ c.in-len4.len_at_least c.in-len4.len_below c.if-zero-eq48.true c.if-mark-eq120.true c.two_hexadecimal_digits.ensures
