-- A token that is a number is an operand by itself, and no comma.
use Rattle.asm_operands.proofs.CommaLemmas.{single_found}
use Rattle.asm_operands.proofs.constants.single_constant.Goals as goal

pub returns : goal.returns
returns c = single_found _ _ c.leaf.ensures
