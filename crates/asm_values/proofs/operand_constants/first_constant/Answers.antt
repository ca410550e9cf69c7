-- What was found of the first operand.
use Rattle.asm_values.proofs.ConstantOperandsLemmas.{first_finds}
use Rattle.asm_values.proofs.operand_constants.first_constant.Goals as goal

pub returns : goal.returns
returns c = first_finds _ _ _ _ c.in_ok-next.ensures.steps c.constant_operand.ensures
