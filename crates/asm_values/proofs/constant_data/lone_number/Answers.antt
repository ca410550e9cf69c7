-- Tokens without a comma are one operand.
use Rattle.asm_values.proofs.OperandEnds.{lone_found}
use Rattle.asm_values.proofs.constant_data.lone_number.Goals as goal

pub returns : goal.returns
returns c = lone_found _ _ c.lone_constant.ensures
