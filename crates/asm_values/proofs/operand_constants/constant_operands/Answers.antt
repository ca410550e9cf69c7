-- All operands are numbers.
use Rattle.asm_values.proofs.ConstantOperandsLemmas.{all_so}
use Rattle.asm_values.proofs.operand_constants.constant_operands.Goals as goal

pub returns-in-None : goal.returns-in-None
returns-in-None c =
    all_so _ _ _ _ _ _ _ _ c.in_ok-first.ensures c.in_ok-second.ensures c.in_ok-third.ensures c.in-None.ensures.steps.0
