-- The next operand is a number, or no operand is left, or none may be there.
use Rattle.asm_values.proofs.ConstantOperandsLemmas.{next_so, none_left, none_said, none_may}
use Rattle.asm_values.proofs.operand_constants.next_constant_if.Goals as goal

pub returns-in_ok-constant_operand-in-Some : goal.returns-in_ok-constant_operand-in-Some
returns-in_ok-constant_operand-in-Some c =
    next_so _ _ _ _ _ c.if-not-may.false c.in-Some.ensures.steps c.in_ok-constant_operand-in-Some.ensures

pub returns-in-None : goal.returns-in-None
returns-in-None c = none_left _ _ _ c.if-not-may.false c.in-None.ensures.steps.0 c.in-None.ensures.steps.1

pub returns-then-not-may : goal.returns-then-not-may
returns-then-not-may c = none_may _ _ c.if-not-may.true

pub returns-then-is_empty : goal.returns-then-is_empty
returns-then-is_empty c = none_said _ _ _ _ c.in-Some.operand.now c.if-not-may.false c.if-is_empty.ensures c.in-Some.ensures.steps
