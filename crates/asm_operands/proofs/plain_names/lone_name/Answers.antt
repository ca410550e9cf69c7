-- The name that was found is the only operand.
use Rattle.asm_operands.proofs.NamedLemmas.{lone_so}
use Rattle.asm_operands.proofs.plain_names.lone_name.Goals as goal

pub returns-in-None : goal.returns-in-None
returns-in-None c = lone_so _ _ _ _ _ c.in_ok-name.ensures c.new-operands.ensures c.in_ok-next.ensures.steps c.in-None.ensures.steps.0
