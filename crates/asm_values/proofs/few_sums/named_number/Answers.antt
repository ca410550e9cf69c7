-- The name and the number that were found are the operands.
use Rattle.asm_values.proofs.NamedNumberLemmas.{name_and_number}
use Rattle.asm_values.proofs.few_sums.named_number.Goals as goal

pub returns-in-None : goal.returns-in-None
returns-in-None c =
    name_and_number _ c.in_ok-number.number c.in_ok-number.ensures _ _ _ _ _ _ c.in_ok-name.ensures c.new-operands.ensures c.in_ok-next.ensures.steps c.in_ok-next-2.ensures.steps
    c.in-None.ensures.steps.0
