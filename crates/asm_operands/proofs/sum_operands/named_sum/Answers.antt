-- The name and the sum that were found are the operands.
use Rattle.asm_operands.proofs.FewSumLemmas.{name_and_sum}
use Rattle.asm_operands.proofs.sum_operands.named_sum.Goals as goal

pub returns-in-None : goal.returns-in-None
returns-in-None c =
    name_and_sum _ c.in_ok-sum.sum c.in_ok-sum.ensures _ _ _ _ _ _ c.in_ok-name.ensures c.new-operands.ensures c.in_ok-next.ensures.steps c.in_ok-next-2.ensures.steps
    c.in-None.ensures.steps.0
