-- The sums that were found are the operands.
use Rattle.asm_operands.specs.Sums.{sum_tree}
use Rattle.asm_operands.proofs.FewSumLemmas.{one_tree, two_trees}
use Rattle.asm_operands.proofs.sum_operands.few_sums.Goals as goal

pub returns-in_default : goal.returns-in_default
returns-in_default c = one_tree _ (sum_tree c.in_ok-one.one) c.in_ok-one.ensures _ _ _ c.new-operands.ensures c.in_ok-next.ensures.steps c.in_default.ensures.steps.0

pub returns-in-None : goal.returns-in-None
returns-in-None c =
    two_trees _ (sum_tree c.in_ok-one.one) c.in_ok-one.ensures _ _ _ _ _ (sum_tree c.in_ok-other.other) c.in_ok-other.ensures c.new-operands.ensures c.in_ok-next.ensures.steps c.in-Some.ensures.steps
    c.in-None.ensures.steps.0
