use Rattle.std.proofs.Common.{Some, None, length, arith}
use Rattle.std.proofs.lemmas.Result.{IfOk-weaker}
use Rattle.stack_facts.specs.Passing.{is_lower}
use Rattle.stack_facts.specs.Ranks.{lies_between}
use Rattle.stack_facts.proofs.RangeLemmas.{drops_same, lower_is, lower_is_all}
use Rattle.stack_facts.proofs.set_passing.clear_lower.Goals as goal

pub returns-clause-dropped : goal.returns-clause-dropped
returns-clause-dropped c =
    let slots = c.args.slots.now in
    IfOk-weaker c.clear_all_between-2.result _ _
    (λ _ d. drops_same c.args.out.now c.clear_all_between-2.new.out (lies_between 0 (Some c.args.limit) slots) (is_lower c.args.limit slots) (length slots) (λ k h. lower_is slots c.args.limit k c.requires c.if-limit.false (omega arith) h) d)
    c.clear_all_between-2.ensures.dropped

pub returns-then-limit-clause-dropped : goal.returns-then-limit-clause-dropped
returns-then-limit-clause-dropped c =
    let slots = c.args.slots.now in
    IfOk-weaker c.clear_all_between.result _ _
    (λ _ d. drops_same c.args.out.now c.clear_all_between.new.out (lies_between 0 None slots) (is_lower c.args.limit slots) (length slots) (λ k h. lower_is_all slots c.args.limit k c.requires c.if-limit.true h) d)
    c.clear_all_between.ensures.dropped
