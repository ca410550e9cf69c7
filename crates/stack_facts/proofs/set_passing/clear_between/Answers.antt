use Rattle.std.proofs.Common.{arith}
use Rattle.std.proofs.lemmas.Result.{IfOk-weaker}
use Rattle.stack_facts.proofs.RangeLemmas.{drops_between}
use Rattle.stack_facts.proofs.set_passing.clear_between.Goals as goal

pub returns-clause-dropped : goal.returns-clause-dropped
returns-clause-dropped c =
    IfOk-weaker c.clear.result _ _
    (λ _ each. drops_between c.args.slots.now c.args.out.now c.clear.new.self c.args.register c.args.from c.args.to c.count_before-first.result c.count_up_to-past.result c.requires.ranked (omega arith) c.count_up_to-past.ensures.number c.count_before-first.ensures c.count_up_to-past.ensures.count each)
    c.clear.ensures.each
