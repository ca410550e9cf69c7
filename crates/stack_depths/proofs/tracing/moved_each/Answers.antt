use Rattle.std.proofs.Common.{◌≢◌, ◌<◌, length, None, ap, ◌∙◌, arith, below_more, get_or-set_other, get_or-set_same, length-set}
use Rattle.stack_depths.specs.States.{value_of}
use Rattle.stack_depths.proofs.tracing.moved_each.Goals as goal

pub loop-q-preserved : goal.loop-q-preserved
loop-q-preserved c =
    let r = c.moved_by.result in
    let i = c.loop-q.invariant in
    record {
      long = length-set c.loop-q.out c.loop-q.q r ∙ i.long;
      done = below_more _ _
          (λ k h. let ne : k ≢ c.loop-q.q = omega arith in ap value_of (get_or-set_other c.loop-q.out c.loop-q.q k r None ne) ∙ i.done k h)
          (let l = i.long in let lt : c.loop-q.q < length c.loop-q.out = omega arith in ap value_of (get_or-set_same c.loop-q.out c.loop-q.q r None lt) ∙ c.moved_by.ensures);
    }
