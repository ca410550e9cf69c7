-- The next of the other terms goes to the terms so far.
use Rattle.std.proofs.Common.{map}
use Rattle.asm_expr.specs.Forms.{scaled_term, plus_times}
use Rattle.asm_expr.proofs.Terms.{kept_with_terms, mapped_step, mapped_done}
use Rattle.asm_expr.proofs.summing.plus_times.Goals as goal

pub loop-term-preserved : goal.loop-term-preserved
loop-term-preserved c =
    mapped_step (scaled_term c.args.factor) c.loop-term.terms.items c.in_ok-terms.terms.items c.terms-others.result.now _ c.loop-term.term-index c.term-item.result c.scaled_term.result
    c.loop-term-test.true c.term-item.is c.scaled_term.ensures c.in_ok-terms.ensures c.loop-term.invariant

pub invariant_of-result : goal.invariant_of-result
invariant_of-result c =
    let all = mapped_done (scaled_term c.args.factor) c.loop-term.terms.items c.terms-others.result.now _ c.loop-term.term-index c.loop-term-test.false c.loop-term.invariant in
    rw all (kept_with_terms c.made.inside.terms.items (map (scaled_term c.args.factor) c.terms-others.result.now) c.made.invariant)

pub returns : goal.returns
unfolding plus_times
returns c =
    let all = mapped_done (scaled_term c.args.factor) c.loop-term.terms.items c.terms-others.result.now _ c.loop-term.term-index c.loop-term-test.false c.loop-term.invariant in
    let made = c.made.view_is in
    let others = c.terms-others.ensures.terms in
    let more = c.constant.ensures in
    rw (← made, all, others, more)
