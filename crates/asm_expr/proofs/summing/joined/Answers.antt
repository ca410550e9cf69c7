-- The next of the other terms goes to the terms so far.
use Rattle.std.proofs.Common.{map}
use Rattle.asm_expr.specs.Forms.{signed_term}
use Rattle.asm_expr.proofs.Terms.{kept_with_terms, mapped_step, mapped_done}
use Rattle.asm_expr.proofs.summing.joined.Goals as goal

pub loop-term-preserved : goal.loop-term-preserved
loop-term-preserved c =
    mapped_step (signed_term c.args.minus) c.loop-term.terms.items c.in_ok-terms.terms.items c.terms-others.result.now _ c.loop-term.term-index c.term-item.result c.signed_term.result
    c.loop-term-test.true c.term-item.is c.signed_term.ensures c.in_ok-terms.ensures c.loop-term.invariant

pub invariant_of-result : goal.invariant_of-result
invariant_of-result c =
    let all = mapped_done (signed_term c.args.minus) c.loop-term.terms.items c.terms-others.result.now _ c.loop-term.term-index c.loop-term-test.false c.loop-term.invariant in
    rw all (kept_with_terms c.one.inside.terms.items (map (signed_term c.args.minus) c.terms-others.result.now) c.one.invariant)

pub returns : goal.returns
returns c =
    let all = mapped_done (signed_term c.args.minus) c.loop-term.terms.items c.terms-others.result.now _ c.loop-term.term-index c.loop-term-test.false c.loop-term.invariant in
    let one = c.one.view_is in
    let others = c.terms-others.ensures.terms in
    let more = c.constant.ensures in
    let made = c.signed.ensures in
    rw (← one, all, others, made, more)
