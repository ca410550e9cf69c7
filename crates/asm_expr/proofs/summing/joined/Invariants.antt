-- The terms so far, with those to come, give all.
use Rattle.std.proofs.Common.{◌≡◌, drop, map}
use Rattle.asm_expr.specs.Forms.{signed_term, with_terms}
use Rattle.asm_expr.proofs.summing.joined.Given as goal

abbrev pub invariant-loop-term : goal.invariant-loop-term
invariant-loop-term l =
    with_terms l.terms.items (map (signed_term l.minus) (drop l.term-index l.others))
    ≡ with_terms l.initial.terms.items (map (signed_term l.minus) l.others)
