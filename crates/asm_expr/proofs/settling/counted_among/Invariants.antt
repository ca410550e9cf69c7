-- The sum of the labels so far.
use Rattle.std.proofs.Common.{◌≡◌, take, map}
use Rattle.asm_expr.specs.Forms.{wrapped}
use Rattle.asm_expr.specs.Settled.{spot_of, stretch_sum}
use Rattle.asm_expr.proofs.settling.counted_among.Given as goal

abbrev pub invariant-loop-term : goal.invariant-loop-term
invariant-loop-term g l = l.sum ≡ wrapped (stretch_sum l.stretch (map (spot_of (g.K.Known.told l.known)) (take l.term-index l.terms)))
