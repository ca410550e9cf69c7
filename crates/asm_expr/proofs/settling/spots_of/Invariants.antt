-- The terms so far, as labels.
use Rattle.std.proofs.Common.{◌≡◌, take, map}
use Rattle.asm_expr.specs.Settled.{spot_of}
use Rattle.asm_expr.proofs.settling.spots_of.Given as goal

abbrev pub invariant-loop-term : goal.invariant-loop-term
invariant-loop-term g l = l.spots.items ≡ map (spot_of (g.K.Known.told l.known)) (take l.term-index l.terms)
