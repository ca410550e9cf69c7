-- The sum of the labels so far.
use Rattle.std.proofs.Common.{◌≡◌, take}
use Rattle.asm_expr.specs.Forms.{wrapped}
use Rattle.asm_expr.specs.Settled.{stretch_sum}
use Rattle.asm_expr.proofs.settling.stretch_sum.Given as goal

abbrev pub invariant-loop-spot : goal.invariant-loop-spot
invariant-loop-spot l = l.sum ≡ wrapped (stretch_sum l.stretch (take l.spot-index l.spots))
