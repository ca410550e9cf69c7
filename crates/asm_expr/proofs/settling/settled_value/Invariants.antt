-- The terms so far are numbers, and those to come are still to be put.
use Rattle.std.proofs.Common.{◌≡◌, drop, map}
use Rattle.asm_expr.specs.Forms.{constant_form}
use Rattle.asm_expr.specs.Settled.{spot_of, put_all, settled}
use Rattle.asm_expr.proofs.settling.settled_value.Given as goal

abbrev pub invariant-loop-term : goal.invariant-loop-term
invariant-loop-term g l =
    put_all (map (spot_of (g.K.Known.told l.known)) l.terms) (g.K.Known.told l.known) (constant_form l.constant) (drop l.term-index l.terms)
    ≡ settled (g.K.Known.told l.known) l.form
