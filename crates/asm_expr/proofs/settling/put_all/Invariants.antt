-- The terms so far are put, and those that are left are still to be put.
use Rattle.std.proofs.Common.{◌≡◌, true, drop, map}
use Rattle.std.specs.List.{list_all}
use Rattle.asm_expr.specs.Forms.{is_kept}
use Rattle.asm_expr.specs.Settled.{spot_of, put_all}
use Rattle.asm_expr.proofs.settling.put_all.Given as goal

abbrev pub invariant-loop-spot : goal.invariant-loop-spot
invariant-loop-spot g l = record {
  left : map (spot_of (g.K.Known.told l.known)) l.terms.items ≡ drop l.spot-index l.spot-items;
  kept : list_all is_kept l.terms.items ≡ true;
  made : put_all l.spot-items (g.K.Known.told l.known) l.made l.terms.items ≡ put_all l.spot-items (g.K.Known.told l.known) l.initial.made l.initial.terms.items;
}
