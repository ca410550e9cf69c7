-- The front is placed up to here.
use Rattle.std.proofs.Common.{length, ◌≡◌, ◌+◌, ◌-◌}
use Rattle.asm_macro.specs.Fronts.{IsPlaced}
use Rattle.asm_macro.proofs.fronts.place_front.Given as goal

abbrev pub invariant-statements : goal.invariant-statements
invariant-statements g l = record {
  front : IsPlaced g.P.Placer.placed g.P.KnowingPlacer.told l.source l.fn.placer l.placer l.at l.line l.given;
  turns : l.steps ≡ l.fn.steps + l.given;
}

abbrev pub decreases-statements : goal.decreases-statements
decreases-statements g l = length l.source - l.at
