-- The labels so far are placed, and what is left will be.
use Rattle.std.proofs.Common.{◌≡◌, ◌-◌, ◌≤◌, map, length, drop}
use Rattle.asm_base.specs.Tokens.{spelled}
use Rattle.asm_place.specs.Placing.{place_labelled}
use Rattle.asm_values.specs.PlacedBy.{placed_by}
use Rattle.asm_place.proofs.placing.place_labelled.Given as goal

abbrev pub invariant-labels : goal.invariant-labels
invariant-labels l = record {
  inside : l.at ≤ length l.tokens;
  notes : l.assembler.notes ≡ l.fn.assembler.notes;
  left : place_labelled l.fn.pos (map spelled (drop l.at l.tokens)) (placed_by l.assembler) ≡ place_labelled l.fn.pos (map spelled l.tokens) (placed_by l.fn.assembler);
}

abbrev pub decreases-labels : goal.decreases-labels
decreases-labels l = length l.tokens - l.at
