-- Functions began at the labels so far, and will at those that are left.
use Rattle.std.proofs.Common.{◌≡◌, ◌-◌, ◌≤◌, map, length, drop}
use Rattle.asm_base.specs.Tokens.{spelled}
use Rattle.asm_values.specs.PlacedBy.{placed_by}
use Rattle.asm_functions.specs.Following.{labels_begun}
use Rattle.asm_functions.proofs.functions.begin_functions.Given as goal

abbrev pub invariant-labels : goal.invariant-labels
invariant-labels l = record {
  inside : l.at ≤ length l.tokens;
  left : labels_begun l.fn.pos (map spelled (drop l.at l.tokens)) (placed_by l.assembler) l.functions ≡ labels_begun l.fn.pos (map spelled l.tokens) (placed_by l.assembler) l.fn.functions;
}

abbrev pub decreases-labels : goal.decreases-labels
decreases-labels l = length l.tokens - l.at
