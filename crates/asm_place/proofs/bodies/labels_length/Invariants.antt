-- What stands from the place on has the same behind its labels as all tokens have.
use Rattle.std.proofs.Common.{◌≡◌, ◌-◌, ◌≤◌, map, length, drop}
use Rattle.asm_base.specs.Tokens.{spelled}
use Rattle.asm_place.specs.Instructions.{behind_labels}
use Rattle.asm_place.proofs.bodies.labels_length.Given as goal

abbrev pub invariant-labels : goal.invariant-labels
invariant-labels l = record {
  inside : l.at ≤ length l.tokens;
  left : behind_labels (map spelled (drop l.at l.tokens)) ≡ behind_labels (map spelled l.tokens);
}

abbrev pub decreases-labels : goal.decreases-labels
decreases-labels l = length l.tokens - l.at
