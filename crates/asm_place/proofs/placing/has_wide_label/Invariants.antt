-- No label so far has a number that is too wide.
use Rattle.std.proofs.Common.{◌≡◌, ◌-◌, ◌≤◌, map, length, drop}
use Rattle.asm_base.specs.Tokens.{spelled}
use Rattle.asm_place.specs.Placing.{has_wide_label}
use Rattle.asm_place.proofs.placing.has_wide_label.Given as goal

abbrev pub invariant-labels : goal.invariant-labels
invariant-labels l = record {
  inside : l.at ≤ length l.tokens;
  left : has_wide_label (map spelled (drop l.at l.tokens)) ≡ has_wide_label (map spelled l.tokens);
}

abbrev pub decreases-labels : goal.decreases-labels
decreases-labels l = length l.tokens - l.at
