-- The labels so far, and those that are left.
use Rattle.std.proofs.Common.{◌≡◌, ◌≤◌, ◌-◌, ◌++◌, length, map, take, drop}
use Rattle.asm_base.specs.Tokens.{spelled}
use Rattle.macro_words.specs.Statements.{labels_of, behind_labels}
use Rattle.macro_words.proofs.heads.all_labels_length.Given as goal

abbrev pub invariant-labels : goal.invariant-labels
invariant-labels l = record {
  labels : take l.at (map spelled l.tokens) ++ labels_of (drop l.at (map spelled l.tokens)) ≡ labels_of (map spelled l.tokens);
  behind : behind_labels (drop l.at (map spelled l.tokens)) ≡ behind_labels (map spelled l.tokens);
  within : l.at ≤ length l.tokens;
}

abbrev pub decreases-labels : goal.decreases-labels
decreases-labels l = length l.tokens - l.at
