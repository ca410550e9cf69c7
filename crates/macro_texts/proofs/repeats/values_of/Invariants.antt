-- The values so far, and those that are left.
use Rattle.std.proofs.Common.{◌≡◌, ◌≤◌, ◌-◌, ◌++◌, length, map, drop}
use Rattle.asm_base.specs.Tokens.{spelled}
use Rattle.macro_texts.specs.Repeats.{values_of}
use Rattle.macro_texts.specs.RepeatsSeen.{texts}
use Rattle.macro_texts.proofs.repeats.values_of.Given as goal

abbrev pub invariant-loop-at : goal.invariant-loop-at
invariant-loop-at l = record {
  read : texts l.values.items ++ values_of (map spelled (drop l.at l.tokens)) ≡ values_of (map spelled l.tokens);
  within : l.at ≤ length l.tokens;
}

abbrev pub decreases-loop-at : goal.decreases-loop-at
decreases-loop-at l = length l.tokens - l.at
