-- The bytes so far, and the value of those that are left, are the value of all.
use Rattle.std.proofs.Common.{◌≡◌, ◌≤◌, ◌-◌, ◌++◌, length, drop}
use Rattle.asm_base.specs.Strings.{string_value}
use Rattle.asm_base.proofs.strings.string_value.Given as goal

abbrev pub invariant-loop-first : goal.invariant-loop-first
invariant-loop-first l = record {
  within : l.at ≤ length l.inner;
  all : l.bytes.items ++ string_value (drop l.at l.inner) ≡ string_value l.inner;
}

abbrev pub decreases-loop-first : goal.decreases-loop-first
decreases-loop-first l = length l.initial.inner - l.at
