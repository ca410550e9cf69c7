-- The terms so far are added.
use Rattle.std.proofs.Common.{◌≡◌, ◌+◌, ◌%◌, ◌^◌, take, sum_by}
use Rattle.asm_levels.specs.Distances.{times_shift}
use Rattle.asm_levels.proofs.distances.sum_value.Given as goal

abbrev pub invariant-loop-term : goal.invariant-loop-term
invariant-loop-term l = l.value ≡ (l.number + sum_by (times_shift l.shifts) (take l.term-index l.terms)) % 2 ^ 64
