use Rattle.std.proofs.Common.{◌≡◌, ◌+◌, ◌≤◌, ◌++◌, drop}
use Rattle.arrayvec.specs.ArrayVec.{array_vec_len}
use Rattle.cfi_rows.specs.Differences.{rule_changes, differences}
use Rattle.cfi_rows.proofs.differences.diff.Given as goal

abbrev pub invariant-loop-number : goal.invariant-loop-number
invariant-loop-number l =
    (l.ops.items ++ rule_changes l.number (drop l.number l.fn.from.rules) (drop l.number l.fn.to.rules) ≡ differences l.fn.from l.fn.to)
    × (array_vec_len l.ops ≤ 1 + l.number)
