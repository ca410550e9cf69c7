-- What is passed holds no statement and no fault.
use Rattle.std.proofs.Common.{◌≤◌, ◌+◌, ◌-◌, length}
use Rattle.asm_lines.specs.Skips.{IsSkipped}
use Rattle.asm_lines.proofs.cursors.skip.Given as goal

abbrev pub invariant-loop-at : goal.invariant-loop-at
invariant-loop-at g l = record {
  skipped : IsSkipped l.source l.fn.from (record { at = l.at; line = l.line });
  looks : l.fn.from + l.steps ≤ l.fn.steps + l.at;
}

abbrev pub decreases-loop-at : goal.decreases-loop-at
decreases-loop-at g l = length l.source - l.at
