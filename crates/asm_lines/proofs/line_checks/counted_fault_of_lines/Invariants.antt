-- No fault of the lines stands before what is left.
use Rattle.std.proofs.Common.{◌≡◌, ◌≤◌, ◌+◌, ◌*◌, ◌-◌, length}
use Rattle.asm_lines.specs.LineNumbers.{line_of}
use Rattle.asm_lines.specs.NextStatements.{found_left}
use Rattle.asm_lines.proofs.line_checks.counted_fault_of_lines.Given as goal

abbrev pub invariant-loop-next : goal.invariant-loop-next
invariant-loop-next g l = record {
  faults : found_left l.source l.at ≡ found_left l.source 0;
  line : l.line ≡ line_of l.source l.at;
  within : l.at ≤ length l.source;
  looks : l.steps ≤ l.fn.steps + 2 * l.at;
}

abbrev pub decreases-loop-next : goal.decreases-loop-next
decreases-loop-next g l = length l.initial.source - l.at
