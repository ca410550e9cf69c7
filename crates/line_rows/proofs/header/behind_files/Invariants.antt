use Rattle.std.proofs.Common.{◌≡◌, ◌-◌, ◌≤◌, length}
use Rattle.line_rows.specs.Header.{behind_files}
use Rattle.line_rows.proofs.header.behind_files.Given as goal

abbrev pub invariant-loop-i : goal.invariant-loop-i
invariant-loop-i l = (behind_files (l.count - l._i) l.rest ≡ behind_files l.count l.bytes) × (length l.rest ≤ length l.bytes)
