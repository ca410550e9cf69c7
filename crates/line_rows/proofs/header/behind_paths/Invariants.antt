use Rattle.std.proofs.Common.{◌≡◌, ◌-◌, ◌≤◌, length}
use Rattle.line_rows.specs.Header.{behind_paths}
use Rattle.line_rows.proofs.header.behind_paths.Given as goal

abbrev pub invariant-loop-i : goal.invariant-loop-i
invariant-loop-i l = (behind_paths (l.count - l._i) l.rest ≡ behind_paths l.count l.bytes) × (length l.rest ≤ length l.bytes)
