use Rattle.std.proofs.Common.{◌≡◌, drop}
use Rattle.line_rows.specs.Header.{behind_path}
use Rattle.line_rows.proofs.header.behind_path.Given as goal

abbrev pub invariant-loop-i : goal.invariant-loop-i
invariant-loop-i l = behind_path (drop l.i l.bytes) ≡ behind_path l.bytes
