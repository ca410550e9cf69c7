use Rattle.std.proofs.Common.{◌≡◌, ◌*◌, ◌^◌, ◌≤◌, length, ◌-◌}
use Rattle.line_rows.specs.Rows.{row_in_program}
use Rattle.line_rows.specs.Walks.{ran}
use Rattle.line_rows.proofs.running.row_in_program.Given as goal

abbrev pub invariant-loop-i : goal.invariant-loop-i
invariant-loop-i l =
    (ran l.fn.at (length l.program - l._i) l.rest l.walk ≡ row_in_program l.program l.fn.seq l.fn.at)
    × (length l.rest ≤ length l.program - l._i)
    × (l.walk.machine.address ≤ l._i * 2 ^ 64)
