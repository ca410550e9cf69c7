-- The rows that a line program appends, and the row in force at a place of a sequence (DWARF 5, sections 6.2.2 and 6.2.5.3).
use Rattle.std.specs.Prelude.{ℕ, zero, suc, List, [], ◌∷◌, Option, None, Some, length, nat_lt, nat_le, if◌then◌else◌}
use Rattle.std.specs.Option.{option_map, option_and_then}
use Rattle.line_rows.specs.declared.rows.LineRow.{LineRow}
use Rattle.line_rows.specs.declared.rows.LineOp.{LineOp}
use Rattle.line_rows.specs.declared.machine.Machine.{Machine}
use Rattle.line_rows.specs.Machine.{Line, start, step}
use Rattle.line_rows.specs.Ops.{decoded}

-- a row that was appended, if there is one, before those behind it
abbrev pub before_lines : Option Line → List Line → List Line
before_lines None lines = lines
before_lines (Some line) lines = line ∷ lines

-- the rows that operations append, if all can be run
abbrev pub lines_from : Machine → List LineOp → Option (List Line)
lines_from machine [] = Some []
lines_from machine (op ∷ ops) =
    option_and_then (λ done. option_map (before_lines done.1) (lines_from done.0 ops)) (step op machine)

-- the rows of a program
abbrev pub lines_of : List ℕ → Option (List Line)
lines_of program = option_and_then (lines_from start) (decoded (length program) program)

-- the last row at or before a place; none at the end and past it, and where there is no end
abbrev pub row_at : ℕ → Option LineRow → List Line → Option LineRow
row_at at found [] = None
row_at at found ((place, None) ∷ lines) = if nat_lt at place then found else None
row_at at found ((place, Some row) ∷ lines) = row_at at (if nat_le place at then Some row else found) lines

-- what stands behind the first sequence
abbrev pub behind_end : List Line → List Line
behind_end [] = []
behind_end ((place, None) ∷ lines) = lines
behind_end ((place, Some row) ∷ lines) = behind_end lines

-- the row in force at a place of the sequence of a number
abbrev pub row_in_lines : ℕ → ℕ → List Line → Option LineRow
row_in_lines zero at lines = row_at at None lines
row_in_lines (suc seq) at lines = row_in_lines seq at (behind_end lines)

-- the same by a program's bytes
unfoldable pub row_in_program : List ℕ → ℕ → ℕ → Option LineRow
row_in_program program seq at = option_and_then (row_in_lines seq at) (lines_of program)
