-- A program run once, with the row that was found so far.
use Rattle.std.specs.Prelude.{◌≡◌, ℕ, zero, suc, ◌+◌, ◌-◌, List, Option, None, Some, nat_lt, nat_le, ◌==◌, ◌&&◌, if◌then◌else◌}
use Rattle.std.specs.Option.{option_and_then}
use Rattle.line_rows.specs.declared.rows.LineRow.{LineRow}
use Rattle.line_rows.specs.declared.rows.LineOp.{LineOp}
use Rattle.line_rows.specs.declared.running.Search.{Search}
use Rattle.line_rows.specs.declared.running.Search.TheVariants.{Looking, Done}
use Rattle.line_rows.specs.declared.running.Walk.{Walk}
use Rattle.line_rows.specs.Machine.{Line, Step, step}
use Rattle.line_rows.specs.Ops.{decoded}
use Rattle.line_rows.specs.Rows.{lines_from, row_at, row_in_lines}

-- the search behind a row
abbrev pub seen : ℕ → Line → Search → Search
seen at line (Done answer) = Done answer
seen at (place, Some row) (Looking left found) = if (left == 0) && nat_le place at then Looking 0 (Some row) else Looking left found
seen at (place, None) (Looking left found) = if nat_lt 0 left then Looking (left - 1) None else if nat_lt at place then Done found else Done None

-- the search behind an operation, which may append no row
abbrev pub seen_if : ℕ → Option Line → Search → Search
seen_if at None search = search
seen_if at (Some line) search = seen at line search

-- what a search comes to with the rows that are left
abbrev pub looked : ℕ → Search → List Line → Option LineRow
looked at (Done answer) lines = answer
looked at (Looking zero found) lines = row_at at found lines
looked at (Looking (suc left) found) lines = row_in_lines (suc left) at lines

-- what a walk comes to with the bytes that are left, of at most so many operations
abbrev pub ran : ℕ → ℕ → List ℕ → Walk → Option LineRow
ran at most bytes walk = option_and_then (looked at walk.search) (option_and_then (lines_from walk.machine) (decoded most bytes))

-- what a call that takes a step answers, and the walk behind it; none where the step has none
abbrev pub SeesStep : ℕ → Option Step → Search → Option (Unit {0}) → Walk → Type 0
SeesStep at None search answer new = answer ≡ None
SeesStep at (Some (machine, line)) search answer new =
    (answer ≡ Some tt) × (new ≡ record { machine = machine; search = seen_if at line search })

-- the same of an operation
abbrev pub Sees : ℕ → LineOp → Walk → Option (Unit {0}) → Walk → Type 0
Sees at op old answer new = SeesStep at (step op old.machine) old.search answer new

-- with the bytes that are left, or without an answer, the walk comes to the same
abbrev pub Continues : ℕ → List ℕ → Walk → Option (List ℕ) → Walk → Type 0
Continues at bytes old None new = (more : ℕ) → ran at (more + 1) bytes old ≡ None
Continues at bytes old (Some rest) new = (more : ℕ) → ran at (more + 1) bytes old ≡ ran at more rest new
