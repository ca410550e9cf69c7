-- The statements of a source, each with its file and line, or the first fault.
use Rattle.std.specs.Prelude.{ℕ, List, [], ◌∷◌, Option, Some, None, Result, Ok, Err}
use Rattle.std.specs.List.{filter_map}
use Rattle.asm_base.specs.Pieces.{Piece}
use Rattle.asm_base.specs.Dividing.{pieces_of}
use Rattle.asm_lines.specs.declared.faults.LineCause.{LineCause}
use Rattle.asm_lines.specs.declared.faults.Found.{Found}
use Rattle.asm_lines.specs.Intervals.{intervals_of, trimmed}
use Rattle.asm_lines.specs.LineNumbers.{line_of, end_of_pieces, bytes_between}
use Rattle.asm_lines.specs.Faults.{source_found}

-- a statement and its place: the bytes of the source from its first to its last, comments between them included
pub record StatementAt : Type 0 where
  pub file : ℕ
  pub line : ℕ
  pub bytes : List ℕ

-- the pieces as a statement, if there are any
abbrev pub statement_of : ℕ → List ℕ → List Piece → Option StatementAt
statement_of file source [] = None
statement_of file source (first ∷ others) =
    Some (record { file = file; line = line_of source first.start; bytes = bytes_between source first.start (end_of_pieces first others) })

-- the statement of an interval
abbrev pub statement_in : ℕ → List ℕ → List Piece → Option StatementAt
statement_in file source interval = statement_of file source (trimmed interval)

-- the statements, unless the source has a fault
abbrev pub unless_found : Option Found → List StatementAt → Result (List StatementAt) LineCause
unless_found None statements = Ok statements
unless_found (Some found) statements = Err found.fault

-- the first fault of a source that has these pieces, or else its statements
unfoldable pub statements_in : ℕ → List ℕ → List Piece → Result (List StatementAt) LineCause
statements_in file source pieces =
    unless_found (source_found source pieces) (filter_map (statement_in file source) (intervals_of pieces))

-- the first fault of a source, or else its statements
unfoldable pub statements_of : ℕ → List ℕ → Result (List StatementAt) LineCause
statements_of file source = statements_in file source (pieces_of source)
