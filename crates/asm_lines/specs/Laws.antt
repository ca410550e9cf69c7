-- What holds of the statements of every source.
use Rattle.std.specs.Prelude.{◌≡◌, ◌≢◌, ℕ, ◌≤◌, false, List, [], ◌∷◌, ◌++◌, All, flat_map}
use Rattle.std.specs.List.{AllPairs}
use Rattle.asm_base.specs.Pieces.{Piece, ends_statement, is_space}
use Rattle.asm_base.specs.Dividing.{pieces_of}
use Rattle.asm_lines.specs.LineNumbers.{line_of}
use Rattle.asm_lines.specs.Faults.{longest_statement}
use Rattle.asm_lines.specs.Intervals.{own_length}
use Rattle.asm_lines.specs.Statements.{StatementAt}

-- the last of these pieces
abbrev pub last_of : Piece → List Piece → Piece
last_of piece [] = piece
last_of piece (next ∷ others) = last_of next others

-- the statement is whole pieces of the source, none ends a statement, and it neither begins nor ends with a blank or a comment
pub record IsRun (source : List ℕ) (statement : StatementAt) : Type 0 where
  pub before : List Piece
  pub first : Piece
  pub others : List Piece
  pub after : List Piece
  pub stands : pieces_of source ≡ before ++ (first ∷ others) ++ after
  pub spells : statement.bytes ≡ flat_map (λ piece. piece.bytes) (first ∷ others)
  pub line : statement.line ≡ line_of source first.start
  pub whole : All (λ piece. ends_statement piece.kind ≡ false) (first ∷ others)
  pub begins : is_space first.kind ≡ false
  pub ends : is_space (last_of first others).kind ≡ false
  pub fits : own_length (first ∷ others) ≤ longest_statement

-- no byte of it is 0
abbrev pub HasNoNul : StatementAt → Type 0
HasNoNul statement = All (λ byte. byte ≢ 0) statement.bytes

-- no statement stands on a line before that of an earlier one
abbrev pub LinesNeverFall : List StatementAt → Type 0
LinesNeverFall statements = AllPairs (λ earlier later. earlier.line ≤ later.line) statements
