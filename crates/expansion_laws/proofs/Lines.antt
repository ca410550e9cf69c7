-- The statements of texts that are bytes.
use Rattle.std.proofs.Common.{◌-◌, ℕ, List, [], ◌∷◌, map, drop, Result, Ok, Err, IfSome, IfOk, All, nat_lt, length, filter_map}
use Rattle.std.proofs.lemmas.List.Elements.{All-drop, All-map, All-take, All-weaker}
use Rattle.asm_base.specs.Pieces.{Piece}
use Rattle.asm_base.specs.Dividing.{pieces_of}
use Rattle.asm_base.specs.WholeFile.{most_bytes}
use Rattle.asm_base.specs.declared.positions.Pos.{Pos}
use Rattle.asm_lines.specs.declared.faults.LineCause.{LineCause}
use Rattle.asm_lines.specs.Faults.{source_found}
use Rattle.asm_lines.specs.Intervals.{intervals_of, trimmed}
use Rattle.asm_lines.specs.LineNumbers.{end_of_pieces}
use Rattle.asm_lines.specs.Statements.{StatementAt, statement_in, statement_of, statements_in, statements_of, unless_found}
use Rattle.asm_lines.specs.NextStatements.{in_tokens}
use Rattle.macro_words.specs.Files.{file_statements, in_file}
use Rattle.macro_words.specs.Statements.{made_by, made_statements, standing_at}
use Rattle.form_laws.specs.Numbers.{IsSpelled, TokensAreInBytes}
use Rattle.expansion_laws.specs.Handing.{IsBytes}
use Rattle.expansion_laws.proofs.Elements.{each_some, either_ok, either_way}
use Rattle.expansion_laws.proofs.Texts.{IsByte}

-- the statement is bytes
abbrev pub IsLine : StatementAt → Type 0
IsLine statement = IsBytes statement.bytes

line_in_bytes : (file : ℕ) (source : List ℕ) (interval : List Piece) → IsBytes source → IfSome (statement_of file source interval) IsLine
line_in_bytes file source [] all = tt
line_in_bytes file source (first ∷ others) all =
    All-take IsByte (end_of_pieces first others - first.start) (drop first.start source) (All-drop IsByte first.start source all)

pub lines_in_bytes : (file : ℕ) (source : List ℕ) → IsBytes source → IfOk (statements_of file source) (All IsLine)
unfolding statements_of statements_in
lines_in_bytes file source all =
    let statements = filter_map (statement_in file source) (intervals_of (pieces_of source)) in
    either_way (λ found. IfOk (unless_found found statements) (All IsLine)) (source_found source (pieces_of source))
    (each_some IsLine (statement_in file source) (intervals_of (pieces_of source)) (λ interval. line_in_bytes file source (trimmed interval) all)) (λ found. tt)

module _ (read : TokensAreInBytes) where
  pub tokens_spelled : (statements : List StatementAt) → All IsLine statements → All IsSpelled (map in_tokens statements)
  tokens_spelled statements all =
      All-map IsSpelled in_tokens statements (All-weaker IsLine (λ statement. IsSpelled (in_tokens statement)) (λ statement is. read statement.bytes is) statements all)

  made_by_spelled : (pos : Pos) (made : Result (List StatementAt) LineCause) → IfOk made (All IsLine) → IfOk (made_by pos made) (All IsSpelled)
  made_by_spelled pos (Ok statements) all =
      All-map IsSpelled (λ statement. standing_at pos (in_tokens statement)) statements
      (All-weaker IsLine (λ statement. IsSpelled (standing_at pos (in_tokens statement))) (λ statement is. read statement.bytes is) statements all)
  made_by_spelled pos (Err cause) all = tt

  -- the statements of a text that is made
  pub made_spelled : (pos : Pos) (text : List ℕ) → IsBytes text → IfOk (made_statements pos text) (All IsSpelled)
  unfolding made_statements
  made_spelled pos text all = made_by_spelled pos (statements_of 0 text) (lines_in_bytes 0 text all)

  in_file_spelled : (lines : Result (List StatementAt) LineCause) → IfOk lines (All IsLine) → IfOk (in_file lines) (All IsSpelled)
  in_file_spelled (Ok statements) all = tokens_spelled statements all
  in_file_spelled (Err cause) all = tt

  -- those of a file
  pub file_spelled : (file : ℕ) (bytes : List ℕ) → IsBytes bytes → IfOk (file_statements file bytes) (All IsSpelled)
  unfolding file_statements
  file_spelled file bytes all =
      either_ok (All IsSpelled) (nat_lt most_bytes (length bytes)) _ (in_file (statements_of file bytes)) tt (in_file_spelled (statements_of file bytes) (lines_in_bytes file bytes all))
