-- Included files (GNU as manual, ".include"): the name that a line has, and the statements of a file.
use Rattle.std.specs.Prelude.{ℕ, ◌==◌, ◌&&◌, not, nat_lt, Bool, List, [], ◌∷◌, length, map, if◌then◌else◌, Result, Ok, Err}
use Rattle.std.specs.List.{list_any}
use Rattle.std.specs.Str.{is_utf8}
use Rattle.asm_base.specs.Tokens.{SpelledToken}
use Rattle.asm_base.specs.Strings.{string_value}
use Rattle.asm_base.specs.WholeFile.{most_bytes}
use Rattle.asm_lines.specs.declared.faults.LineCause.{LineCause}
use Rattle.asm_lines.specs.declared.faults.LineCause.TheVariants as lines
use Rattle.asm_lines.specs.Statements.{StatementAt, statements_of}
use Rattle.asm_lines.specs.NextStatements.{TokenStatement, in_tokens}
use Rattle.expr_texts.specs.Leaves.{between_quotes}
use Rattle.macro_texts.specs.TokenTexts.{is_string_kind}
use Rattle.macro_words.specs.declared.causes.MacroCause.{MacroCause}
use Rattle.macro_words.specs.declared.causes.MacroCause.TheVariants.{BadMacroLine, BadFileName, FileTooLarge}
use Rattle.macro_words.specs.Statements.{line_cause}

-- some bytes, none of them 0
abbrev pub may_name : List ℕ → Bool
may_name bytes = not (length bytes == 0) && not (list_any (λ byte. byte == 0) bytes)

-- a name of a file: some bytes, none of them 0, that are UTF-8
abbrev pub checked_name : List ℕ → Result (List ℕ) MacroCause
checked_name name = if may_name name && is_utf8 name then Ok name else Err BadFileName

-- the name that one string is
abbrev pub file_name : List SpelledToken → Result (List ℕ) MacroCause
file_name [] = Err BadMacroLine
file_name (token ∷ []) = if is_string_kind token.kind then checked_name (string_value (between_quotes token.bytes)) else Err BadMacroLine
file_name (token ∷ next ∷ rest) = Err BadMacroLine

-- a fault of a file, with the line where it stands
pub record FileFault : Type 0 where
  pub cause : MacroCause
  pub line : ℕ

-- the line of a fault of the lines
abbrev pub line_of_cause : LineCause → ℕ
line_of_cause (lines.NulByte line) = line
line_of_cause (lines.UnclosedString line) = line
line_of_cause (lines.UnclosedComment line) = line
line_of_cause (lines.StatementTooLong line) = line

-- the statements of a file, or the fault of its lines
abbrev pub in_file : Result (List StatementAt) LineCause → Result (List TokenStatement) FileFault
in_file (Ok statements) = Ok (map in_tokens statements)
in_file (Err cause) = Err (record { cause = line_cause cause; line = line_of_cause cause })

-- the statements of the file of this number, or its fault
unfoldable pub file_statements : ℕ → List ℕ → Result (List TokenStatement) FileFault
file_statements file bytes =
    if nat_lt most_bytes (length bytes) then Err (record { cause = FileTooLarge; line = 1 }) else in_file (statements_of file bytes)
