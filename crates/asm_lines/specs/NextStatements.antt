-- What stands next in a source: a statement as its tokens, the end, or a fault of its lines.
use Rattle.std.specs.Prelude.{◌≡◌, ℕ, ◌-◌, ◌<◌, ◌≤◌, List, [], ◌∷◌, length, take, map, Option, Some, None, Ok, Err}
use Rattle.std.specs.List.{filter_map}
use Rattle.asm_base.specs.Tokens.{SpelledToken, spelled, tokens_of}
use Rattle.asm_base.specs.declared.tokens.Token.{Token}
use Rattle.asm_lines.specs.declared.faults.Found.{Found}
use Rattle.asm_lines.specs.declared.faults.LineCause.{LineCause}
use Rattle.asm_lines.specs.declared.cursors.NextStatement.{NextStatement}
use Rattle.asm_lines.specs.declared.cursors.NextStatement.TheVariants.{Statement, End, Faulty}
use Rattle.asm_lines.specs.Intervals.{intervals_of}
use Rattle.asm_lines.specs.LineNumbers.{line_of}
use Rattle.asm_lines.specs.Faults.{earlier, first_long, first_open}
use Rattle.asm_lines.specs.Statements.{StatementAt, statement_in, statements_of}
use Rattle.asm_lines.specs.Scan.{pieces_at}

-- a statement as its tokens, with its file and line
pub record TokenStatement : Type 0 where
  pub file : ℕ
  pub line : ℕ
  pub tokens : List SpelledToken

-- the statement with its tokens in place of its bytes
abbrev pub in_tokens : StatementAt → TokenStatement
in_tokens statement =
    record { file = statement.file; line = statement.line; tokens = tokens_of statement.bytes }

-- the statement of this file that was read to these tokens, and begins on this line
abbrev pub next_in_tokens : ℕ → ℕ → List Token → TokenStatement
next_in_tokens file line read = record { file = file; line = line; tokens = map spelled read }

-- the statements from an offset on
unfoldable pub statements_left : ℕ → List ℕ → ℕ → List StatementAt
statements_left file source at =
    filter_map (statement_in file source) (intervals_of (pieces_at source at))

-- the first fault of the lines from an offset on, but for a byte 0
unfoldable pub found_left : List ℕ → ℕ → Option Found
found_left source at =
    earlier (first_open source (pieces_at source at)) (first_long source (intervals_of (pieces_at source at)))

-- a statement stands next, on this line and with these tokens, and what is left behind it
pub record IsNext (source : List ℕ) (at : ℕ) (read : List Token) (line next line_there : ℕ) : Type 0 where
  pub statements : (file : ℕ)
      → map in_tokens (statements_left file source at)
      ≡ next_in_tokens file line read ∷ map in_tokens (statements_left file source next)
  pub faults : found_left source at ≡ found_left source next
  pub there : line_there ≡ line_of source next
  pub within : next ≤ length source
  pub more : at < next

-- nothing is left
pub record IsEnd (source : List ℕ) (at : ℕ) : Type 0 where
  pub statements : (file : ℕ) → statements_left file source at ≡ []
  pub faults : found_left source at ≡ None

-- what stands next; a statement is the first so many of the tokens
abbrev pub StandsNext : List ℕ → ℕ → List Token → NextStatement → Type 0
StandsNext source at read (Statement line next there count) =
    (count ≤ length read) × IsNext source at (take count read) line next there
StandsNext source at read End = IsEnd source at
StandsNext source at read Faulty = (found : Found) × (found_left source at ≡ Some found)

-- how many bytes are passed to find what stands next: up to the end of the source where no statement does
abbrev pub bytes_passed : List ℕ → ℕ → NextStatement → ℕ
bytes_passed source from (Statement line next there count) = next - from
bytes_passed source from End = length source - from
bytes_passed source from Faulty = length source - from

-- the lines of a text have no fault: its statements are those that are left at its beginning
pub record HasNoLineFault (file : ℕ) (text : List ℕ) : Type 0 where
  pub statements : statements_of file text ≡ Ok (statements_left file text 0)
  pub faults : found_left text 0 ≡ None

-- the first fault of the lines of a text, or that they have none
abbrev pub IsLineCheck : ℕ → List ℕ → Option LineCause → Type 0
IsLineCheck file text (Some cause) = statements_of file text ≡ Err cause
IsLineCheck file text None = HasNoLineFault file text
