-- The tokens of the statement that begins a text, found in one pass over its bytes.
use Rattle.std.specs.Prelude.{◌≡◌, ℕ, zero, suc, ◌+◌, ◌-◌, ◌<◌, ◌≤◌, Bool, true, false, not, ◌&&◌, List, [], ◌∷◌, ◌++◌, length, drop, take, map, Option, Some, None, if◌then◌else◌}
use Rattle.asm_base.specs.Pieces.{Piece, is_space, ends_statement}
use Rattle.asm_base.specs.Dividing.{piece_kind, piece_length}
use Rattle.asm_base.specs.Tokens.{SpelledToken, spelled, token_kind, token_length, first_token}
use Rattle.asm_base.specs.declared.tokens.Token.{Token}
use Rattle.asm_lines.specs.Intervals.{without_space_after, own_length}
use Rattle.asm_lines.specs.LineNumbers.{line_of}
use Rattle.asm_lines.specs.Scan.{pieces_at, first_interval, later_pieces}
use Rattle.asm_lines.specs.declared.passing.Passed.{Passed}
use Rattle.asm_lines.specs.declared.statement_tokens.ReadStatement.{ReadStatement}
use Rattle.asm_lines.specs.declared.statement_tokens.ReadStatement.TheVariants.{Whole, Full, Unclosed}
use Rattle.asm_lexemes.specs.Lexemes.{is_unclosed}

-- the tokens up to the end of the statement, of the bytes from this offset on, the first few of which are left out
unfoldable pub first_tokens_from : ℕ → ℕ → List ℕ → List SpelledToken
first_tokens_from left_out offset [] = []
first_tokens_from (suc left_out) offset (byte ∷ rest) = first_tokens_from left_out (suc offset) rest
first_tokens_from zero offset (byte ∷ rest) =
    if ends_statement (piece_kind byte rest) then []
    else (if is_space (piece_kind byte rest) then first_tokens_from (piece_length (piece_kind byte rest) rest - 1) (suc offset) rest
    else (first_token offset byte rest ∷ first_tokens_from (token_length (token_kind byte rest) byte rest - 1) (suc offset) rest))

-- each of the pieces closes
unfoldable pub all_close : List Piece → Bool
all_close [] = true
all_close (piece ∷ pieces) = not (is_unclosed piece.kind) && all_close pieces

-- how long a statement is that has these pieces behind those that were passed, or how long it is without any
unfoldable pub own_behind : ℕ → ℕ → List Piece → ℕ
own_behind own passed [] = own
own_behind own passed (piece ∷ pieces) = passed + own_length (piece ∷ pieces)

-- how many bytes the statement has that begins at this offset, comments not counted
abbrev pub own_length_at : List ℕ → ℕ → ℕ
own_length_at source begin = own_length (without_space_after (first_interval (pieces_at source begin)))

-- what is known of the statement that begins at this offset, once all of it is read
pub record IsReadWhole (source : List ℕ) (begin : ℕ) (read : List Token) (next line_there : ℕ) : Type 0 where
  pub tokens : map spelled read ≡ first_tokens_from 0 0 (drop begin source)
  pub later : pieces_at source next ≡ later_pieces (pieces_at source begin)
  pub closed : all_close (first_interval (pieces_at source begin)) ≡ true
  pub short : begin + own_length_at source begin ≤ next
  pub line : line_there ≡ line_of source next
  pub within : next ≤ length source
  pub more : begin < next

-- the statement that begins at this offset is read up to another, which stands on the line, to the first so many of the tokens
pub record IsReadTo (source : List ℕ) (begin : ℕ) (read : List Token) (count at line_there : ℕ) : Type 0 where
  pub within : at ≤ length source
  pub begins : begin + count ≤ at
  pub room : count ≤ length read
  pub line : line_there ≡ line_of source at
  pub tokens : map spelled (take count read) ++ first_tokens_from 0 (at - begin) (drop at source) ≡ first_tokens_from 0 0 (drop begin source)
  pub later : later_pieces (pieces_at source at) ≡ later_pieces (pieces_at source begin)
  pub closed : all_close (first_interval (pieces_at source at)) ≡ all_close (first_interval (pieces_at source begin))
  pub short : begin + own_length_at source begin ≤ at + own_length_at source at

-- the statement is read to all these tokens and one more, wherever they stand
abbrev pub IsReadWith : List ℕ → ℕ → List Token → ℕ → ℕ → Token → Type 0
IsReadWith source begin tokens at line token = (read : List Token) → length tokens < length read
    → take (length tokens + 1) read ≡ tokens ++ token ∷ [] → IsReadTo source begin read (length tokens + 1) at line

-- the statement that begins at this offset is read to the first so many of these tokens, or has a piece that does not
-- close; or there are too few of them, and it is read to one more
abbrev pub ReadsTokens : List ℕ → ℕ → List Token → ReadStatement → Type 0
ReadsTokens source begin tokens (Whole next line count) =
    (count ≤ length tokens) × IsReadWhole source begin (take count tokens) next line
ReadsTokens source begin tokens (Full next line token) = IsReadWith source begin tokens next line token
ReadsTokens source begin tokens Unclosed = all_close (first_interval (pieces_at source begin)) ≡ false

-- the offset up to which the statement is read
abbrev pub read_up_to : List ℕ → ReadStatement → ℕ
read_up_to source (Whole next line count) = next
read_up_to source (Full next line token) = next
read_up_to source Unclosed = length source

-- all pieces of the statement that begins at this offset close, and it ends before another
pub record EndsAt (source : List ℕ) (begin next : ℕ) : Type 0 where
  pub later : pieces_at source next ≡ later_pieces (pieces_at source begin)
  pub closed : all_close (first_interval (pieces_at source begin)) ≡ true
  pub within : next ≤ length source

-- what is known of the statement that begins at this offset, once all of it is passed
pub record IsPassed (source : List ℕ) (begin : ℕ) (passed : Passed) : Type 0 where
  pub later : pieces_at source passed.next ≡ later_pieces (pieces_at source begin)
  pub closed : all_close (first_interval (pieces_at source begin)) ≡ true
  pub own : passed.own ≡ own_length_at source begin
  pub line : passed.line ≡ line_of source passed.next
  pub within : passed.next ≤ length source
  pub more : begin < passed.next

-- the statement that begins at this offset is passed, or has a piece that does not close
abbrev pub PassesStatement : List ℕ → ℕ → Option Passed → Type 0
PassesStatement source begin (Some passed) = IsPassed source begin passed
PassesStatement source begin None = all_close (first_interval (pieces_at source begin)) ≡ false
