-- A text in pieces: words, marks and blanks, no two words side by side (GNU as manual, chapter 3, "Syntax").
use Rattle.std.specs.Prelude.{ℕ, ◌+◌, ◌==◌, ◌&&◌, ◌||◌, not, Bool, true, false, if◌then◌else◌, List, [], ◌∷◌, ◌++◌, length, codes}
use Rattle.std.specs.List.{list_all, list_any}
use Rattle.std.specs.Char.{is_ascii_digit}
use Rattle.asm_base.specs.ByteClasses.{is_name_start, is_name_byte}
use Rattle.asm_base.specs.declared.tokens.TokenKind.{TokenKind}
use Rattle.asm_base.specs.declared.tokens.TokenKind.TheVariants.{Name, Digits, Operator}
use Rattle.asm_base.specs.Tokens.{SpelledToken}

-- a piece of a text
pub data PrintedPiece : Type 0 where
  -- a name or a number
  word : List ℕ → PrintedPiece
  mark : ℕ → PrintedPiece
  blank : PrintedPiece

-- its bytes
abbrev pub piece_bytes : PrintedPiece → List ℕ
piece_bytes (word bytes) = bytes
piece_bytes (mark byte) = byte ∷ []
piece_bytes blank = 32 ∷ []

-- the text of pieces
abbrev pub text_in : List PrintedPiece → List ℕ
text_in [] = []
text_in (piece ∷ pieces) = piece_bytes piece ++ text_in pieces

-- the class of a word, by its first byte
abbrev pub word_kind : List ℕ → TokenKind
word_kind [] = Name
word_kind (first ∷ rest) = if is_ascii_digit first then Digits else Name

-- a token of this class
abbrev pub made : TokenKind → List ℕ → ℕ → SpelledToken
made kind bytes start = record { kind = kind; bytes = bytes; start = start }

-- the words and marks as tokens, from this offset on
abbrev pub tokens_in : ℕ → List PrintedPiece → List SpelledToken
tokens_in offset [] = []
tokens_in offset (word bytes ∷ pieces) = made (word_kind bytes) bytes offset ∷ tokens_in (offset + length bytes) pieces
tokens_in offset (mark byte ∷ pieces) = made Operator (byte ∷ []) offset ∷ tokens_in (offset + 1) pieces
tokens_in offset (blank ∷ pieces) = tokens_in (offset + 1) pieces

-- the byte is a token whatever is after it
unfoldable pub is_mark : ℕ → Bool
is_mark byte = list_any (λ (mark : ℕ). mark == byte) (codes "%$(),*:+-[]")

-- a name or a number, whole
abbrev pub is_word : List ℕ → Bool
is_word [] = false
is_word (first ∷ rest) = (is_name_start first || is_ascii_digit first) && list_all is_name_byte rest

-- the piece in front would go on a word
abbrev pub goes_on : List PrintedPiece → Bool
goes_on [] = false
goes_on (word bytes ∷ pieces) = true
goes_on (mark byte ∷ pieces) = byte == 36
goes_on (blank ∷ pieces) = false

-- each piece is what it is for, and no word is followed by what would go on it
abbrev pub are_apart : List PrintedPiece → Bool
are_apart [] = true
are_apart (word bytes ∷ pieces) = is_word bytes && (not (goes_on pieces) && are_apart pieces)
are_apart (mark byte ∷ pieces) = is_mark byte && are_apart pieces
are_apart (blank ∷ pieces) = are_apart pieces
