-- Marks of punctuation, by their places among the tokens of a statement.
use Rattle.std.specs.Prelude.{ℕ, ◌==◌, ◌||◌, not, Bool, true, false, List, [], ◌∷◌, Option, Some, None, slice_get}
use Rattle.asm_base.specs.Tokens.{SpelledToken}
use Rattle.expr_texts.specs.Operators.{mark_of}

-- the byte of a mark of one byte, and 0 of anything else
abbrev pub mark_byte : List ℕ → ℕ
mark_byte [] = 0
mark_byte (byte ∷ []) = byte
mark_byte (first ∷ second ∷ rest) = 0

-- the mark that a token is, and 0 where there is none
unfoldable pub mark_by : Option SpelledToken → ℕ
mark_by None = 0
mark_by (Some token) = mark_byte (mark_of token)

-- the mark at this place, and 0 where there is none
abbrev pub mark_at : List SpelledToken → ℕ → ℕ
mark_at tokens at = mark_by (slice_get tokens at)

-- an operand ends at a comma or behind the last token
unfoldable pub ends_by : Option SpelledToken → Bool
ends_by None = true
ends_by (Some token) = mark_by (Some token) == 44

-- an operand ends at this place
abbrev pub ends_at : List SpelledToken → ℕ → Bool
ends_at tokens at = ends_by (slice_get tokens at)

-- something stands there that is no `%`, no `$`, no comma and no `*`
unfoldable pub begins_by : Option SpelledToken → Bool
begins_by None = false
begins_by (Some token) = not (mark_by (Some token) == 37 || mark_by (Some token) == 36 || mark_by (Some token) == 44 || mark_by (Some token) == 42)
