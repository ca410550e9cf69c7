-- Symbols in the texts of values (GNU as manual, "Symbol Names"), and sums of one symbol and numbers.
use Rattle.std.specs.Prelude.{ℕ, ◌+◌, ◌-◌, ◌==◌, ◌&&◌, ◌||◌, not, nat_lt, Bool, true, false, List, [], ◌∷◌, drop, length, Option, Some, None, slice_get, if◌then◌else◌}
use Rattle.std.specs.List.{list_any, list_all, prefix_len}
use Rattle.asm_base.specs.Tokens.{SpelledToken}
use Rattle.asm_base.specs.declared.tokens.TokenKind.{TokenKind}
use Rattle.asm_base.specs.declared.tokens.TokenKind.TheVariants.{Name, Digits, Character, String, Operator, Other}
use Rattle.expr_texts.specs.Leaves.{is_numeric_label}
use Rattle.att_operands.specs.Marks.{mark_by, mark_at}
use Rattle.intel_sums.specs.Sums.{is_loose}

-- the token is a symbol, a numeric label or the place
abbrev pub is_symbol_of : TokenKind → List ℕ → Bool
is_symbol_of Name bytes = true
is_symbol_of Digits bytes = is_numeric_label bytes
is_symbol_of Character bytes = false
is_symbol_of String bytes = true
is_symbol_of Operator bytes = false
is_symbol_of Other bytes = false

-- the same of a token
unfoldable pub is_symbol : SpelledToken → Bool
is_symbol token = is_symbol_of token.kind token.bytes

-- the same, if there is a token
abbrev pub is_symbol_by : Option SpelledToken → Bool
is_symbol_by None = false
is_symbol_by (Some token) = is_symbol token

-- one of the tokens is a symbol
unfoldable pub has_symbol : List SpelledToken → Bool
has_symbol text = list_any is_symbol text

-- the token is no symbol, no parenthesis, and binds no less tightly than `+`
unfoldable pub is_numeric : SpelledToken → Bool
is_numeric token = not (is_symbol token || (is_loose token || ((mark_by (Some token) == 40) || (mark_by (Some token) == 41))))

-- how many such tokens stand in front
abbrev pub numbers_in_front : List SpelledToken → ℕ
numbers_in_front text = prefix_len is_numeric text

-- no other tokens stand there
unfoldable pub are_numbers : List SpelledToken → Bool
are_numbers text = list_all is_numeric text

-- what stands behind a symbol, without its suffix
abbrev pub unsuffixed : List SpelledToken → List SpelledToken
unsuffixed text = if nat_lt 1 (length text) && (mark_at text 0 == 64) then drop 2 text else text

-- nothing, or `+` or `-` and numbers
abbrev pub adds_numbers : List SpelledToken → Bool
adds_numbers [] = true
adds_numbers (token ∷ rest) = ((mark_by (Some token) == 43) || (mark_by (Some token) == 45)) && are_numbers rest

-- nothing stands before this place, or a `+`
abbrev pub is_added : List SpelledToken → ℕ → Bool
is_added text at = (at == 0) || (mark_at text (at - 1) == 43)

-- the text is a symbol to which numbers are added, or none are, so many tokens standing before the symbol
abbrev pub adds_to_symbol : List SpelledToken → ℕ → Bool
adds_to_symbol text at = is_symbol_by (slice_get text at) && (is_added text at && adds_numbers (unsuffixed (drop (at + 1) text)))

-- the same, wherever the symbol stands
unfoldable pub names_place : List SpelledToken → Bool
names_place text = adds_to_symbol text (numbers_in_front text)
