-- The numbers and names that one token spells (GNU as manual, "Numbers", "Symbol Names" and "Local Labels").
use Rattle.std.specs.Prelude.{ℕ, ◌-◌, ◌==◌, ◌&&◌, ◌||◌, not, Bool, List, [], ◌∷◌, length, take, drop, slice_index, if◌then◌else◌, Result, Ok, Err, codes}
use Rattle.std.specs.List.{list_all, list_any}
use Rattle.std.specs.Str.{bytes_eq}
use Rattle.asm_base.specs.declared.tokens.TokenKind.{TokenKind}
use Rattle.asm_base.specs.declared.tokens.TokenKind.TheVariants.{Name, Digits, Character, String}
use Rattle.asm_base.specs.Digits.{is_digit_of}
use Rattle.asm_base.specs.Strings.{string_value}
use Rattle.asm_base.specs.Tokens.{SpelledToken}
use Rattle.asm_expr.specs.declared.faults.ExprCause.{ExprCause}
use Rattle.asm_expr.specs.declared.faults.ExprCause.TheVariants.{BadExpression}
use Rattle.asm_expr.specs.declared.trees.Written.{Written}
use Rattle.asm_expr.specs.declared.trees.Written.TheVariants.{Plain, Back, Next}
use Rattle.asm_expr.specs.Trees.{Tree, number, name, here}
use Rattle.asm_base.specs.Refusals.{◌>>=◌}
use Rattle.expr_texts.specs.Numbers.{numeral, spelled_number}

-- the code of the byte behind the quote
unfoldable pub character_code : List ℕ → Result ℕ ExprCause
character_code [] = Err BadExpression
character_code (quote ∷ []) = Err BadExpression
character_code (quote ∷ byte ∷ rest) = Ok byte

-- what stands between the quotes of a string
abbrev pub between_quotes : List ℕ → List ℕ
between_quotes string = take (length string - 2) (drop 1 string)

-- a string table can hold the name: it has some bytes, and none of them is 0
abbrev pub is_symbol_name : List ℕ → Bool
is_symbol_name text = not (length text == 0) && not (list_any (λ byte. byte == 0) text)

-- the last byte, and the bytes before it
abbrev pub last_byte : List ℕ → ℕ
last_byte bytes = slice_index bytes (length bytes - 1)

-- the bytes but the last
abbrev pub without_last : List ℕ → List ℕ
without_last bytes = take (length bytes - 1) bytes

-- decimal digits and a `b` or an `f`: a numeric label, the last one before or the next one behind
abbrev pub is_numeric_label : List ℕ → Bool
is_numeric_label digits = (last_byte digits == 98 || last_byte digits == 102) && list_all (is_digit_of 10) (without_last digits)

-- the numeric label of this number in this direction: behind for `b`, ahead for `f`
abbrev pub label_written : ℕ → ℕ → Written
label_written direction n = if direction == 98 then Back n else Next n

-- what a token of digits spells: a numeric label, or else a number
unfoldable pub digits_leaf : List ℕ → Result Tree ExprCause
digits_leaf digits =
    if is_numeric_label digits then numeral 10 (without_last digits) >>= (λ n. Ok (name (label_written (last_byte digits) n)))
    else spelled_number digits >>= (λ n. Ok (number n))

-- what a token that is a word spells: the place, or a name
abbrev pub word_leaf : List ℕ → Tree
word_leaf bytes = if bytes_eq bytes (codes ".") then here else name (Plain bytes)

-- what a string spells in place of a name
abbrev pub quoted_leaf : List ℕ → Result Tree ExprCause
quoted_leaf text = if is_symbol_name text then Ok (name (Plain text)) else Err BadExpression

-- what a token of this class spells
abbrev pub leaf_by : TokenKind → List ℕ → Result Tree ExprCause
leaf_by Name bytes = Ok (word_leaf bytes)
leaf_by Digits bytes = digits_leaf bytes
leaf_by Character bytes = character_code bytes >>= (λ n. Ok (number n))
leaf_by String bytes = quoted_leaf (string_value (between_quotes bytes))
leaf_by _ bytes = Err BadExpression

-- the number or the name that a token spells
unfoldable pub leaf_of : SpelledToken → Result Tree ExprCause
leaf_of token = leaf_by token.kind token.bytes
