-- Counts and conditions (GNU as manual, ".rept" and ".if"), by what is known where they stand.
use Rattle.std.specs.Prelude.{ℕ, ◌+◌, ◌^◌, ◌==◌, ◌&&◌, ◌||◌, not, nat_le, Bool, true, false, List, [], ◌∷◌, drop, length, if◌then◌else◌, Result, Ok, Err}
use Rattle.std.specs.List.{list_any}
use Rattle.std.specs.Str.{bytes_eq}
use Rattle.asm_base.specs.Tokens.{SpelledToken}
use Rattle.asm_base.specs.Refusals.{◌>>=◌}
use Rattle.asm_operands.specs.Operands.{is_comma}
use Rattle.macro_texts.specs.TokenTexts.{text_of}
use Rattle.macro_texts.specs.Arguments.{up_to_comma}
use Rattle.macro_words.specs.declared.causes.MacroCause.{MacroCause}
use Rattle.macro_words.specs.declared.causes.MacroCause.TheVariants.{BadMacroLine}
use Rattle.macro_words.specs.declared.words.Condition.{Condition}
use Rattle.macro_words.specs.declared.words.Condition.TheVariants.{NotZero, Zero, Negative, NotPositive, Positive, NotNegative, Defined, NotDefined, Blank, NotBlank, Same, Different}

-- what is known at a statement: the value modulo 2^64 of the one expression that operands are, and whether the one symbol that they name
-- is defined; or their fault
pub record Knowledge : Type 0 where
  pub value : List SpelledToken → Result ℕ MacroCause
  pub is_defined : List SpelledToken → Result Bool MacroCause

-- a value with its sign is below 0
abbrev pub is_negative : ℕ → Bool
is_negative n = nat_le (2 ^ 63) n

-- the count of a repeat: one below 0 counts as 0
abbrev pub count_of : ℕ → ℕ
count_of n = if is_negative n then 0 else n

-- how often a repeat stands with these operands, or their fault
unfoldable pub repeat_count : Knowledge → List SpelledToken → Result ℕ MacroCause
repeat_count known operands = known.value operands >>= λ n. Ok (count_of n)

-- what a condition asks of a value
abbrev pub asks : Condition → ℕ → Bool
asks NotZero n = not (n == 0)
asks Zero n = n == 0
asks Negative n = is_negative n
asks NotPositive n = is_negative n || n == 0
asks Positive n = not (is_negative n) && not (n == 0)
asks NotNegative n = not (is_negative n)
asks _ n = false

-- the same of the value of these operands
abbrev pub asked : Knowledge → Condition → List SpelledToken → Result Bool MacroCause
asked known condition operands = known.value operands >>= λ n. Ok (asks condition n)

-- no operand stands there
abbrev pub is_blank : List SpelledToken → Bool
is_blank [] = true
is_blank (token ∷ rest) = false

-- the texts before and behind the first comma are the same
abbrev pub same_texts : List SpelledToken → Result Bool MacroCause
same_texts operands =
    if list_any is_comma operands then Ok (bytes_eq (text_of (up_to_comma operands)) (text_of (drop (length (up_to_comma operands) + 1) operands)))
    else Err BadMacroLine

-- the opposite answer
abbrev pub opposite : Result Bool MacroCause → Result Bool MacroCause
opposite answer = answer >>= λ held. Ok (not held)

-- whether a condition holds with these operands, or its fault
unfoldable pub holds : Knowledge → Condition → List SpelledToken → Result Bool MacroCause
holds known Defined operands = known.is_defined operands
holds known NotDefined operands = opposite (known.is_defined operands)
holds known Blank operands = Ok (is_blank operands)
holds known NotBlank operands = Ok (not (is_blank operands))
holds known Same operands = same_texts operands
holds known Different operands = opposite (same_texts operands)
holds known condition operands = asked known condition operands
