-- What holds of the texts of all sums.
use Rattle.std.specs.Prelude.{◌≡◌, ◌==◌, ◌||◌, true, false, List, Some, Ok}
use Rattle.asm_base.specs.Tokens.{SpelledToken}
use Rattle.att_operands.specs.Marks.{mark_by}
use Rattle.intel_sums.specs.declared.parts.Parts.{Parts}
use Rattle.intel_sums.specs.declared.parts.Parts.TheVariants.{Nothing}
use Rattle.intel_sums.specs.Sums.{SumSoFar, no_sum, is_loose, is_register, depth_behind, sum_of, is_whole}
use Rattle.intel_sums.specs.Spells.{WritesSum}
use Rattle.intel_sums.specs.LoneSums.{is_calm}

-- a whole sum of these parts, of which this text is left
abbrev pub whole_sum : Parts → List SpelledToken → SumSoFar
whole_sum parts left = record { opened = true; depth = 0; passed = 0; parts = parts; text = left }

-- a text of a sum is read as it
abbrev pub SumsAreRead : Type 0
SumsAreRead = (parts : Parts) (left text : List SpelledToken) → WritesSum false 0 Nothing parts left text → sum_of (Ok no_sum) text ≡ Ok (whole_sum parts left)

-- a whole sum that is read is written there
abbrev pub SumsAreWritten : Type 0
SumsAreWritten = (sum : SumSoFar) (text : List SpelledToken) → sum_of (Ok no_sum) text ≡ Ok sum → is_whole sum ≡ true → WritesSum false 0 Nothing sum.parts sum.text text

-- a token that stays in the text of a sum, before its bracket and behind, and is no comma
pub record Stays (token : SpelledToken) : Type 0 where
  pub no_bracket : (mark_by (Some token) == 91) ≡ false
  pub no_plus : (mark_by (Some token) == 43) ≡ false
  pub no_comma : (mark_by (Some token) == 44) ≡ false
  pub right : (is_register token || is_loose token) ≡ false
  pub level : depth_behind 0 (mark_by (Some token)) ≡ Some 0

-- a number, a name that is no register, or `-` stays
abbrev pub CalmTokensStay : Type 0
CalmTokensStay = (token : SpelledToken) → is_calm token ≡ true → Stays token
