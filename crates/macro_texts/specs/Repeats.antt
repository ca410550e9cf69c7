-- The lines of `.irp` and `.irpc` (GNU as manual, ".irp" and ".irpc"): a name, and behind a comma what it stands for in each copy.
use Rattle.std.specs.Prelude.{ℕ, List, [], ◌∷◌, map, flat_map, if◌then◌else◌, Result, Ok, Err}
use Rattle.asm_base.specs.Tokens.{SpelledToken}
use Rattle.asm_base.specs.Refusals.{◌>>=◌}
use Rattle.asm_operands.specs.Operands.{is_comma, is_name}
use Rattle.macro_texts.specs.declared.causes.MacroLineCause.{MacroLineCause}
use Rattle.macro_texts.specs.declared.causes.MacroLineCause.TheVariants.{BadMacroLine}
use Rattle.macro_texts.specs.TokenTexts.{lone_text, value_text}
use Rattle.macro_texts.specs.Arguments.{arguments_of, up_to_comma}

-- the text of the value that begins here
abbrev pub first_value : List SpelledToken → List ℕ
first_value tokens = value_text (up_to_comma tokens)

-- the values between commas; nothing behind the last comma is none
abbrev pub values_of : List SpelledToken → List (List ℕ)
values_of tokens = map first_value (arguments_of tokens)

-- a byte alone
abbrev pub alone : ℕ → List ℕ
alone byte = byte ∷ []

-- the characters of tokens, those of a string between its quotes: blanks stand in strings alone
abbrev pub characters_of : List SpelledToken → List (List ℕ)
characters_of tokens = map alone (flat_map lone_text tokens)

-- the values, or else the empty text once
abbrev pub or_empty : List (List ℕ) → List (List ℕ)
or_empty [] = [] ∷ []
or_empty (value ∷ values) = value ∷ values

-- what stands behind the name: nothing, or a comma and values
abbrev pub behind_name : List SpelledToken → Result (List SpelledToken) MacroLineCause
behind_name [] = Ok []
behind_name (token ∷ rest) = if is_comma token then Ok rest else Err BadMacroLine

-- what a line of a repeat with values says: a name, and the text that it stands for in each copy
pub record EachLineAs : Type 0 where
  pub name : List ℕ
  pub values : List (List ℕ)

-- such a line, by what makes values of tokens
abbrev pub each_line : (List SpelledToken → List (List ℕ)) → List SpelledToken → Result EachLineAs MacroLineCause
each_line values [] = Err BadMacroLine
each_line values (token ∷ rest) =
    if is_name token then (behind_name rest >>= λ tokens. Ok (record { name = token.bytes; values = or_empty (values tokens) }))
    else Err BadMacroLine

-- what stands behind `.irp`
abbrev pub irp_line : List SpelledToken → Result EachLineAs MacroLineCause
irp_line tokens = each_line values_of tokens

-- what stands behind `.irpc`
abbrev pub irpc_line : List SpelledToken → Result EachLineAs MacroLineCause
irpc_line tokens = each_line characters_of tokens
