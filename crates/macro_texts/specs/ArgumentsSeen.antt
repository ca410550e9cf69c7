-- Arguments of the program as the definitions have them, and one step of reading them.
use Rattle.std.specs.Prelude.{◌≡◌, ℕ, ◌+◌, ◌<◌, ◌≤◌, Bool, ◌||◌, nat_le, if◌then◌else◌, List, length, drop, map, Result, Ok, Err}
use Rattle.std.specs.List.{position_or_len}
use Rattle.asm_operands.specs.Operands.{is_comma}
use Rattle.asm_base.specs.Tokens.{SpelledToken, spelled}
use Rattle.asm_base.specs.declared.refusals.Refusal.{Refusal}
use Rattle.asm_base.specs.Refusals.{Fails}
use Rattle.macro_texts.specs.declared.causes.MacroLineCause.{MacroLineCause}
use Rattle.macro_texts.specs.declared.arguments.Given.{Given}
use Rattle.macro_texts.specs.declared.arguments.Passed.{Passed}
use Rattle.macro_texts.specs.declared.arguments.Argument.{Argument}
use Rattle.macro_texts.specs.TokenTexts.{value_seen}
use Rattle.macro_texts.specs.Parameters.{ParameterAs}
use Rattle.macro_texts.specs.PartLengths.{behind}
use Rattle.macro_texts.specs.Arguments.{GivenAs, ArgumentAs, arguments_of, given_from}

-- what is given, with its tokens as a list
abbrev pub given_seen : Given → GivenAs
given_seen given = record { parameter = given.parameter; rest = given.rest; tokens = map spelled given.tokens.now }

-- an argument with its texts as lists of bytes
abbrev pub argument_seen : Argument → ArgumentAs
argument_seen argument = record { name = argument.name.now; text = value_seen argument.value }

-- one argument more is read: what all give is what those so far and the others give
pub record IsArgumentRead (parameters : List ParameterAs) (old new : List GivenAs) (place : ℕ) (tokens : List SpelledToken) (passed : Passed) : Type 0 where
  pub some : 0 < passed.length
  pub within : passed.length ≤ length tokens
  pub gives : behind new (given_from parameters passed.place (arguments_of (drop passed.length tokens)))
      ≡ behind old (given_from parameters place (arguments_of tokens))

-- the first argument is read, or has a fault
abbrev pub ReadsArgument : List ParameterAs → List GivenAs → List GivenAs → ℕ → List SpelledToken → Result Passed (Refusal MacroLineCause) → Type 0
ReadsArgument parameters old new place tokens (Ok passed) = IsArgumentRead parameters old new place tokens passed
ReadsArgument parameters old new place tokens (Err refusal) =
    Fails refusal (behind old (given_from parameters place (arguments_of tokens)))

-- how many tokens an argument has with the comma behind it, or all where it takes the rest
abbrev pub passed_length : Bool → List SpelledToken → ℕ
passed_length rest tokens =
    if rest || nat_le (length tokens) (position_or_len is_comma tokens) then length tokens
    else position_or_len is_comma tokens + 1
