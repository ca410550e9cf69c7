-- The arguments of a call (GNU as manual, ".macro"): commas separate them, and each is for a parameter by its name or by its place.
use Rattle.std.specs.Prelude.{ℕ, suc, ◌==◌, Bool, true, false, not, ◌&&◌, ◌||◌, List, [], ◌∷◌, ◌++◌, length, take, drop, slice_get, if◌then◌else◌, Option, Some, None, Result, Ok, Err}
use Rattle.std.specs.List.{list_any, find, position_or_len}
use Rattle.std.specs.Option.{option_map}
use Rattle.asm_base.specs.Tokens.{SpelledToken}
use Rattle.asm_base.specs.Refusals.{◌>>=◌}
use Rattle.expr_texts.specs.Leaves.{between_quotes}
use Rattle.asm_operands.specs.Operands.{is_comma, is_mark, is_name}
use Rattle.macro_texts.specs.declared.causes.MacroLineCause.{MacroLineCause}
use Rattle.macro_texts.specs.declared.causes.MacroLineCause.TheVariants.{BadMacroLine, MissingArgument}
use Rattle.macro_texts.specs.declared.parameters.ParameterKind.{ParameterKind}
use Rattle.macro_texts.specs.declared.parameters.ParameterKind.TheVariants.{Optional, Required, Rest}
use Rattle.macro_texts.specs.TokenTexts.{is_string_kind, text_of, value_text}
use Rattle.macro_texts.specs.Parameters.{ParameterAs, is_named, is_rest_kind}

-- these tokens, if there are any
abbrev pub if_any : List SpelledToken → List (List SpelledToken)
if_any [] = []
if_any (token ∷ rest) = (token ∷ rest) ∷ []

-- the arguments that begin behind a comma, each with all that stands behind it
abbrev pub later_arguments : List SpelledToken → List (List SpelledToken)
later_arguments [] = []
later_arguments (token ∷ rest) =
    if is_comma token then if_any rest ++ later_arguments rest else later_arguments rest

-- the arguments of a call, each with all that stands behind it; nothing behind the last comma is none
abbrev pub arguments_of : List SpelledToken → List (List SpelledToken)
arguments_of tokens = if_any tokens ++ later_arguments tokens

-- what stands before the next comma
abbrev pub up_to_comma : List SpelledToken → List SpelledToken
up_to_comma tokens = take (position_or_len is_comma tokens) tokens

-- what a call gives to the parameter of this number, and whether that takes the rest
pub record GivenAs : Type 0 where
  pub parameter : ℕ
  pub rest : Bool
  pub tokens : List SpelledToken

-- what stands here, for a parameter that takes the rest or one that does not
abbrev pub taken_by : Bool → List SpelledToken → List SpelledToken
taken_by true tokens = tokens
taken_by false tokens = up_to_comma tokens

-- what stands here, given to the parameter of this number
abbrev pub gift_by : ℕ → Option ParameterAs → List SpelledToken → Result GivenAs MacroLineCause
gift_by number None tokens = Err BadMacroLine
gift_by number (Some parameter) tokens =
    Ok (record { parameter = number; rest = is_rest_kind parameter.kind; tokens = taken_by (is_rest_kind parameter.kind) tokens })

-- the same, where the call names a parameter, or has one at this place
abbrev pub gift : List ParameterAs → ℕ → List SpelledToken → Result GivenAs MacroLineCause
gift parameters number tokens = gift_by number (slice_get parameters number) tokens

-- an argument begins with a name and `=`
abbrev pub names_parameter : List SpelledToken → Bool
names_parameter [] = false
names_parameter (name ∷ []) = false
names_parameter (name ∷ mark ∷ rest) = is_name name && is_mark 61 mark

-- the bytes of the first token
abbrev pub first_bytes : List SpelledToken → List ℕ
first_bytes [] = []
first_bytes (token ∷ rest) = token.bytes

-- the number of the parameter of this name, or how many there are
abbrev pub number_named : List ParameterAs → List ℕ → ℕ
number_named parameters name = position_or_len (is_named name) parameters

-- what the argument gives that begins here, where this is the next place
abbrev pub given_by : List ParameterAs → ℕ → List SpelledToken → Result GivenAs MacroLineCause
given_by parameters place tokens =
    if names_parameter tokens then gift parameters (number_named parameters (first_bytes tokens)) (drop 2 tokens)
    else gift parameters place tokens

-- the place behind an argument: behind one by name there is none
abbrev pub place_behind : List ParameterAs → ℕ → List SpelledToken → ℕ
place_behind parameters place tokens = if names_parameter tokens then length parameters else suc place

-- what the arguments give, up to one that takes the rest
abbrev pub given_from : List ParameterAs → ℕ → List (List SpelledToken) → Result (List GivenAs) MacroLineCause
given_from parameters place [] = Ok []
given_from parameters place (tokens ∷ later) =
    given_by parameters place tokens >>= λ one.
    (if one.rest then Ok (one ∷ [])
    else (given_from parameters (place_behind parameters place tokens) later >>= λ others. Ok (one ∷ others)))

-- no token, or one string with nothing between its quotes
abbrev pub has_no_text : List SpelledToken → Bool
has_no_text [] = true
has_no_text (token ∷ []) = is_string_kind token.kind && length (between_quotes token.bytes) == 0
has_no_text (token ∷ next ∷ rest) = false

-- nothing is given
abbrev pub is_nothing_by : Bool → List SpelledToken → Bool
is_nothing_by true tokens = length tokens == 0
is_nothing_by false tokens = has_no_text tokens

-- a value for the parameter of this number
abbrev pub is_value_for : ℕ → GivenAs → Bool
is_value_for number given = given.parameter == number && not (is_nothing_by given.rest given.tokens)

-- no parameter has two values
abbrev pub given_once : List GivenAs → Bool
given_once [] = true
given_once (one ∷ others) =
    (is_nothing_by one.rest one.tokens || not (list_any (is_value_for one.parameter) others)) && given_once others

-- the text that is given: all of the rest with its commas, or one value
abbrev pub given_text : Bool → List SpelledToken → List ℕ
given_text true tokens = text_of tokens
given_text false tokens = value_text tokens

-- the text of a parameter to which no value is given
abbrev pub text_without : ParameterKind → List ℕ → Result (List ℕ) MacroLineCause
text_without Optional default = Ok default
text_without Required default = Err MissingArgument
text_without Rest default = Ok default

-- the text of what is given
abbrev pub text_given : GivenAs → List ℕ
text_given given = given_text given.rest given.tokens

-- the text of a parameter: that of the value that is given to it, or its default
abbrev pub text_by : Option (List ℕ) → ParameterAs → Result (List ℕ) MacroLineCause
text_by (Some text) parameter = Ok text
text_by None parameter = text_without parameter.kind parameter.default

-- a parameter with its text
pub record ArgumentAs : Type 0 where
  pub name : List ℕ
  pub text : List ℕ

-- the parameters from this number on, each with its text
abbrev pub filled : List GivenAs → ℕ → List ParameterAs → Result (List ArgumentAs) MacroLineCause
filled given number [] = Ok []
filled given number (parameter ∷ others) =
    text_by (option_map text_given (find (is_value_for number) given)) parameter >>= λ text. filled given (suc number) others
    >>= λ more. Ok (record { name = parameter.name; text = text } ∷ more)

-- the parameters with their texts, where no parameter has two values
unfoldable pub filled_once : List ParameterAs → List GivenAs → Result (List ArgumentAs) MacroLineCause
filled_once parameters given = if given_once given then filled given 0 parameters else Err BadMacroLine

-- the parameters of a macro with their texts in a call: a fault of the line comes before an argument that is missing
unfoldable pub call_arguments : List ParameterAs → List SpelledToken → Result (List ArgumentAs) MacroLineCause
call_arguments parameters tokens = given_from parameters 0 (arguments_of tokens) >>= filled_once parameters
