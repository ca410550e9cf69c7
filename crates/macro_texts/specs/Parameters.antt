-- The line of `.macro`: a name, and parameters between commas or blanks (GNU as manual, ".macro").
use Rattle.std.specs.Prelude.{ℕ, Bool, true, false, not, ◌&&◌, ◌||◌, List, [], ◌∷◌, codes, if◌then◌else◌, Result, Ok, Err}
use Rattle.std.specs.List.{list_any}
use Rattle.std.specs.Str.{bytes_eq}
use Rattle.asm_base.specs.Tokens.{SpelledToken}
use Rattle.asm_base.specs.Refusals.{◌>>=◌}
use Rattle.asm_operands.specs.Operands.{is_comma, is_mark, is_name}
use Rattle.macro_texts.specs.declared.causes.MacroLineCause.{MacroLineCause}
use Rattle.macro_texts.specs.declared.causes.MacroLineCause.TheVariants.{BadMacroLine}
use Rattle.macro_texts.specs.declared.parameters.ParameterKind.{ParameterKind}
use Rattle.macro_texts.specs.declared.parameters.ParameterKind.TheVariants.{Optional, Required, Rest}
use Rattle.macro_texts.specs.TokenTexts.{follows, value_text}

-- a parameter: its name, what it asks of a call, and the text that it has without an argument
pub record ParameterAs : Type 0 where
  pub name : List ℕ
  pub kind : ParameterKind
  pub default : List ℕ

-- `=` or `:`, beside which blanks may stand
abbrev pub is_binding : SpelledToken → Bool
is_binding token = is_mark 61 token || is_mark 58 token

-- the token belongs to the same parameter as the one before it; a comma belongs to the parameter behind it
abbrev pub goes_on : SpelledToken → SpelledToken → Bool
goes_on before token =
    is_comma before || (not (is_comma token) && (follows before token || is_binding before || is_binding token))

-- a token in front of the first of these
abbrev pub onto_first : SpelledToken → List (List SpelledToken) → List (List SpelledToken)
onto_first token [] = (token ∷ []) ∷ []
onto_first token (part ∷ parts) = (token ∷ part) ∷ parts

-- the tokens of each parameter, with the comma that stands before it
abbrev pub parameter_parts : List SpelledToken → List (List SpelledToken)
parameter_parts [] = []
parameter_parts (token ∷ []) = (token ∷ []) ∷ []
parameter_parts (token ∷ next ∷ rest) =
    if goes_on token next then onto_first token (parameter_parts (next ∷ rest))
    else ((token ∷ []) ∷ parameter_parts (next ∷ rest))

-- `req` and `vararg`
abbrev pub kind_by_name : List ℕ → Result ParameterKind MacroLineCause
kind_by_name name =
    if bytes_eq name (codes "req") then Ok Required
    else (if bytes_eq name (codes "vararg") then Ok Rest
    else Err BadMacroLine)

-- what stands behind the `:` of a parameter
abbrev pub kind_of : List SpelledToken → Result ParameterKind MacroLineCause
kind_of [] = Err BadMacroLine
kind_of (word ∷ []) = kind_by_name word.bytes
kind_of (word ∷ next ∷ rest) = Err BadMacroLine

-- a parameter that asks this of a call
abbrev pub with_kind : List ℕ → Result ParameterKind MacroLineCause → Result ParameterAs MacroLineCause
with_kind name kind = kind >>= λ known. Ok (record { name = name; kind = known; default = [] })

-- what stands behind the name of a parameter: nothing, `=` and a default, or `:` and what it asks of a call
abbrev pub said_of : List ℕ → List SpelledToken → Result ParameterAs MacroLineCause
said_of name [] = Ok (record { name = name; kind = Optional; default = [] })
said_of name (mark ∷ rest) =
    if is_mark 61 mark then Ok (record { name = name; kind = Optional; default = value_text rest })
    else (if is_mark 58 mark then with_kind name (kind_of rest)
    else Err BadMacroLine)

-- a parameter without the comma before it
abbrev pub bare_parameter : List SpelledToken → Result ParameterAs MacroLineCause
bare_parameter [] = Err BadMacroLine
bare_parameter (token ∷ rest) = if is_name token then said_of token.bytes rest else Err BadMacroLine

-- the parameter that these tokens are
unfoldable pub parameter_of : List SpelledToken → Result ParameterAs MacroLineCause
parameter_of [] = Err BadMacroLine
parameter_of (token ∷ rest) = if is_comma token then bare_parameter rest else bare_parameter (token ∷ rest)

-- the parameters that these are, in order
abbrev pub each_parameter : List (List SpelledToken) → Result (List ParameterAs) MacroLineCause
each_parameter [] = Ok []
each_parameter (part ∷ parts) =
    parameter_of part >>= λ parameter. each_parameter parts >>= λ others. Ok (parameter ∷ others)

-- one of the parameters has this name
abbrev pub is_named : List ℕ → ParameterAs → Bool
is_named name parameter = bytes_eq parameter.name name

-- no two parameters have one name
abbrev pub names_apart : List ParameterAs → Bool
names_apart [] = true
names_apart (parameter ∷ others) = not (list_any (is_named parameter.name) others) && names_apart others

-- the parameter takes the rest of a call
abbrev pub is_rest_kind : ParameterKind → Bool
is_rest_kind Rest = true
is_rest_kind _ = false

-- there is none
abbrev pub is_none : List ParameterAs → Bool
is_none [] = true
is_none (parameter ∷ others) = false

-- no parameter stands behind one that takes the rest of a call
abbrev pub rest_is_last : List ParameterAs → Bool
rest_is_last [] = true
rest_is_last (parameter ∷ others) = (not (is_rest_kind parameter.kind) || is_none others) && rest_is_last others

-- the parameters, if they can stand together
abbrev pub checked : List ParameterAs → Result (List ParameterAs) MacroLineCause
checked parameters = if names_apart parameters && rest_is_last parameters then Ok parameters else Err BadMacroLine

-- the parameters of a macro
unfoldable pub parameters_of : List SpelledToken → Result (List ParameterAs) MacroLineCause
parameters_of tokens = each_parameter (parameter_parts tokens) >>= checked

-- what a `.macro` line says
pub record MacroLineAs : Type 0 where
  pub name : List ℕ
  pub parameters : List ParameterAs

-- what stands behind `.macro`
abbrev pub macro_line : List SpelledToken → Result MacroLineAs MacroLineCause
macro_line [] = Err BadMacroLine
macro_line (token ∷ rest) =
    if is_name token then (parameters_of rest >>= λ parameters. Ok (record { name = token.bytes; parameters = parameters }))
    else Err BadMacroLine
