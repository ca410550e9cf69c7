-- The texts of parameters, of arguments, and of the values of repeats.
use Rattle.std.proofs.Common.{◌&&◌, ℕ, suc, Bool, true, false, List, [], ◌∷◌, ◌++◌, drop, flat_map, Option, None, Some, Result, Ok, Err, IfSome, IfOk, All, find, option_map, slice_get}
use Rattle.std.specs.List.{position_or_len}
use Rattle.std.proofs.lemmas.List.Elements.{All-nil, All-cons, All-head, All-tail, All-append, All-drop, All-map, All-take, All-weaker}
use Rattle.asm_base.specs.Tokens.{SpelledToken}
use Rattle.asm_operands.specs.Operands.{is_comma, is_mark, is_name}
use Rattle.macro_texts.specs.declared.causes.MacroLineCause.{MacroLineCause}
use Rattle.macro_texts.specs.declared.causes.MacroLineCause.TheVariants.{BadMacroLine}
use Rattle.macro_texts.specs.declared.parameters.ParameterKind.{ParameterKind}
use Rattle.macro_texts.specs.declared.parameters.ParameterKind.TheVariants.{Optional, Required, Rest}
use Rattle.macro_texts.specs.TokenTexts.{lone_text, value_text}
use Rattle.macro_texts.specs.Parameters.{MacroLineAs, ParameterAs, bare_parameter, checked, each_parameter, goes_on, is_rest_kind, kind_of, macro_line, names_apart, onto_first, parameter_of, parameter_parts, parameters_of, rest_is_last, said_of, with_kind}
use Rattle.macro_texts.specs.Arguments.{GivenAs, arguments_of, call_arguments, filled, filled_once, first_bytes, gift, gift_by, given_by, given_from, given_once, given_text, if_any, is_value_for, later_arguments, names_parameter, number_named, place_behind, taken_by, text_by, text_given, text_without, up_to_comma}
use Rattle.macro_texts.specs.Repeats.{EachLineAs, alone, behind_name, characters_of, each_line, first_value, irp_line, irpc_line, or_empty, values_of}
use Rattle.form_laws.specs.Numbers.{IsInBytes}
use Rattle.expansion_laws.specs.Handing.{IsBytes}
use Rattle.expansion_laws.proofs.Elements.{each_list, either_all, either_ok, found_one, step_ok}
use Rattle.expansion_laws.proofs.Texts.{IsArgument, IsByte, lone_in_bytes, text_in_bytes, value_in_bytes}

-- the tokens are spelled in bytes
abbrev pub AreSpelled : List SpelledToken → Type 0
AreSpelled tokens = All IsInBytes tokens

-- PARAMETERS

-- the text of the parameter without an argument is bytes
abbrev pub IsParameter : ParameterAs → Type 0
IsParameter parameter = IsBytes parameter.default

first_spelled : (token : SpelledToken) (parts : List (List SpelledToken)) → IsInBytes token → All AreSpelled parts → All AreSpelled (onto_first token parts)
first_spelled token [] is all = All-cons AreSpelled (token ∷ []) [] (All-cons IsInBytes token [] is (All-nil IsInBytes)) (All-nil AreSpelled)
first_spelled token (part ∷ parts) is all =
    All-cons AreSpelled (token ∷ part) parts (All-cons IsInBytes token part is (All-head AreSpelled part parts all)) (All-tail AreSpelled part parts all)

parts_spelled : (tokens : List SpelledToken) → AreSpelled tokens → All AreSpelled (parameter_parts tokens)
parts_spelled [] all = All-nil AreSpelled
parts_spelled (token ∷ []) all = All-cons AreSpelled (token ∷ []) [] all (All-nil AreSpelled)
parts_spelled (token ∷ next ∷ rest) all =
    let is = All-head IsInBytes token (next ∷ rest) all in
    let later = parts_spelled (next ∷ rest) (All-tail IsInBytes token (next ∷ rest) all) in
    either_all AreSpelled (goes_on token next) (onto_first token (parameter_parts (next ∷ rest))) ((token ∷ []) ∷ parameter_parts (next ∷ rest))
    (first_spelled token (parameter_parts (next ∷ rest)) is later)
    (All-cons AreSpelled (token ∷ []) (parameter_parts (next ∷ rest)) (All-cons IsInBytes token [] is (All-nil IsInBytes)) later)

kind_in_bytes : (name : List ℕ) (kind : Result ParameterKind MacroLineCause) → IfOk (with_kind name kind) IsParameter
kind_in_bytes name (Ok kind) = All-nil IsByte
kind_in_bytes name (Err cause) = tt

said_in_bytes : (name : List ℕ) (tokens : List SpelledToken) → AreSpelled tokens → IfOk (said_of name tokens) IsParameter
said_in_bytes name [] all = All-nil IsByte
said_in_bytes name (mark ∷ rest) all =
    either_ok IsParameter (is_mark 61 mark) (Ok (record { name = name; kind = Optional; default = value_text rest })) _ (value_in_bytes rest (All-tail IsInBytes mark rest all))
    (either_ok IsParameter (is_mark 58 mark) (with_kind name (kind_of rest)) (Err BadMacroLine) (kind_in_bytes name (kind_of rest)) tt)

bare_in_bytes : (tokens : List SpelledToken) → AreSpelled tokens → IfOk (bare_parameter tokens) IsParameter
bare_in_bytes [] all = tt
bare_in_bytes (token ∷ rest) all =
    either_ok IsParameter (is_name token) (said_of token.bytes rest) (Err BadMacroLine) (said_in_bytes token.bytes rest (All-tail IsInBytes token rest all)) tt

parameter_in_bytes : (tokens : List SpelledToken) → AreSpelled tokens → IfOk (parameter_of tokens) IsParameter
unfolding parameter_of
parameter_in_bytes [] all = tt
parameter_in_bytes (token ∷ rest) all =
    either_ok IsParameter (is_comma token) (bare_parameter rest) (bare_parameter (token ∷ rest)) (bare_in_bytes rest (All-tail IsInBytes token rest all)) (bare_in_bytes (token ∷ rest) all)

each_in_bytes : (parts : List (List SpelledToken)) → All AreSpelled parts → IfOk (each_parameter parts) (All IsParameter)
each_in_bytes [] all = All-nil IsParameter
each_in_bytes (part ∷ parts) all =
    let later = each_in_bytes parts (All-tail AreSpelled part parts all) in
    step_ok IsParameter (All IsParameter) (parameter_of part) _ (parameter_in_bytes part (All-head AreSpelled part parts all)) (λ parameter is.
    step_ok (All IsParameter) (All IsParameter) (each_parameter parts) (λ others. Ok (parameter ∷ others)) later (λ others rest. All-cons IsParameter parameter others is rest))

parameters_in_bytes : (tokens : List SpelledToken) → AreSpelled tokens → IfOk (parameters_of tokens) (All IsParameter)
unfolding parameters_of
parameters_in_bytes tokens all =
    step_ok (All IsParameter) (All IsParameter) (each_parameter (parameter_parts tokens)) checked (each_in_bytes (parameter_parts tokens) (parts_spelled tokens all)) (λ parameters is.
    either_ok (All IsParameter) (names_apart parameters && rest_is_last parameters) (Ok parameters) (Err BadMacroLine) is tt)

-- the texts of a line's parameters without arguments are bytes
abbrev pub IsMacroLine : MacroLineAs → Type 0
IsMacroLine line = All IsParameter line.parameters

pub macro_line_in_bytes : (tokens : List SpelledToken) → AreSpelled tokens → IfOk (macro_line tokens) IsMacroLine
macro_line_in_bytes [] all = tt
macro_line_in_bytes (token ∷ rest) all =
    either_ok IsMacroLine (is_name token) _ (Err BadMacroLine)
    (step_ok (All IsParameter) IsMacroLine (parameters_of rest) (λ parameters. Ok (record { name = token.bytes; parameters = parameters }))
    (parameters_in_bytes rest (All-tail IsInBytes token rest all)) (λ parameters is. is))
    tt

-- ARGUMENTS

any_spelled : (tokens : List SpelledToken) → AreSpelled tokens → All AreSpelled (if_any tokens)
any_spelled [] all = All-nil AreSpelled
any_spelled (token ∷ rest) all = All-cons AreSpelled (token ∷ rest) [] all (All-nil AreSpelled)

later_spelled : (tokens : List SpelledToken) → AreSpelled tokens → All AreSpelled (later_arguments tokens)
later_spelled [] all = All-nil AreSpelled
later_spelled (token ∷ rest) all =
    let behind = All-tail IsInBytes token rest all in
    either_all AreSpelled (is_comma token) (if_any rest ++ later_arguments rest) (later_arguments rest)
    (All-append AreSpelled (if_any rest) (later_arguments rest) (any_spelled rest behind) (later_spelled rest behind)) (later_spelled rest behind)

arguments_spelled : (tokens : List SpelledToken) → AreSpelled tokens → All AreSpelled (arguments_of tokens)
arguments_spelled tokens all = All-append AreSpelled (if_any tokens) (later_arguments tokens) (any_spelled tokens all) (later_spelled tokens all)

comma_spelled : (tokens : List SpelledToken) → AreSpelled tokens → AreSpelled (up_to_comma tokens)
comma_spelled tokens all = All-take IsInBytes (position_or_len is_comma tokens) tokens all

-- the tokens of what is given are spelled in bytes
abbrev IsGift : GivenAs → Type 0
IsGift given = AreSpelled given.tokens

taken_spelled : (rest : Bool) (tokens : List SpelledToken) → AreSpelled tokens → AreSpelled (taken_by rest tokens)
taken_spelled true tokens all = all
taken_spelled false tokens all = comma_spelled tokens all

gift_spelled : (number : ℕ) (found : Option ParameterAs) (tokens : List SpelledToken) → AreSpelled tokens → IfOk (gift_by number found tokens) IsGift
gift_spelled number None tokens all = tt
gift_spelled number (Some parameter) tokens all = taken_spelled (is_rest_kind parameter.kind) tokens all

one_given : (parameters : List ParameterAs) (place : ℕ) (tokens : List SpelledToken) → AreSpelled tokens → IfOk (given_by parameters place tokens) IsGift
one_given parameters place tokens all =
    let named = number_named parameters (first_bytes tokens) in
    either_ok IsGift (names_parameter tokens) (gift parameters named (drop 2 tokens)) (gift parameters place tokens)
    (gift_spelled named (slice_get parameters named) (drop 2 tokens) (All-drop IsInBytes 2 tokens all)) (gift_spelled place (slice_get parameters place) tokens all)

all_given : (parameters : List ParameterAs) (place : ℕ) (parts : List (List SpelledToken)) → All AreSpelled parts → IfOk (given_from parameters place parts) (All IsGift)
all_given parameters place [] all = All-nil IsGift
all_given parameters place (tokens ∷ later) all =
    let next = place_behind parameters place tokens in
    let behind = all_given parameters next later (All-tail AreSpelled tokens later all) in
    step_ok IsGift (All IsGift) (given_by parameters place tokens) _ (one_given parameters place tokens (All-head AreSpelled tokens later all)) (λ one is.
    either_ok (All IsGift) one.rest (Ok (one ∷ [])) _ (All-cons IsGift one [] is (All-nil IsGift))
    (step_ok (All IsGift) (All IsGift) (given_from parameters next later) (λ others. Ok (one ∷ others)) behind (λ others rest. All-cons IsGift one others is rest)))

given_in_bytes : (rest : Bool) (tokens : List SpelledToken) → AreSpelled tokens → IsBytes (given_text rest tokens)
given_in_bytes true tokens all = text_in_bytes tokens all
given_in_bytes false tokens all = value_in_bytes tokens all

without_in_bytes : (kind : ParameterKind) (default : List ℕ) → IsBytes default → IfOk (text_without kind default) IsBytes
without_in_bytes Optional default all = all
without_in_bytes Required default all = tt
without_in_bytes Rest default all = all

one_filled : (found : Option GivenAs) (parameter : ParameterAs) → IfSome found IsGift → IsParameter parameter → IfOk (text_by (option_map text_given found) parameter) IsBytes
one_filled None parameter is default = without_in_bytes parameter.kind parameter.default default
one_filled (Some given) parameter is default = given_in_bytes given.rest given.tokens is

all_filled : (given : List GivenAs) (number : ℕ) (parameters : List ParameterAs) → All IsGift given → All IsParameter parameters → IfOk (filled given number parameters) (All IsArgument)
all_filled given number [] gifts all = All-nil IsArgument
all_filled given number (parameter ∷ others) gifts all =
    let found = find (is_value_for number) given in
    let later = all_filled given (suc number) others gifts (All-tail IsParameter parameter others all) in
    step_ok IsBytes (All IsArgument) (text_by (option_map text_given found) parameter) _
    (one_filled found parameter (found_one IsGift (is_value_for number) given gifts) (All-head IsParameter parameter others all)) (λ text is.
    step_ok (All IsArgument) (All IsArgument) (filled given (suc number) others) (λ more. Ok (record { name = parameter.name; text = text } ∷ more)) later (λ more rest.
    All-cons IsArgument (record { name = parameter.name; text = text }) more is rest))

once_filled : (parameters : List ParameterAs) (given : List GivenAs) → All IsGift given → All IsParameter parameters → IfOk (filled_once parameters given) (All IsArgument)
unfolding filled_once
once_filled parameters given gifts all = either_ok (All IsArgument) (given_once given) (filled given 0 parameters) (Err BadMacroLine) (all_filled given 0 parameters gifts all) tt

pub call_in_bytes : (parameters : List ParameterAs) (tokens : List SpelledToken) → All IsParameter parameters → AreSpelled tokens → IfOk (call_arguments parameters tokens) (All IsArgument)
unfolding call_arguments
call_in_bytes parameters tokens defaults all =
    step_ok (All IsGift) (All IsArgument) (given_from parameters 0 (arguments_of tokens)) (filled_once parameters) (all_given parameters 0 (arguments_of tokens) (arguments_spelled tokens all))
    (λ given gifts. once_filled parameters given gifts defaults)

-- VALUES OF REPEATS

-- the values of the line are bytes
abbrev pub IsEachLine : EachLineAs → Type 0
IsEachLine line = All IsBytes line.values

values_in_bytes : (tokens : List SpelledToken) → AreSpelled tokens → All IsBytes (values_of tokens)
values_in_bytes tokens all =
    All-map IsBytes first_value (arguments_of tokens)
    (All-weaker AreSpelled (λ part. IsBytes (first_value part)) (λ part is. value_in_bytes (up_to_comma part) (comma_spelled part is)) (arguments_of tokens) (arguments_spelled tokens all))

characters_in_bytes : (tokens : List SpelledToken) → AreSpelled tokens → All IsBytes (characters_of tokens)
characters_in_bytes tokens all =
    All-map IsBytes alone (flat_map lone_text tokens)
    (All-weaker IsByte (λ byte. IsBytes (alone byte)) (λ byte is. All-cons IsByte byte [] is (All-nil IsByte)) (flat_map lone_text tokens)
    (each_list IsByte IsInBytes lone_text tokens lone_in_bytes all))

empty_in_bytes : (values : List (List ℕ)) → All IsBytes values → All IsBytes (or_empty values)
empty_in_bytes [] all = All-cons IsBytes [] [] (All-nil IsByte) (All-nil IsBytes)
empty_in_bytes (value ∷ values) all = all

behind_name_spelled : (tokens : List SpelledToken) → AreSpelled tokens → IfOk (behind_name tokens) AreSpelled
behind_name_spelled [] all = All-nil IsInBytes
behind_name_spelled (token ∷ rest) all = either_ok AreSpelled (is_comma token) (Ok rest) (Err BadMacroLine) (All-tail IsInBytes token rest all) tt

each_line_in_bytes : (values : List SpelledToken → List (List ℕ)) (tokens : List SpelledToken) → ((tokens : List SpelledToken) → AreSpelled tokens → All IsBytes (values tokens))
    → AreSpelled tokens → IfOk (each_line values tokens) IsEachLine
each_line_in_bytes values [] each all = tt
each_line_in_bytes values (token ∷ rest) each all =
    either_ok IsEachLine (is_name token) _ (Err BadMacroLine)
    (step_ok AreSpelled IsEachLine (behind_name rest) (λ tokens. Ok (record { name = token.bytes; values = or_empty (values tokens) }))
    (behind_name_spelled rest (All-tail IsInBytes token rest all)) (λ tokens is. empty_in_bytes (values tokens) (each tokens is)))
    tt

pub irp_in_bytes : (tokens : List SpelledToken) → AreSpelled tokens → IfOk (irp_line tokens) IsEachLine
irp_in_bytes tokens all = each_line_in_bytes values_of tokens values_in_bytes all

pub irpc_in_bytes : (tokens : List SpelledToken) → AreSpelled tokens → IfOk (irpc_line tokens) IsEachLine
irpc_in_bytes tokens all = each_line_in_bytes characters_of tokens characters_in_bytes all
