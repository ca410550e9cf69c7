-- The definitions computed on lines written out.
use Rattle.std.specs.Prelude.{◌≡◌, ℕ, List, [], ◌∷◌, ◌++◌, codes, Result, Ok, Err, refl}
use Rattle.std.specs.Fmt.{decimal}
use Rattle.asm_base.specs.ByteClasses.{is_blank, is_name_start, is_name_byte, is_operator_byte}
use Rattle.asm_base.specs.Dividing.{comment_length, quoted_length, piece_kind, piece_length}
use Rattle.asm_base.specs.Tokens.{is_long_operator, token_kind, token_length, tokens_from, tokens_of}
use Rattle.asm_base.specs.Refusals.{◌>>=◌}
use Rattle.macro_texts.specs.declared.causes.MacroLineCause.{MacroLineCause}
use Rattle.macro_texts.specs.declared.causes.MacroLineCause.TheVariants.{BadMacroLine, MissingArgument}
use Rattle.macro_texts.specs.declared.parameters.ParameterKind.{ParameterKind}
use Rattle.macro_texts.specs.declared.parameters.ParameterKind.TheVariants.{Optional, Required, Rest}
use Rattle.macro_texts.specs.TokenTexts.{value_text}
use Rattle.macro_texts.specs.Parameters.{ParameterAs, parameter_of, parameters_of}
use Rattle.macro_texts.specs.Arguments.{filled_once, call_arguments}
use Rattle.macro_texts.specs.Putting.{argument_named, put_by, put_from, put}
use Rattle.macro_texts.specs.Repeats.{EachLineAs, irp_line, irpc_line}

abbrev parameter : List ℕ → ParameterKind → List ℕ → ParameterAs
parameter name kind default = record { name = name; kind = kind; default = default }

-- the body of a call, with this number in place of `\@`
abbrev call : List ParameterAs → List ℕ → ℕ → List ℕ → Result (List ℕ) MacroLineCause
call parameters operands number body = call_arguments parameters (tokens_of operands) >>= λ arguments. Ok (put arguments number body)

abbrev line : List ℕ → List (List ℕ) → EachLineAs
line name values = record { name = name; values = values }

default : parameters_of (tokens_of (codes "a, b=3")) ≡ Ok (parameter (codes "a") Optional [] ∷ parameter (codes "b") Optional (codes "3") ∷ [])
unfolding is_blank is_name_start is_name_byte is_operator_byte is_long_operator comment_length quoted_length piece_kind piece_length token_kind token_length tokens_from value_text parameter_of parameters_of filled_once call_arguments argument_named put_by put_from
default = refl

-- blanks stand beside `=` and `:`
qualifiers : parameters_of (tokens_of (codes ", a :req b = x+1,c=\"x, y\" r:vararg")) ≡ Ok (parameter (codes "a") Required [] ∷ parameter (codes "b") Optional (codes "x+1") ∷ parameter (codes "c") Optional (codes "x, y") ∷ parameter (codes "r") Rest [] ∷ [])
unfolding is_blank is_name_start is_name_byte is_operator_byte is_long_operator comment_length quoted_length piece_kind piece_length token_kind token_length tokens_from value_text parameter_of parameters_of filled_once call_arguments argument_named put_by put_from
qualifiers = refl

no_parameters : parameters_of [] ≡ Ok []
unfolding is_blank is_name_start is_name_byte is_operator_byte is_long_operator comment_length quoted_length piece_kind piece_length token_kind token_length tokens_from value_text parameter_of parameters_of filled_once call_arguments argument_named put_by put_from
no_parameters = refl

twice : parameters_of (tokens_of (codes "a, b a")) ≡ Err BadMacroLine
unfolding is_blank is_name_start is_name_byte is_operator_byte is_long_operator comment_length quoted_length piece_kind piece_length token_kind token_length tokens_from value_text parameter_of parameters_of filled_once call_arguments argument_named put_by put_from
twice = refl

behind_rest : parameters_of (tokens_of (codes "a:vararg, b")) ≡ Err BadMacroLine
unfolding is_blank is_name_start is_name_byte is_operator_byte is_long_operator comment_length quoted_length piece_kind piece_length token_kind token_length tokens_from value_text parameter_of parameters_of filled_once call_arguments argument_named put_by put_from
behind_rest = refl

other_qualifier : parameters_of (tokens_of (codes "a:other")) ≡ Err BadMacroLine
unfolding is_blank is_name_start is_name_byte is_operator_byte is_long_operator comment_length quoted_length piece_kind piece_length token_kind token_length tokens_from value_text parameter_of parameters_of filled_once call_arguments argument_named put_by put_from
other_qualifier = refl

two_qualifiers : parameters_of (tokens_of (codes "a:req=1")) ≡ Err BadMacroLine
unfolding is_blank is_name_start is_name_byte is_operator_byte is_long_operator comment_length quoted_length piece_kind piece_length token_kind token_length tokens_from value_text parameter_of parameters_of filled_once call_arguments argument_named put_by put_from
two_qualifiers = refl

two_commas : parameters_of (tokens_of (codes "a,,b")) ≡ Err BadMacroLine
unfolding is_blank is_name_start is_name_byte is_operator_byte is_long_operator comment_length quoted_length piece_kind piece_length token_kind token_length tokens_from value_text parameter_of parameters_of filled_once call_arguments argument_named put_by put_from
two_commas = refl

last_comma : parameters_of (tokens_of (codes "a,")) ≡ Err BadMacroLine
unfolding is_blank is_name_start is_name_byte is_operator_byte is_long_operator comment_length quoted_length piece_kind piece_length token_kind token_length tokens_from value_text parameter_of parameters_of filled_once call_arguments argument_named put_by put_from
last_comma = refl

no_name : parameters_of (tokens_of (codes "a 1")) ≡ Err BadMacroLine
unfolding is_blank is_name_start is_name_byte is_operator_byte is_long_operator comment_length quoted_length piece_kind piece_length token_kind token_length tokens_from value_text parameter_of parameters_of filled_once call_arguments argument_named put_by put_from
no_name = refl

by_place : call (parameter (codes "a") Optional [] ∷ parameter (codes "b") Optional (codes "3") ∷ []) (codes "1") 0 (codes ".byte \\a+\\b") ≡ Ok (codes ".byte 1+3")
unfolding is_blank is_name_start is_name_byte is_operator_byte is_long_operator comment_length quoted_length piece_kind piece_length token_kind token_length tokens_from value_text parameter_of parameters_of filled_once call_arguments argument_named put_by put_from
by_place = refl

by_name : call (parameter (codes "a") Optional [] ∷ parameter (codes "b") Optional (codes "3") ∷ []) (codes "b=1,a = 4") 0 (codes ".byte \\a+\\b") ≡ Ok (codes ".byte 4+1")
unfolding is_blank is_name_start is_name_byte is_operator_byte is_long_operator comment_length quoted_length piece_kind piece_length token_kind token_length tokens_from value_text parameter_of parameters_of filled_once call_arguments argument_named put_by put_from
by_name = refl

rest : call (parameter (codes "a") Required [] ∷ parameter (codes "r") Rest [] ∷ []) (codes "1,2,3") 0 (codes ".ascii \"\\a,\\r\"") ≡ Ok (codes ".ascii \"1,2,3\"")
unfolding is_blank is_name_start is_name_byte is_operator_byte is_long_operator comment_length quoted_length piece_kind piece_length token_kind token_length tokens_from value_text parameter_of parameters_of filled_once call_arguments argument_named put_by put_from
rest = refl

missing : call (parameter (codes "a") Required [] ∷ parameter (codes "r") Rest [] ∷ []) (codes "") 0 (codes ".ascii \"\\a,\\r\"") ≡ Err MissingArgument
unfolding is_blank is_name_start is_name_byte is_operator_byte is_long_operator comment_length quoted_length piece_kind piece_length token_kind token_length tokens_from value_text parameter_of parameters_of filled_once call_arguments argument_named put_by put_from
missing = refl

missing_empty : call (parameter (codes "a") Required [] ∷ parameter (codes "r") Rest [] ∷ []) (codes "\"\",2") 0 (codes "\\a") ≡ Err MissingArgument
unfolding is_blank is_name_start is_name_byte is_operator_byte is_long_operator comment_length quoted_length piece_kind piece_length token_kind token_length tokens_from value_text parameter_of parameters_of filled_once call_arguments argument_named put_by put_from
missing_empty = refl

-- a fault of the line comes before an argument that is missing
malformed_first : call (parameter (codes "a") Required [] ∷ parameter (codes "r") Rest [] ∷ []) (codes "b=4") 0 (codes "\\a") ≡ Err BadMacroLine
unfolding is_blank is_name_start is_name_byte is_operator_byte is_long_operator comment_length quoted_length piece_kind piece_length token_kind token_length tokens_from value_text parameter_of parameters_of filled_once call_arguments argument_named put_by put_from
malformed_first = refl

-- a string keeps its commas and blanks, and stands for what is between its quotes
strings : call (parameter (codes "a") Optional [] ∷ parameter (codes "b") Optional (codes "3") ∷ []) (codes "\"x,  y\", 1  -  2") 0 (codes "\\a|\\b") ≡ Ok (codes "x,  y|1 - 2")
unfolding is_blank is_name_start is_name_byte is_operator_byte is_long_operator comment_length quoted_length piece_kind piece_length token_kind token_length tokens_from value_text parameter_of parameters_of filled_once call_arguments argument_named put_by put_from
strings = refl

-- the rest keeps its quotes, and one space where blanks stood
rest_as_it_is : call (parameter (codes "a") Required [] ∷ parameter (codes "r") Rest [] ∷ []) (codes "1,\"x\"  , y") 0 (codes "\\r") ≡ Ok (codes "\"x\" , y")
unfolding is_blank is_name_start is_name_byte is_operator_byte is_long_operator comment_length quoted_length piece_kind piece_length token_kind token_length tokens_from value_text parameter_of parameters_of filled_once call_arguments argument_named put_by put_from
rest_as_it_is = refl

-- nothing behind the last comma is no argument
empty_has_default : call (parameter (codes "a") Optional [] ∷ parameter (codes "b") Optional (codes "3") ∷ []) (codes "1,") 0 (codes "\\a\\b") ≡ Ok (codes "13")
unfolding is_blank is_name_start is_name_byte is_operator_byte is_long_operator comment_length quoted_length piece_kind piece_length token_kind token_length tokens_from value_text parameter_of parameters_of filled_once call_arguments argument_named put_by put_from
empty_has_default = refl

second_alone : call (parameter (codes "a") Optional [] ∷ parameter (codes "b") Optional (codes "3") ∷ []) (codes ",2") 0 (codes "\\a\\b") ≡ Ok (codes "2")
unfolding is_blank is_name_start is_name_byte is_operator_byte is_long_operator comment_length quoted_length piece_kind piece_length token_kind token_length tokens_from value_text parameter_of parameters_of filled_once call_arguments argument_named put_by put_from
second_alone = refl

-- an empty argument is no value
given_after_empty : call (parameter (codes "a") Optional [] ∷ parameter (codes "b") Optional [] ∷ []) (codes ",2,") 0 (codes "\\a\\b") ≡ Ok (codes "2")
unfolding is_blank is_name_start is_name_byte is_operator_byte is_long_operator comment_length quoted_length piece_kind piece_length token_kind token_length tokens_from value_text parameter_of parameters_of filled_once call_arguments argument_named put_by put_from
given_after_empty = refl

too_many : call (parameter (codes "a") Optional [] ∷ parameter (codes "b") Optional (codes "3") ∷ []) (codes "1,2,3") 0 (codes "\\a") ≡ Err BadMacroLine
unfolding is_blank is_name_start is_name_byte is_operator_byte is_long_operator comment_length quoted_length piece_kind piece_length token_kind token_length tokens_from value_text parameter_of parameters_of filled_once call_arguments argument_named put_by put_from
too_many = refl

no_parameter : call (parameter (codes "a") Optional [] ∷ parameter (codes "b") Optional (codes "3") ∷ []) (codes "c=1") 0 (codes "\\a") ≡ Err BadMacroLine
unfolding is_blank is_name_start is_name_byte is_operator_byte is_long_operator comment_length quoted_length piece_kind piece_length token_kind token_length tokens_from value_text parameter_of parameters_of filled_once call_arguments argument_named put_by put_from
no_parameter = refl

two_values : call (parameter (codes "a") Optional [] ∷ parameter (codes "b") Optional (codes "3") ∷ []) (codes "1,a=2") 0 (codes "\\a") ≡ Err BadMacroLine
unfolding is_blank is_name_start is_name_byte is_operator_byte is_long_operator comment_length quoted_length piece_kind piece_length token_kind token_length tokens_from value_text parameter_of parameters_of filled_once call_arguments argument_named put_by put_from
two_values = refl

place_behind_name : call (parameter (codes "a") Optional [] ∷ parameter (codes "b") Optional (codes "3") ∷ []) (codes "a=1,2") 0 (codes "\\a") ≡ Err BadMacroLine
unfolding is_blank is_name_start is_name_byte is_operator_byte is_long_operator comment_length quoted_length piece_kind piece_length token_kind token_length tokens_from value_text parameter_of parameters_of filled_once call_arguments argument_named put_by put_from
place_behind_name = refl

empty_too_many : call (parameter (codes "a") Optional [] ∷ parameter (codes "b") Optional (codes "3") ∷ []) (codes "1,2,,") 0 (codes "\\a") ≡ Err BadMacroLine
unfolding is_blank is_name_start is_name_byte is_operator_byte is_long_operator comment_length quoted_length piece_kind piece_length token_kind token_length tokens_from value_text parameter_of parameters_of filled_once call_arguments argument_named put_by put_from
empty_too_many = refl

-- the longest name is the name
longest : call (parameter (codes "a") Optional [] ∷ parameter (codes "ab") Optional [] ∷ []) (codes "1,2") 0 (codes "\\ab \\a\\()b \\abc \\a$ \\\\a \\(a) \\") ≡ Ok (codes "2 1b \\abc \\a$ \\1 \\(a) \\")
unfolding is_blank is_name_start is_name_byte is_operator_byte is_long_operator comment_length quoted_length piece_kind piece_length token_kind token_length tokens_from value_text parameter_of parameters_of filled_once call_arguments argument_named put_by put_from
longest = refl

calls_before : call ([]) (codes "") 12 (codes ".L\\@:") ≡ Ok (codes ".L" ++ (decimal 12 ++ codes ":"))
unfolding is_blank is_name_start is_name_byte is_operator_byte is_long_operator comment_length quoted_length piece_kind piece_length token_kind token_length tokens_from value_text parameter_of parameters_of filled_once call_arguments argument_named put_by put_from
calls_before = refl

values : irp_line (tokens_of (codes "x,1,2")) ≡ Ok (line (codes "x") ((codes "1") ∷ (codes "2") ∷ []))
unfolding is_blank is_name_start is_name_byte is_operator_byte is_long_operator comment_length quoted_length piece_kind piece_length token_kind token_length tokens_from value_text parameter_of parameters_of filled_once call_arguments argument_named put_by put_from
values = refl

-- nothing behind the last comma is no value
values_with_gaps : irp_line (tokens_of (codes "x,1,,\"a,b\",")) ≡ Ok (line (codes "x") ((codes "1") ∷ [] ∷ (codes "a,b") ∷ []))
unfolding is_blank is_name_start is_name_byte is_operator_byte is_long_operator comment_length quoted_length piece_kind piece_length token_kind token_length tokens_from value_text parameter_of parameters_of filled_once call_arguments argument_named put_by put_from
values_with_gaps = refl

no_values : irp_line (tokens_of (codes "x")) ≡ Ok (line (codes "x") ([] ∷ []))
unfolding is_blank is_name_start is_name_byte is_operator_byte is_long_operator comment_length quoted_length piece_kind piece_length token_kind token_length tokens_from value_text parameter_of parameters_of filled_once call_arguments argument_named put_by put_from
no_values = refl

no_values_behind_comma : irp_line (tokens_of (codes "x,")) ≡ Ok (line (codes "x") ([] ∷ []))
unfolding is_blank is_name_start is_name_byte is_operator_byte is_long_operator comment_length quoted_length piece_kind piece_length token_kind token_length tokens_from value_text parameter_of parameters_of filled_once call_arguments argument_named put_by put_from
no_values_behind_comma = refl

characters : irpc_line (tokens_of (codes "c,56")) ≡ Ok (line (codes "c") ((codes "5") ∷ (codes "6") ∷ []))
unfolding is_blank is_name_start is_name_byte is_operator_byte is_long_operator comment_length quoted_length piece_kind piece_length token_kind token_length tokens_from value_text parameter_of parameters_of filled_once call_arguments argument_named put_by put_from
characters = refl

-- blanks stand in strings alone, and a comma is a character
characters_of_strings : irpc_line (tokens_of (codes "c,a \" b\",")) ≡ Ok (line (codes "c") ((codes "a") ∷ (codes " ") ∷ (codes "b") ∷ (codes ",") ∷ []))
unfolding is_blank is_name_start is_name_byte is_operator_byte is_long_operator comment_length quoted_length piece_kind piece_length token_kind token_length tokens_from value_text parameter_of parameters_of filled_once call_arguments argument_named put_by put_from
characters_of_strings = refl

no_characters : irpc_line (tokens_of (codes "c,")) ≡ Ok (line (codes "c") ([] ∷ []))
unfolding is_blank is_name_start is_name_byte is_operator_byte is_long_operator comment_length quoted_length piece_kind piece_length token_kind token_length tokens_from value_text parameter_of parameters_of filled_once call_arguments argument_named put_by put_from
no_characters = refl

no_comma : irp_line (tokens_of (codes "x 1")) ≡ Err BadMacroLine
unfolding is_blank is_name_start is_name_byte is_operator_byte is_long_operator comment_length quoted_length piece_kind piece_length token_kind token_length tokens_from value_text parameter_of parameters_of filled_once call_arguments argument_named put_by put_from
no_comma = refl

no_each_name : irpc_line (tokens_of (codes "1,2")) ≡ Err BadMacroLine
unfolding is_blank is_name_start is_name_byte is_operator_byte is_long_operator comment_length quoted_length piece_kind piece_length token_kind token_length tokens_from value_text parameter_of parameters_of filled_once call_arguments argument_named put_by put_from
no_each_name = refl
