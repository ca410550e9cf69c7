-- Texts of tokens, of digits, and of bodies with arguments put in.
use Rattle.std.proofs.Common.{◌<◌, ◌-◌, ◌/◌, ◌%◌, ◌+◌, ℕ, zero, suc, ◌==◌, nat_lt, Bool, true, false, cond, List, [], ◌∷◌, ◌++◌, drop, length, Option, None, Some, IfSome, All, decimal, find, option_map, arith}
use Rattle.std.specs.Prelude.{◌^◌}
use Rattle.std.specs.Fmt.{digits, digits_onto, digit_glyph}
use Rattle.std.proofs.lemmas.List.Elements.{All-nil, All-cons, All-head, All-tail, All-take, All-drop, All-append}
use Rattle.asm_base.specs.ByteClasses.{begins_with, is_name_start, is_name_byte}
use Rattle.std.specs.List.{prefix_len}
use Rattle.asm_base.specs.Tokens.{SpelledToken}
use Rattle.asm_lines.specs.NextStatements.{TokenStatement}
use Rattle.expr_texts.specs.Leaves.{between_quotes}
use Rattle.macro_texts.specs.TokenTexts.{follows, is_string_kind, lone_text, space_between, text_behind, text_of, value_text}
use Rattle.macro_texts.specs.Arguments.{ArgumentAs}
use Rattle.macro_texts.specs.Putting.{PutAs, argument_named, has_name, is_plain, longest_name, put_at, put_by, put_from, put_named, stays, text_in}
use Rattle.macro_words.specs.Statements.{body_text}
use Rattle.form_laws.specs.Numbers.{IsInBytes, IsSpelled}
use Rattle.expansion_laws.specs.Handing.{IsBytes}
use Rattle.expansion_laws.proofs.Elements.{either_all, found_one, each_list}

-- the number is a byte
abbrev pub IsByte : ℕ → Type 0
IsByte byte = byte < 2 ^ 8

abbrev one_byte : (byte : ℕ) → IsByte byte → IsBytes (byte ∷ [])
one_byte byte is = All-cons IsByte byte [] is (All-nil IsByte)

-- TEXTS OF TOKENS

space_in_bytes : (before token : SpelledToken) → IsBytes (space_between before token)
space_in_bytes before token = either_all IsByte (follows before token) [] (32 ∷ []) (All-nil IsByte) (one_byte 32 (omega arith))

behind_in_bytes : (before : SpelledToken) (tokens : List SpelledToken) → All IsInBytes tokens → IsBytes (text_behind before tokens)
behind_in_bytes before [] all = All-nil IsByte
behind_in_bytes before (token ∷ rest) all =
    All-append IsByte (space_between before token ++ token.bytes) (text_behind token rest)
    (All-append IsByte (space_between before token) token.bytes (space_in_bytes before token) (All-head IsInBytes token rest all))
    (behind_in_bytes token rest (All-tail IsInBytes token rest all))

pub text_in_bytes : (tokens : List SpelledToken) → All IsInBytes tokens → IsBytes (text_of tokens)
text_in_bytes [] all = All-nil IsByte
text_in_bytes (token ∷ rest) all =
    All-append IsByte token.bytes (text_behind token rest) (All-head IsInBytes token rest all) (behind_in_bytes token rest (All-tail IsInBytes token rest all))

pub quoted_in_bytes : (string : List ℕ) → IsBytes string → IsBytes (between_quotes string)
quoted_in_bytes string all = All-take IsByte (length string - 2) (drop 1 string) (All-drop IsByte 1 string all)

pub lone_in_bytes : (token : SpelledToken) → IsInBytes token → IsBytes (lone_text token)
lone_in_bytes token all = either_all IsByte (is_string_kind token.kind) (between_quotes token.bytes) token.bytes (quoted_in_bytes token.bytes all) all

pub value_in_bytes : (tokens : List SpelledToken) → All IsInBytes tokens → IsBytes (value_text tokens)
unfolding value_text
value_in_bytes [] all = All-nil IsByte
value_in_bytes (token ∷ []) all = lone_in_bytes token (All-head IsInBytes token [] all)
value_in_bytes (token ∷ next ∷ rest) all = text_in_bytes (token ∷ next ∷ rest) all

-- the text of a body
pub body_in_bytes : (statements : List TokenStatement) → All IsSpelled statements → IsBytes (body_text statements)
body_in_bytes statements all =
    each_list IsByte IsSpelled (λ statement. text_of statement.tokens ++ 10 ∷ []) statements
    (λ statement is. All-append IsByte (text_of statement.tokens) (10 ∷ []) (text_in_bytes statement.tokens is) (one_byte 10 (omega arith))) all

-- DIGITS

glyph_is_byte : (digit : ℕ) → digit < 10 → IsByte (digit_glyph false digit)
glyph_is_byte digit low = by (nat_lt digit 10)
  where
    by : (b : Bool) → IsByte (cond b (48 + digit) (87 + digit))
    by true = omega arith
    by false = omega arith

digits_in_bytes : (turns n : ℕ) (text : List ℕ) → IsBytes text → IsBytes (digits_onto turns 10 false n text)
digits_in_bytes zero n text all = all
digits_in_bytes (suc turns) n text all =
    let more = All-cons IsByte (digit_glyph false (n % 10)) text (glyph_is_byte (n % 10) (omega arith)) all in
    either_all IsByte (n / 10 == 0) (digit_glyph false (n % 10) ∷ text) (digits_onto turns 10 false (n / 10) (digit_glyph false (n % 10) ∷ text))
    more (digits_in_bytes turns (n / 10) (digit_glyph false (n % 10) ∷ text) more)

pub decimal_in_bytes : (n : ℕ) → IsBytes (decimal n)
unfolding digits
decimal_in_bytes n = digits_in_bytes 64 n [] (All-nil IsByte)

-- ARGUMENTS PUT IN

-- the text of the parameter is bytes
abbrev pub IsArgument : ArgumentAs → Type 0
IsArgument argument = IsBytes argument.text

either_put : (test : Bool) (one other : PutAs) → IsBytes one.text → IsBytes other.text → IsBytes (cond test one other).text
either_put true one other first second = first
either_put false one other first second = second

stays_in_bytes : IsBytes stays.text
stays_in_bytes = one_byte 92 (omega arith)

named_in_bytes : (found : Option ArgumentAs) (taken : ℕ) → IfSome found IsArgument → IsBytes (put_named (option_map text_in found) taken).text
named_in_bytes None taken is = stays_in_bytes
named_in_bytes (Some argument) taken is = is

by_in_bytes : (arguments : List ArgumentAs) (number first : ℕ) (rest : List ℕ) → All IsArgument arguments → IsBytes (put_by arguments number first rest).text
unfolding put_by argument_named
by_in_bytes arguments number first rest all =
    let name = longest_name first rest in
    either_put (first == 64) _ _ (decimal_in_bytes number)
    (either_put (first == 40) _ _ (either_put (begins_with 41 rest) _ _ (All-nil IsByte) stays_in_bytes)
    (either_put (is_name_start first) _ _ (named_in_bytes (find (has_name name) arguments) (suc (prefix_len is_name_byte rest)) (found_one IsArgument (has_name name) arguments all))
    stays_in_bytes))

at_in_bytes : (arguments : List ArgumentAs) (number : ℕ) (rest : List ℕ) → All IsArgument arguments → IsBytes (put_at arguments number rest).text
at_in_bytes arguments number [] all = stays_in_bytes
at_in_bytes arguments number (first ∷ rest) all = by_in_bytes arguments number first rest all

pub put_in_bytes : (arguments : List ArgumentAs) (number left_out : ℕ) (body : List ℕ) → All IsArgument arguments → IsBytes body → IsBytes (put_from arguments number left_out body)
unfolding put_from
put_in_bytes arguments number left_out [] all bytes = All-nil IsByte
put_in_bytes arguments number (suc left_out) (byte ∷ rest) all bytes = put_in_bytes arguments number left_out rest all (All-tail IsByte byte rest bytes)
put_in_bytes arguments number zero (byte ∷ rest) all bytes =
    let later = All-tail IsByte byte rest bytes in
    let there = put_at arguments number rest in
    either_all IsByte (is_plain byte) (byte ∷ put_from arguments number zero rest) (there.text ++ put_from arguments number there.taken rest)
    (All-cons IsByte byte (put_from arguments number zero rest) (All-head IsByte byte rest bytes) (put_in_bytes arguments number zero rest all later))
    (All-append IsByte there.text (put_from arguments number there.taken rest) (at_in_bytes arguments number rest all) (put_in_bytes arguments number there.taken rest all later))
