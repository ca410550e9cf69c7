-- What stands in front, by the class of the first byte.
use Rattle.std.proofs.Common.{◌≡◌, ℕ, ◌+◌, ◌<◌, ◌≤◌, arith, length, slice_index_or, subst, Bool, true, false, not, cond, ◌&&◌, ◌||◌, ◌==◌, List, [], ◌∷◌, drop, eqb-true, refl, sym, ap, ◌∙◌, ◌⊎◌, inl, inr}
use Rattle.std.specs.List.{prefix_len}
use Rattle.std.specs.Char.{is_ascii_digit}
use Rattle.asm_base.specs.ByteClasses.{is_feed, is_blank, is_name_start, is_name_byte, is_operator_byte, begins_with, line_goes_on}
use Rattle.asm_base.specs.Dividing.{comment_kind, is_plain, line_length, piece_kind, piece_length, string_kind}
use Rattle.asm_base.specs.declared.pieces.PieceKind.{PieceKind}
use Rattle.asm_base.specs.declared.pieces.PieceKind.TheVariants as piece
use Rattle.asm_base.specs.declared.tokens.TokenKind.{TokenKind}
use Rattle.asm_base.specs.declared.tokens.TokenKind.TheVariants.{Name, Digits, Character, String, Operator, Other}
use Rattle.asm_base.specs.Tokens.{is_long_operator, kind_by_piece, token_kind_by, token_kind, token_length}
use Rattle.asm_lexemes.specs.declared.classes.ByteClass.{ByteClass}
use Rattle.asm_lexemes.specs.declared.classes.ByteClass.TheVariants as class
use Rattle.asm_lexemes.specs.declared.lexemes.Lexeme.{Lexeme}
use Rattle.asm_lexemes.specs.declared.lexemes.Lexeme.TheVariants.{LineComment, Token}
use Rattle.asm_lexemes.specs.Classes.{class_of, begins_long_operator}
use Rattle.asm_lexemes.specs.Lexemes.{StandsInFront, makes_tokens}
use Rattle.asm_lexemes.proofs.ClassTable.{both, said, said_by}

not-true : (b : Bool) → not b ≡ true → b ≡ false
not-true true e = cc
not-true false e = refl

-- the tests of a byte that is none of the special ones
kind_of_plain : (feed semicolon blank return hash slash quote double x y z : Bool) (comment quoted : PieceKind)
    → not (feed || semicolon || blank || return || hash || slash || quote || double) ≡ true
    → cond feed piece.LineFeed (cond semicolon piece.Semicolon (cond (blank || (return && x)) piece.Blank (cond hash piece.LineComment (cond (slash && y) comment (cond (quote && z) piece.Character (cond double quoted piece.Other)))))) ≡ piece.Other
kind_of_plain true b c d e f g h x y z comment quoted plain = cc
kind_of_plain false true c d e f g h x y z comment quoted plain = cc
kind_of_plain false false true d e f g h x y z comment quoted plain = cc
kind_of_plain false false false true e f g h x y z comment quoted plain = cc
kind_of_plain false false false false true f g h x y z comment quoted plain = cc
kind_of_plain false false false false false true g h x y z comment quoted plain = cc
kind_of_plain false false false false false false true h x y z comment quoted plain = cc
kind_of_plain false false false false false false false true x y z comment quoted plain = cc
kind_of_plain false false false false false false false false x y z comment quoted plain = refl

pub plain_kind : (byte : ℕ) (rest : List ℕ) → is_plain byte ≡ true → piece_kind byte rest ≡ piece.Other
unfolding is_plain piece_kind
plain_kind byte rest plain =
    kind_of_plain (is_feed byte) (byte == 59) (is_blank byte) (byte == 13) (byte == 35) (byte == 47) (byte == 39) (byte == 34) (begins_with 10 rest) (begins_with 42 rest) (line_goes_on rest) (comment_kind (drop 1 rest)) (string_kind rest) plain

-- what the class says of a byte
pub said_of : (byte : ℕ) (here there : ByteClass) → byte < 256 → here ≡ class_of byte → here ≡ there → said_by there byte ≡ true
said_of byte here there within is same = ap (λ k. said_by k byte) (sym same ∙ is) ∙ said byte within

pub feed_stands : (byte : ℕ) (rest : List ℕ) → said_by class.LineFeed byte ≡ true → piece_kind byte rest ≡ piece.LineFeed
unfolding piece_kind
feed_stands byte rest says = rw says refl

pub semicolon_stands : (byte : ℕ) (rest : List ℕ) → said_by class.Semicolon byte ≡ true → piece_kind byte rest ≡ piece.Semicolon
unfolding piece_kind
semicolon_stands byte rest says = rw (eqb-true byte 59 says) refl

pub blank_stands : (byte : ℕ) (rest : List ℕ) → said_by class.Blank byte ≡ true → piece_kind byte rest ≡ piece.Blank
unfolding is_blank piece_kind
blank_stands byte rest says = by_test (byte == 32) refl says
  where
    by_test : (space : Bool) → (byte == 32) ≡ space → (space || byte == 9) ≡ true → piece_kind byte rest ≡ piece.Blank
    by_test true is says = rw (eqb-true byte 32 is) refl
    by_test false is says = rw (eqb-true byte 9 says) refl

-- a token of plain bytes
plain_stands : (byte : ℕ) (rest : List ℕ) (kind : TokenKind) (n : ℕ) → is_plain byte ≡ true → kind ≡ token_kind_by byte piece.Other → n ≡ token_length kind byte rest → StandsInFront byte rest (Token kind n)
unfolding token_kind
plain_stands byte rest kind n plain kind_is n_is =
    let other = plain_kind byte rest plain in
    let same : kind ≡ token_kind byte rest = kind_is ∙ ap (token_kind_by byte) (sym other) in
    (ap makes_tokens other, same, n_is ∙ ap (λ k. token_length k byte rest) same)

pub name_stands : (byte : ℕ) (rest : List ℕ) (n : ℕ) → said_by class.NameStart byte ≡ true → n ≡ prefix_len is_name_byte rest → StandsInFront byte rest (Token Name (1 + n))
unfolding token_length
name_stands byte rest n says n_is =
    let says_both = both (is_plain byte) (is_name_start byte) says in
    plain_stands byte rest Name (1 + n) says_both.0 (rw says_both.1 refl) (ap (λ k. 1 + k) n_is)

pub digits_stand : (byte : ℕ) (rest : List ℕ) (n : ℕ) → said_by class.Digit byte ≡ true → n ≡ prefix_len is_name_byte rest → StandsInFront byte rest (Token Digits (1 + n))
unfolding token_length
digits_stand byte rest n says n_is =
    let plain = both (is_plain byte) _ says in
    let parts = both (not (is_name_start byte)) (is_ascii_digit byte) plain.1 in
    let start = not-true (is_name_start byte) parts.0 in
    plain_stands byte rest Digits (1 + n) plain.0 (rw (start, parts.1) refl) (ap (λ k. 1 + k) n_is)

-- the class says no name, no digit, and whether it is an operator
record SaysMark (byte : ℕ) : Type 0 where
  plain : is_plain byte ≡ true
  start : is_name_start byte ≡ false
  digit : is_ascii_digit byte ≡ false

says_mark : (byte : ℕ) (more : Bool) → (is_plain byte && (not (is_name_start byte) && (not (is_ascii_digit byte) && more))) ≡ true → SaysMark byte × (more ≡ true)
says_mark byte more says =
    let plain = both (is_plain byte) _ says in
    let start = both (not (is_name_start byte)) _ plain.1 in
    let digit = both (not (is_ascii_digit byte)) _ start.1 in
    (record { plain = plain.0; start = not-true _ start.0; digit = not-true _ digit.0 }, digit.1)

pub strange_stands : (byte : ℕ) (rest : List ℕ) → said_by class.Other byte ≡ true → StandsInFront byte rest (Token Other 1)
unfolding token_length piece_length
strange_stands byte rest says =
    let mark = says_mark byte (not (is_operator_byte byte)) says in
    let operator = not-true (is_operator_byte byte) mark.1 in
    let start = mark.0.start in
    let digit = mark.0.digit in
    plain_stands byte rest Other 1 mark.0.plain (rw (start, digit, operator) refl) (rw (plain_kind byte rest mark.0.plain) refl)

pub long_stands : (byte : ℕ) (rest : List ℕ) (n : ℕ) → said_by class.LongOperator byte ≡ true → n ≡ cond (is_long_operator byte rest) 2 1 → StandsInFront byte rest (Token Operator n)
unfolding token_length
long_stands byte rest n says n_is =
    let mark = says_mark byte (is_operator_byte byte) says in
    let start = mark.0.start in
    let digit = mark.0.digit in
    let operator = mark.1 in
    plain_stands byte rest Operator n mark.0.plain (rw (start, digit, operator) refl) n_is

-- what begins no long operator is none
no_pair : (a b c d e f a1 b1 c1 d1 e1 f1 g1 h1 i1 : Bool) → (a || b || c || d || e || f) ≡ false
    → (a && (a1 && true) || (b && (b1 && true) || (c && (c1 && true) || (a && (d1 && true) || (d && (e1 && true) || (b && (f1 && true) || (a && (g1 && true) || (e && (h1 && true) || (f && (i1 && true) || false))))))))) ≡ false
no_pair true b c d e f a1 b1 c1 d1 e1 f1 g1 h1 i1 none = cc
no_pair false true c d e f a1 b1 c1 d1 e1 f1 g1 h1 i1 none = cc
no_pair false false true d e f a1 b1 c1 d1 e1 f1 g1 h1 i1 none = cc
no_pair false false false true e f a1 b1 c1 d1 e1 f1 g1 h1 i1 none = cc
no_pair false false false false true f a1 b1 c1 d1 e1 f1 g1 h1 i1 none = cc
no_pair false false false false false true a1 b1 c1 d1 e1 f1 g1 h1 i1 none = cc
no_pair false false false false false false a1 b1 c1 d1 e1 f1 g1 h1 i1 none = refl

none_long : (byte second : ℕ) (rest : List ℕ) → begins_long_operator byte ≡ false → is_long_operator byte (second ∷ rest) ≡ false
unfolding begins_long_operator is_long_operator
none_long byte second rest none =
    no_pair (60 == byte) (62 == byte) (61 == byte) (33 == byte) (38 == byte) (124 == byte) (60 == second) (62 == second) (61 == second) (62 == second) (61 == second) (61 == second) (61 == second) (38 == second) (124 == second) none

-- nor is what such a byte ends
and-false : (a : Bool) → (a && false) ≡ false
and-false true = refl
and-false false = refl

no_second : (a b c d e f p q r s t u : Bool) → (p || q || r || s || t || u) ≡ false
    → (a && (p && true) || (b && (q && true) || (c && (r && true) || (a && (q && true) || (d && (r && true) || (b && (r && true) || (a && (r && true) || (e && (t && true) || (f && (u && true) || false))))))))) ≡ false
no_second a b c d e f true q r s t u none = cc
no_second a b c d e f false true r s t u none = cc
no_second a b c d e f false false true s t u none = cc
no_second a b c d e f false false false true t u none = cc
no_second a b c d e f false false false false true u none = cc
no_second a b c d e f false false false false false true none = cc
no_second a b c d e f false false false false false false none = rw (and-false a, and-false b, and-false c, and-false d, and-false e, and-false f) refl

none_by_second : (first second : ℕ) (rest : List ℕ) → begins_long_operator second ≡ false → is_long_operator first (second ∷ rest) ≡ false
unfolding begins_long_operator is_long_operator
none_by_second first second rest none =
    no_second (60 == first) (62 == first) (61 == first) (33 == first) (38 == first) (124 == first) (60 == second) (62 == second) (61 == second) (33 == second) (38 == second) (124 == second) none

pub none_behind : (first : ℕ) (rest : List ℕ) → 1 ≤ length rest → begins_long_operator (slice_index_or rest 0 0) ≡ false → is_long_operator first rest ≡ false
none_behind first [] some none = absurd (omega arith)
none_behind first (second ∷ rest) some none = none_by_second first second rest none

pub short_long : (byte : ℕ) (rest : List ℕ) → begins_long_operator byte ≡ false → is_long_operator byte rest ≡ false
unfolding is_long_operator
short_long byte [] none = refl
short_long byte (second ∷ rest) none = none_long byte second rest none

pub operator_stands : (byte : ℕ) (rest : List ℕ) → said_by class.Operator byte ≡ true → StandsInFront byte rest (Token Operator 1)
unfolding token_length
operator_stands byte rest says =
    let mark = says_mark byte (is_operator_byte byte && not (begins_long_operator byte)) says in
    let parts = both (is_operator_byte byte) _ mark.1 in
    let start = mark.0.start in
    let digit = mark.0.digit in
    let operator = parts.0 in
    let short = short_long byte rest (not-true _ parts.1) in
    plain_stands byte rest Operator 1 mark.0.plain (rw (start, digit, operator) refl) (rw short refl)

-- no name and no digit
pub no_name : (byte : ℕ) → (not (is_name_start byte) && (not (is_ascii_digit byte) && not (begins_long_operator byte))) ≡ true → (is_name_start byte ≡ false) × (is_ascii_digit byte ≡ false) × (begins_long_operator byte ≡ false)
no_name byte says =
    let parts = both (not (is_name_start byte)) _ says in
    let more = both (not (is_ascii_digit byte)) _ parts.1 in
    (not-true _ parts.0, not-true _ more.0, not-true _ more.1)

-- the two classes of operators of one byte, and those whose bytes begin no name, no number and no long operator
pub one_byte_operator : (here : ByteClass) (byte : ℕ) (rest : List ℕ) → byte < 256 → here ≡ class_of byte → (here ≡ class.Dollar) ⊎ (here ≡ class.Operator) → StandsInFront byte rest (Token Operator 1)
one_byte_operator here byte rest within is (inl dollar) = operator_stands byte rest (said_of byte here class.Dollar within is dollar)
one_byte_operator here byte rest within is (inr operator) = operator_stands byte rest (said_of byte here class.Operator within is operator)

pub no_names : (here : ByteClass) (byte : ℕ) → byte < 256 → here ≡ class_of byte → (here ≡ class.CarriageReturn) ⊎ ((here ≡ class.Quote) ⊎ (here ≡ class.DoubleQuote))
    → (is_name_start byte ≡ false) × (is_ascii_digit byte ≡ false) × (begins_long_operator byte ≡ false)
no_names here byte within is (inl e) = no_name byte (said_of byte here class.CarriageReturn within is e)
no_names here byte within is (inr (inl e)) = no_name byte (said_of byte here class.Quote within is e)
no_names here byte within is (inr (inr e)) = no_name byte (said_of byte here class.DoubleQuote within is e)

-- a token that is one piece
pub piece_stands : (byte : ℕ) (rest : List ℕ) (here : PieceKind) (kind : TokenKind) → here ≡ piece_kind byte rest → makes_tokens here ≡ true → is_name_start byte ≡ false → is_ascii_digit byte ≡ false → kind ≡ kind_by_piece byte here
    → (makes_tokens (piece_kind byte rest) ≡ true) × (kind ≡ token_kind byte rest)
unfolding token_kind
piece_stands byte rest here kind is makes start digit kind_is = (ap makes_tokens (sym is) ∙ makes, rw (start, digit, ← is) kind_is)

pub character_stands : (byte : ℕ) (rest : List ℕ) (here : PieceKind) (n : ℕ) → here ≡ piece_kind byte rest → n ≡ piece_length here rest → here ≡ piece.Character → is_name_start byte ≡ false → is_ascii_digit byte ≡ false → StandsInFront byte rest (Token Character n)
unfolding token_length
character_stands byte rest here n is n_is same start digit =
    let known = piece_stands byte rest here Character is (ap makes_tokens same) start digit (rw same refl) in
    (known.0, known.1, n_is ∙ ap (λ k. piece_length k rest) is ∙ ap (λ k. token_length k byte rest) known.1)

pub string_stands : (byte : ℕ) (rest : List ℕ) (here : PieceKind) (n : ℕ) → here ≡ piece_kind byte rest → n ≡ piece_length here rest → here ≡ piece.String → is_name_start byte ≡ false → is_ascii_digit byte ≡ false → StandsInFront byte rest (Token String n)
unfolding token_length
string_stands byte rest here n is n_is same start digit =
    let known = piece_stands byte rest here String is (ap makes_tokens same) start digit (rw same refl) in
    (known.0, known.1, n_is ∙ ap (λ k. piece_length k rest) is ∙ ap (λ k. token_length k byte rest) known.1)

mark_length : (byte : ℕ) (rest : List ℕ) (operator : Bool) → is_long_operator byte rest ≡ false → piece_kind byte rest ≡ piece.Other → 1 ≡ token_length (cond operator Operator Other) byte rest
unfolding token_length piece_length
mark_length byte rest true short is = rw short refl
mark_length byte rest false short is = rw is refl

pub mark_stands : (byte : ℕ) (rest : List ℕ) (here : PieceKind) → here ≡ piece_kind byte rest → here ≡ piece.Other → begins_long_operator byte ≡ false → is_name_start byte ≡ false → is_ascii_digit byte ≡ false → StandsInFront byte rest (Token (cond (is_operator_byte byte) Operator Other) 1)
mark_stands byte rest here is same short start digit =
    let known = piece_stands byte rest here (cond (is_operator_byte byte) Operator Other) is (ap makes_tokens same) start digit (rw same refl) in
    (known.0, known.1, mark_length byte rest (is_operator_byte byte) (short_long byte rest short) (sym is ∙ same) ∙ ap (λ k. token_length k byte rest) known.1)

-- a slash that begins no comment
slash_kind : (rest : List ℕ) → begins_with 42 rest ≡ false → piece_kind 47 rest ≡ piece.Other
unfolding piece_kind is_blank
slash_kind rest none = rw none refl

pub slash_stands : (rest : List ℕ) → begins_with 42 rest ≡ false → StandsInFront 47 rest (Token Operator 1)
unfolding begins_long_operator is_name_start is_operator_byte
slash_stands rest none = mark_stands 47 rest piece.Other (sym (slash_kind rest none)) refl refl refl refl

pub slash_by_class : (byte : ℕ) (rest : List ℕ) (lexeme : Lexeme) → said_by class.Slash byte ≡ true → StandsInFront 47 rest lexeme → StandsInFront byte rest lexeme
slash_by_class byte rest lexeme says stands =
    let Stands : ℕ → Type 0 = λ first. StandsInFront first rest lexeme in
    subst Stands (sym (eqb-true byte 47 says)) stands

-- a comment to the end of its line
hash_kind : (rest : List ℕ) → piece_kind 35 rest ≡ piece.LineComment
unfolding piece_kind is_blank
hash_kind rest = refl

pub hash_stands : (byte : ℕ) (rest : List ℕ) (n : ℕ) → said_by class.Hash byte ≡ true → n ≡ line_length rest → StandsInFront byte rest (LineComment (1 + n))
unfolding piece_length
hash_stands byte rest n says n_is =
    let Stands : ℕ → Type 0 = λ first. StandsInFront first rest (LineComment (1 + n)) in
    subst Stands (sym (eqb-true byte 35 says)) (hash_kind rest, ap (λ k. 1 + k) n_is ∙ ap (λ kind. piece_length kind rest) (sym (hash_kind rest)))
