-- What a token by the grammar is by the definition, and which token stands in front of a text.
use Rattle.std.proofs.Common.{◌≡◌, ℕ, suc, ◌<◌, ◌≤◌, Bool, true, false, not, ◌&&◌, ◌||◌, ◌==◌, List, [], ◌∷◌, ◌++◌, length, refl, sym, ap, subst, ◌∙◌, arith, eqb-true, inl, inr}
use Rattle.std.specs.List.{prefix_len}
use Rattle.std.specs.Char.{is_ascii_digit}
use Rattle.std.proofs.lemmas.Bool.{and_parts, leb-true}
use Rattle.std.proofs.lemmas.List.Elements.{All-nil, All-cons, All-head, All-tail}
use Rattle.asm_base.specs.ByteClasses.{is_blank, is_name_start, is_name_byte, is_operator_byte}
use Rattle.asm_base.specs.Pieces.{IsPiece, begins_class, is_space}
use Rattle.asm_base.specs.Dividing.{is_plain, piece_kind, piece_length}
use Rattle.asm_base.specs.Tokens.{is_long_operator, kind_by_piece, token_kind_by, token_kind, token_length}
use Rattle.asm_base.specs.declared.pieces.PieceKind.{PieceKind}
use Rattle.asm_base.specs.declared.pieces.PieceKind.TheVariants as piece
use Rattle.asm_base.specs.declared.tokens.TokenKind.{TokenKind}
use Rattle.asm_base.specs.declared.tokens.TokenKind.TheVariants.{Name, Digits, Character, String, Operator, Other}
use Rattle.asm_lexemes.specs.Classes.{begins_long_operator}
use Rattle.asm_lines.specs.TokenGrammar.{IsMarkByte, IsNameTail, IsToken}
use Rattle.asm_lines.proofs.PlainBytes.{holds_from, of_byte, plain_kind, short_long}
use Rattle.asm_lines.proofs.TokenPieces.{name_is_plain}
use Rattle.asm_lines.proofs.FirstPieces.{OneDivision, by_grammar, same_front}

-- a token, as the definition has it
pub record IsFirstToken (kind : TokenKind) (bytes rest : List ℕ) : Type 0 where
  pub first : ℕ
  pub more : List ℕ
  pub bytes_is : bytes ≡ first ∷ more
  pub no_space : is_space (piece_kind first (more ++ rest)) ≡ false
  pub kind_is : token_kind first (more ++ rest) ≡ kind
  pub length_is : token_length kind first (more ++ rest) ≡ suc (length more)

-- a digit begins no name
both_not : (a b : Bool) → not (a && b) ≡ true → a ≡ true → b ≡ false
both_not true true e a = cc
both_not true false e a = refl
both_not false b e a = cc

digit_small : (byte : ℕ) → is_ascii_digit byte ≡ true → byte < 256
digit_small byte digit = let high : byte ≤ 57 = leb-true byte 57 (and_parts _ _ digit).1 in omega arith

digit_no_start : (byte : ℕ) → is_ascii_digit byte ≡ true → is_name_start byte ≡ false
unfolding holds_from is_name_start
digit_no_start byte digit = both_not (is_ascii_digit byte) (is_name_start byte) (of_byte (λ b. not (is_ascii_digit b && is_name_start b)) byte (digit_small byte digit) refl) digit

-- both go on with a name, so they are plain
start_is_plain : (byte : ℕ) → is_name_start byte ≡ true → is_plain byte ≡ true
unfolding is_name_byte
start_is_plain byte start = let name : is_name_byte byte ≡ true = rw start refl in name_is_plain byte name

digit_is_plain : (byte : ℕ) → is_ascii_digit byte ≡ true → is_plain byte ≡ true
unfolding is_name_byte
digit_is_plain byte digit = let name : is_name_byte byte ≡ true = rw (digit_no_start byte digit, digit) refl in name_is_plain byte name

-- how many bytes go on with a name
tail_length : (tail rest : List ℕ) → IsNameTail tail rest → prefix_len is_name_byte (tail ++ rest) ≡ length tail
tail_length [] [] is = refl
tail_length [] (first ∷ rest) is = rw is.1 refl
tail_length (byte ∷ tail) rest is =
    let Goes_on = λ (b : ℕ). is_name_byte b ≡ true in
    let here : is_name_byte byte ≡ true = All-head Goes_on byte tail is.0 in
    let later = tail_length tail rest (All-tail Goes_on byte tail is.0, is.1) in
    rw here (omega arith)

-- a name, and a number
name_first : (first : ℕ) (tail rest : List ℕ) → is_name_start first ≡ true → IsNameTail tail rest → IsFirstToken Name (first ∷ tail) rest
unfolding token_kind token_length
name_first first tail rest start is =
    let plain = plain_kind first (tail ++ rest) (start_is_plain first start) in
    let many = tail_length tail rest is in
    record { first = first; more = tail; bytes_is = refl; no_space = rw plain refl; kind_is = rw start refl; length_is = omega arith }

digits_first : (first : ℕ) (tail rest : List ℕ) → is_ascii_digit first ≡ true → IsNameTail tail rest → IsFirstToken Digits (first ∷ tail) rest
unfolding token_kind token_length
digits_first first tail rest digit is =
    let plain = plain_kind first (tail ++ rest) (digit_is_plain first digit) in
    let many = tail_length tail rest is in
    record { first = first; more = tail; bytes_is = refl; no_space = rw plain refl; kind_is = rw (digit_no_start first digit, digit) refl; length_is = omega arith }

-- an operator of two bytes
not_short : (first second : ℕ) → is_long_operator first (second ∷ []) ≡ true → begins_long_operator first ≡ true
not_short first second long = by_class (begins_long_operator first) refl
  where
    by_class : (begins : Bool) → begins_long_operator first ≡ begins → begins ≡ true
    by_class true is = refl
    by_class false is = let no = short_long first (second ∷ []) is in cc

-- the facts of the six bytes that begin such an operator
record BeginsLong (byte : ℕ) : Type 0 where
  plain : is_plain byte ≡ true
  start : is_name_start byte ≡ false
  digit : is_ascii_digit byte ≡ false
  operator : is_operator_byte byte ≡ true

one_of_six : (a b c d e f : Bool) (R : Type 0) → (a || b || c || d || e || f) ≡ true → (a ≡ true → R) → (b ≡ true → R) → (c ≡ true → R) → (d ≡ true → R) → (e ≡ true → R) → (f ≡ true → R) → R
one_of_six true b c d e f R any to_a to_b to_c to_d to_e to_f = to_a refl
one_of_six false true c d e f R any to_a to_b to_c to_d to_e to_f = to_b refl
one_of_six false false true d e f R any to_a to_b to_c to_d to_e to_f = to_c refl
one_of_six false false false true e f R any to_a to_b to_c to_d to_e to_f = to_d refl
one_of_six false false false false true f R any to_a to_b to_c to_d to_e to_f = to_e refl
one_of_six false false false false false true R any to_a to_b to_c to_d to_e to_f = to_f refl
one_of_six false false false false false false R any to_a to_b to_c to_d to_e to_f = cc

begins_long : (byte : ℕ) → begins_long_operator byte ≡ true → BeginsLong byte
unfolding begins_long_operator is_plain is_blank is_name_start is_operator_byte
begins_long byte begins =
    one_of_six (60 == byte) (62 == byte) (61 == byte) (33 == byte) (38 == byte) (124 == byte) (BeginsLong byte) begins
    (λ e. subst BeginsLong (eqb-true 60 byte e) (record { plain = refl; start = refl; digit = refl; operator = refl }))
    (λ e. subst BeginsLong (eqb-true 62 byte e) (record { plain = refl; start = refl; digit = refl; operator = refl }))
    (λ e. subst BeginsLong (eqb-true 61 byte e) (record { plain = refl; start = refl; digit = refl; operator = refl }))
    (λ e. subst BeginsLong (eqb-true 33 byte e) (record { plain = refl; start = refl; digit = refl; operator = refl }))
    (λ e. subst BeginsLong (eqb-true 38 byte e) (record { plain = refl; start = refl; digit = refl; operator = refl }))
    (λ e. subst BeginsLong (eqb-true 124 byte e) (record { plain = refl; start = refl; digit = refl; operator = refl }))

long_whole : (first second : ℕ) (rest : List ℕ) → is_long_operator first (second ∷ rest) ≡ is_long_operator first (second ∷ [])
unfolding is_long_operator
long_whole first second rest = refl

long_first : (first second : ℕ) (rest : List ℕ) → is_long_operator first (second ∷ []) ≡ true → IsFirstToken Operator (first ∷ second ∷ []) rest
unfolding token_kind token_length
long_first first second rest long =
    let begins = begins_long first (not_short first second long) in
    let plain = plain_kind first (second ∷ rest) begins.plain in
    let start = begins.start in
    let digit = begins.digit in
    let operator = begins.operator in
    let whole : is_long_operator first (second ∷ rest) ≡ true = long_whole first second rest ∙ long in
    record { first = first; more = second ∷ []; bytes_is = refl; no_space = rw plain refl; kind_is = rw (plain, start, digit, operator) refl; length_is = rw whole refl }

-- a token of one byte that is its own piece
mark_kind : OneDivision → (byte : ℕ) (rest : List ℕ) → IsMarkByte byte rest → piece_kind byte rest ≡ piece.Other
mark_kind law byte rest is = (same_front law byte ([]) rest piece.Other (byte, refl, is.0)).0

short_first : OneDivision → (byte : ℕ) (rest : List ℕ) → IsMarkByte byte rest → is_operator_byte byte ≡ true → is_long_operator byte rest ≡ false → IsFirstToken Operator (byte ∷ []) rest
unfolding token_kind token_length
short_first law byte rest is operator short =
    let kind = mark_kind law byte rest is in
    let start = is.1 in
    let digit = is.2 in
    record { first = byte; more = []; bytes_is = refl; no_space = rw kind refl; kind_is = rw (kind, start, digit, operator) refl; length_is = rw short refl }

stray_first : OneDivision → (byte : ℕ) (rest : List ℕ) → IsMarkByte byte rest → is_operator_byte byte ≡ false → IsFirstToken Other (byte ∷ []) rest
unfolding token_kind token_length piece_length
stray_first law byte rest is operator =
    let kind = mark_kind law byte rest is in
    let start = is.1 in
    let digit = is.2 in
    record { first = byte; more = []; bytes_is = refl; no_space = rw kind refl; kind_is = rw (kind, start, digit, operator) refl; length_is = rw kind refl }

-- a token that is a piece of another class
piece_first : OneDivision → (first : ℕ) (more rest : List ℕ) (kind : PieceKind) (class : TokenKind) → IsPiece kind (first ∷ more) rest → is_space kind ≡ false → token_kind_by first kind ≡ class → ((these : List ℕ) → token_length class first these ≡ piece_length (piece_kind first these) these)
    → IsFirstToken class (first ∷ more) rest
unfolding token_kind
piece_first law first more rest kind class is no_space class_is length_is =
    let same = same_front law first more rest kind is in
    record {
      first = first;
      more = more;
      bytes_is = refl;
      no_space = ap is_space same.0 ∙ no_space;
      kind_is = ap (token_kind_by first) same.0 ∙ class_is;
      length_is = length_is (more ++ rest) ∙ ap (λ k. piece_length k (more ++ rest)) same.0 ∙ same.1;
    }

-- the class of a token whose first byte begins no name and no number
token_by_piece : (first : ℕ) (kind : PieceKind) → is_name_start first ≡ false → is_ascii_digit first ≡ false → token_kind_by first kind ≡ kind_by_piece first kind
token_by_piece first kind start digit = rw (start, digit) refl

at_quote : OneDivision → (more rest : List ℕ) → IsPiece piece.Character (39 ∷ more) rest → IsFirstToken Character (39 ∷ more) rest
unfolding is_name_start token_length
at_quote law more rest is = piece_first law 39 more rest piece.Character Character is refl refl (λ these. refl)

at_string : OneDivision → (more rest : List ℕ) → IsPiece piece.String (34 ∷ more) rest → IsFirstToken String (34 ∷ more) rest
unfolding is_name_start token_length
at_string law more rest is = piece_first law 34 more rest piece.String String is refl refl (λ these. refl)

at_open : OneDivision → (more rest : List ℕ) → IsPiece piece.OpenString (34 ∷ more) rest → IsFirstToken Other (34 ∷ more) rest
unfolding is_name_start token_length
at_open law more rest is = piece_first law 34 more rest piece.OpenString Other is refl refl (λ these. refl)

at_feed : OneDivision → (rest : List ℕ) → IsFirstToken Other (10 ∷ []) rest
unfolding is_name_start token_length
at_feed law rest = piece_first law 10 ([]) rest piece.LineFeed Other refl refl refl (λ these. refl)

at_semicolon : OneDivision → (rest : List ℕ) → IsFirstToken Other (59 ∷ []) rest
unfolding is_name_start token_length
at_semicolon law rest = piece_first law 59 ([]) rest piece.Semicolon Other refl refl refl (λ these. refl)

-- the same, whatever the bytes are called
first_by : (kind : TokenKind) (bytes those rest : List ℕ) → bytes ≡ those → IsFirstToken kind those rest → IsFirstToken kind bytes rest
first_by kind bytes those rest same is = let Is : List ℕ → Type 0 = λ these. IsFirstToken kind these rest in subst Is (sym same) is

pieces_by : (kind : PieceKind) (bytes those rest : List ℕ) → bytes ≡ those → IsPiece kind bytes rest → IsPiece kind those rest
pieces_by kind bytes those rest same is = let Is : List ℕ → Type 0 = λ these. IsPiece kind these rest in subst Is same is

pub first_token_is : OneDivision → (kind : TokenKind) (bytes rest : List ℕ) → IsToken kind bytes rest → IsFirstToken kind bytes rest
first_token_is law Name bytes rest is = first_by Name bytes (is.0 ∷ is.1) rest is.2 (name_first is.0 is.1 rest is.3 is.4)
first_token_is law Digits bytes rest is = first_by Digits bytes (is.0 ∷ is.1) rest is.2 (digits_first is.0 is.1 rest is.3 is.4)
first_token_is law Character bytes rest is = first_by Character bytes (39 ∷ is.0 ∷ []) rest is.1 (at_quote law (is.0 ∷ []) rest (pieces_by piece.Character bytes (39 ∷ is.0 ∷ []) rest is.1 is))
first_token_is law String bytes rest is = first_by String bytes (34 ∷ is.0 ++ 34 ∷ []) rest is.1 (at_string law (is.0 ++ 34 ∷ []) rest (pieces_by piece.String bytes (34 ∷ is.0 ++ 34 ∷ []) rest is.1 is))
first_token_is law Operator bytes rest (inl long) = first_by Operator bytes (long.0 ∷ long.1 ∷ []) rest long.2 (long_first long.0 long.1 rest long.3)
first_token_is law Operator bytes rest (inr short) = first_by Operator bytes (short.0 ∷ []) rest short.1 (short_first law short.0 rest short.2 short.3 short.4)
first_token_is law Other bytes rest (inl stray) = first_by Other bytes (stray.0 ∷ []) rest stray.1 (stray_first law stray.0 rest stray.2 stray.3)
first_token_is law Other bytes rest (inr (inl unclosed)) = first_by Other bytes (34 ∷ unclosed.0) rest unclosed.1 (at_open law unclosed.0 rest (pieces_by piece.OpenString bytes (34 ∷ unclosed.0) rest unclosed.1 unclosed))
first_token_is law Other bytes rest (inr (inr (inl feed))) = first_by Other bytes (10 ∷ []) rest feed (at_feed law rest)
first_token_is law Other bytes rest (inr (inr (inr semicolon))) = first_by Other bytes (59 ∷ []) rest semicolon (at_semicolon law rest)

-- the token in front of a text
pub record FrontToken (text : List ℕ) : Type 0 where
  pub kind : TokenKind
  pub bytes : List ℕ
  pub rest : List ℕ
  pub text_is : text ≡ bytes ++ rest
  pub token : IsToken kind bytes rest

-- the bytes in front that continue a name
record FrontTail (text : List ℕ) : Type 0 where
  tail : List ℕ
  rest : List ℕ
  text_is : text ≡ tail ++ rest
  is : IsNameTail tail rest

front_tail : (text : List ℕ) → FrontTail text
front_tail [] = record { tail = []; rest = []; text_is = refl; is = (All-nil (λ b. is_name_byte b ≡ true), refl) }
front_tail (byte ∷ text) = by_class (is_name_byte byte) refl (front_tail text)
  where
    by_class : (goes_on : Bool) → is_name_byte byte ≡ goes_on → FrontTail text → FrontTail (byte ∷ text)
    by_class true here later = record { tail = byte ∷ later.tail; rest = later.rest; text_is = ap (λ these. byte ∷ these) later.text_is; is = (All-cons (λ b. is_name_byte b ≡ true) byte later.tail here later.is.0, later.is.1) }
    by_class false here later = record { tail = []; rest = byte ∷ text; text_is = refl; is = (All-nil (λ b. is_name_byte b ≡ true), here) }

front_name : (first : ℕ) (rest : List ℕ) → is_name_start first ≡ true → FrontToken (first ∷ rest)
front_name first rest start =
    let here = front_tail rest in
    record { kind = Name; bytes = first ∷ here.tail; rest = here.rest; text_is = ap (λ these. first ∷ these) here.text_is; token = (first, here.tail, refl, start, here.is) }

front_digits : (first : ℕ) (rest : List ℕ) → is_ascii_digit first ≡ true → FrontToken (first ∷ rest)
front_digits first rest digit =
    let here = front_tail rest in
    record { kind = Digits; bytes = first ∷ here.tail; rest = here.rest; text_is = ap (λ these. first ∷ these) here.text_is; token = (first, here.tail, refl, digit, here.is) }

no_pair_behind : (first : ℕ) → is_long_operator first ([]) ≡ false
unfolding is_long_operator
no_pair_behind first = refl

front_operator : (first : ℕ) (rest : List ℕ) → IsMarkByte first rest → is_operator_byte first ≡ true → FrontToken (first ∷ rest)
front_operator first [] is operator = record { kind = Operator; bytes = first ∷ []; rest = []; text_is = refl; token = inr (first, refl, is, operator, no_pair_behind first) }
front_operator first (second ∷ rest) is operator = by_pair (is_long_operator first (second ∷ rest)) refl
  where
    by_pair : (long : Bool) → is_long_operator first (second ∷ rest) ≡ long → FrontToken (first ∷ second ∷ rest)
    by_pair true long = record { kind = Operator; bytes = first ∷ second ∷ []; rest = rest; text_is = refl; token = inl (first, second, refl, sym (long_whole first second rest) ∙ long) }
    by_pair false short = record { kind = Operator; bytes = first ∷ []; rest = second ∷ rest; text_is = refl; token = inr (first, refl, is, operator, short) }

front_mark : (first : ℕ) (rest : List ℕ) → IsMarkByte first rest → FrontToken (first ∷ rest)
front_mark first rest is = by_operator (is_operator_byte first) refl
  where
    by_operator : (operator : Bool) → is_operator_byte first ≡ operator → FrontToken (first ∷ rest)
    by_operator true operator = front_operator first rest is operator
    by_operator false none = record { kind = Other; bytes = first ∷ []; rest = rest; text_is = refl; token = inl (first, refl, is, none) }

-- a piece of one byte
one_byte_piece : (first byte : ℕ) (rest more after : List ℕ) → rest ≡ more ++ after → first ∷ more ≡ byte ∷ [] → begins_class byte after ≡ false → begins_class first rest ≡ false
one_byte_piece first byte rest more after rest_is bytes_is none =
    let head : first ≡ byte = cc in
    let tail : more ≡ [] = cc in
    let whole : rest ≡ after = rest_is ∙ ap (λ these. these ++ after) tail in
    rw (head, whole) none

-- where no name and no number begins
front_by_piece : (first : ℕ) (rest : List ℕ) → is_name_start first ≡ false → is_ascii_digit first ≡ false → (kind : PieceKind) (more after : List ℕ) → rest ≡ more ++ after → IsPiece kind (first ∷ more) after → is_space kind ≡ false → FrontToken (first ∷ rest)
front_by_piece first rest start digit piece.Character more after rest_is is no_space = record { kind = Character; bytes = first ∷ more; rest = after; text_is = ap (λ these. first ∷ these) rest_is; token = is }
front_by_piece first rest start digit piece.String more after rest_is is no_space = record { kind = String; bytes = first ∷ more; rest = after; text_is = ap (λ these. first ∷ these) rest_is; token = is }
front_by_piece first rest start digit piece.OpenString more after rest_is is no_space = record { kind = Other; bytes = first ∷ more; rest = after; text_is = ap (λ these. first ∷ these) rest_is; token = inr (inl is) }
front_by_piece first rest start digit piece.LineFeed more after rest_is is no_space = record { kind = Other; bytes = first ∷ more; rest = after; text_is = ap (λ these. first ∷ these) rest_is; token = inr (inr (inl is)) }
front_by_piece first rest start digit piece.Semicolon more after rest_is is no_space = record { kind = Other; bytes = first ∷ more; rest = after; text_is = ap (λ these. first ∷ these) rest_is; token = inr (inr (inr is)) }
front_by_piece first rest start digit piece.Other more after rest_is is no_space = front_mark first rest (one_byte_piece first is.0 rest more after rest_is is.1 is.2, start, digit)
front_by_piece first rest start digit piece.Blank more after rest_is is no_space = cc
front_by_piece first rest start digit piece.LineComment more after rest_is is no_space = cc
front_by_piece first rest start digit piece.BlockComment more after rest_is is no_space = cc
front_by_piece first rest start digit piece.OpenComment more after rest_is is no_space = cc

-- a token stands in front of every text with no space in front
pub front_token : OneDivision → (first : ℕ) (rest : List ℕ) → is_space (piece_kind first rest) ≡ false → FrontToken (first ∷ rest)
front_token law first rest no_space = by_class (is_name_start first) (is_ascii_digit first) refl refl
  where
    by_class : (start digit : Bool) → is_name_start first ≡ start → is_ascii_digit first ≡ digit → FrontToken (first ∷ rest)
    by_class true digit start_is digit_is = front_name first rest start_is
    by_class false true start_is digit_is = front_digits first rest digit_is
    by_class false false start_is digit_is =
        let here = by_grammar law first rest in
        front_by_piece first rest start_is digit_is here.kind here.more here.after here.rest_is here.piece (ap is_space (sym here.kind_is) ∙ no_space)
