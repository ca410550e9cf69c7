-- What a string stands for by the grammar is its value, and a closed string stands for something.
use Rattle.std.proofs.Common.{◌≡◌, ◌≢◌, ◌⊎◌, ℕ, zero, suc, ◌+◌, ◌<◌, ◌≤◌, true, false, eqb, List, [], ◌∷◌, ◌++◌, length, take, drop, inl, inr, refl, sym, ap, subst, ◌∙◌, arith, eqb-true, ne_eqb, ltb-true, drop_at, take_at}
use Rattle.std.specs.List.{prefix_len}
use Rattle.std.proofs.lemmas.Bool.{eqb-false, cases_Bool}
use Rattle.std.proofs.lemmas.List.{length-append}
use Rattle.std.proofs.lemmas.List.Elements.{All-nil, All-cons, All-head, All-tail}
use Rattle.asm_base.specs.Digits.{digit_of, is_digit_of}
use Rattle.asm_base.specs.Strings.{octal_length, hexadecimal_length, low_byte, escape_length, control_byte, escaped_byte, string_value, string_value_from}
use Rattle.asm_base.specs.StringGrammar.{begins_with_digit, AreDigits, StandsFor, nothing, plain, control, octal, hexadecimal}
use Rattle.asm_base.specs.Pieces as pieces
use Rattle.asm_base.specs.Pieces.{IsQuoted}
use Rattle.asm_base.proofs.StringLemmas.{string_value_from-drop}

-- what follows a backslash is an escape that stands for the byte, and the rest behind it
record IsEscape (bytes : List ℕ) (byte : ℕ) (rest : List ℕ) : Type 0 where
  byte_is : escaped_byte bytes ≡ byte
  rest_is : drop (escape_length bytes) bytes ≡ rest

-- a backslash with its escape goes in front
with_escape : (bytes rest value : List ℕ) (byte : ℕ) → IsEscape bytes byte rest → value ≡ string_value rest → byte ∷ value ≡ string_value (92 ∷ bytes)
unfolding string_value_from
with_escape bytes rest value byte escape later = rw (string_value_from-drop (escape_length bytes) bytes, escape.byte_is, escape.rest_is, ← later) refl

-- digits with no digit behind them
prefix-digits : (radix : ℕ) (digits rest : List ℕ) → AreDigits radix digits → begins_with_digit radix rest ≡ false → prefix_len (is_digit_of radix) (digits ++ rest) ≡ length digits
prefix-digits radix [] [] digits_are none = refl
prefix-digits radix [] (first ∷ rest) digits_are none = rw none refl
prefix-digits radix (digit ∷ digits) rest digits_are none =
    let AreIt = λ (b : ℕ). is_digit_of radix b ≡ true in
    let here : is_digit_of radix digit ≡ true = All-head AreIt digit digits digits_are in
    let later = prefix-digits radix digits rest (All-tail AreIt digit digits digits_are) none in
    rw here (omega arith)

-- digits, whatever stands behind them
prefix-digits_least : (radix : ℕ) (digits rest : List ℕ) → AreDigits radix digits → length digits ≤ prefix_len (is_digit_of radix) (digits ++ rest)
prefix-digits_least radix [] rest digits_are = omega arith
prefix-digits_least radix (digit ∷ digits) rest digits_are =
    let AreIt = λ (b : ℕ). is_digit_of radix b ≡ true in
    let here : is_digit_of radix digit ≡ true = All-head AreIt digit digits digits_are in
    let later = prefix-digits_least radix digits rest (All-tail AreIt digit digits digits_are) in
    rw here (omega arith)

octal_length-digits : (digits rest : List ℕ) → AreDigits 8 digits → length digits ≤ 3 → (length digits ≡ 3) ⊎ (begins_with_digit 8 rest ≡ false) → octal_length (digits ++ rest) ≡ length digits
octal_length-digits digits rest digits_are few (inl three) = let least = prefix-digits_least 8 digits rest digits_are in omega arith
octal_length-digits digits rest digits_are few (inr none) = let e = prefix-digits 8 digits rest digits_are none in omega arith

-- the escape where it begins with an octal digit
octal_begins : (bytes : List ℕ) → begins_with_digit 8 bytes ≡ true → IsEscape bytes (low_byte 8 (take (octal_length bytes) bytes)) (drop (octal_length bytes) bytes)
unfolding escape_length escaped_byte
octal_begins [] digit = absurd (cc)
octal_begins (first ∷ rest) digit = record { byte_is = rw digit refl; rest_is = rw digit refl }

octal_escape : (digits rest : List ℕ) → AreDigits 8 digits → 1 ≤ length digits → length digits ≤ 3 → (length digits ≡ 3) ⊎ (begins_with_digit 8 rest ≡ false) → IsEscape (digits ++ rest) (low_byte 8 digits) rest
octal_escape [] rest digits_are some few whole = absurd (omega arith)
octal_escape (first ∷ digits) rest digits_are some few whole =
    let here : is_digit_of 8 first ≡ true = All-head (λ b. is_digit_of 8 b ≡ true) first digits digits_are in
    let escape = octal_begins ((first ∷ digits) ++ rest) here in
    let many : octal_length ((first ∷ digits) ++ rest) ≡ length (first ∷ digits) = octal_length-digits (first ∷ digits) rest digits_are few whole in
    let front : take (octal_length ((first ∷ digits) ++ rest)) ((first ∷ digits) ++ rest) ≡ first ∷ digits = take_at (first ∷ digits) rest _ (sym many) in
    let behind : drop (octal_length ((first ∷ digits) ++ rest)) ((first ∷ digits) ++ rest) ≡ rest = drop_at (first ∷ digits) rest _ (sym many) in
    record { byte_is = escape.byte_is ∙ ap (low_byte 8) front; rest_is = escape.rest_is ∙ behind }

-- the escape where it begins with an `x`
hexadecimal_begins : (bytes : List ℕ) → IsEscape (120 ∷ bytes) (low_byte 16 (take (hexadecimal_length bytes) bytes)) (drop (hexadecimal_length bytes) bytes)
unfolding escape_length escaped_byte digit_of
hexadecimal_begins bytes = record { byte_is = refl; rest_is = rw (one_more (hexadecimal_length bytes)) refl }
  where
    one_more : (n : ℕ) → 1 + n ≡ suc n
    one_more n = omega arith

hexadecimal_escape : (digits rest : List ℕ) → AreDigits 16 digits → begins_with_digit 16 rest ≡ false → IsEscape (120 ∷ digits ++ rest) (low_byte 16 digits) rest
hexadecimal_escape digits rest digits_are none =
    let escape = hexadecimal_begins (digits ++ rest) in
    let many : hexadecimal_length (digits ++ rest) ≡ length digits = prefix-digits 16 digits rest digits_are none in
    let front : take (hexadecimal_length (digits ++ rest)) (digits ++ rest) ≡ digits = take_at digits rest _ (sym many) in
    let behind : drop (hexadecimal_length (digits ++ rest)) (digits ++ rest) ≡ rest = drop_at digits rest _ (sym many) in
    record { byte_is = escape.byte_is ∙ ap (low_byte 16) front; rest_is = escape.rest_is ∙ behind }

-- the escape where it is any other byte
control_escape : (byte : ℕ) (rest : List ℕ) → is_digit_of 8 byte ≡ false → byte ≢ 120 → IsEscape (byte ∷ rest) (control_byte byte) rest
unfolding escape_length escaped_byte
control_escape byte rest no_octal no_x =
    let other : eqb byte 120 ≡ false = ne_eqb byte 120 no_x in
    record { byte_is = rw (no_octal, other) refl; rest_is = rw (no_octal, other) refl }

pub only_value : (inner value : List ℕ) → StandsFor inner value → value ≡ string_value inner
unfolding string_value_from
only_value _ _ nothing = refl
only_value _ _ (plain byte rest value other stands) = rw (ne_eqb byte 92 other, ← only_value rest value stands) refl
only_value _ _ (control byte rest value no_octal no_x stands) =
    with_escape (byte ∷ rest) rest value (control_byte byte) (control_escape byte rest no_octal no_x) (only_value rest value stands)
only_value _ _ (octal bytes digits rest value bytes_is digits_are some few whole stands) =
    with_escape bytes rest value (low_byte 8 digits) (rw bytes_is (octal_escape digits rest digits_are some few whole)) (only_value rest value stands)
only_value _ _ (hexadecimal bytes digits rest value bytes_is digits_are none stands) =
    with_escape (120 ∷ bytes) rest value (low_byte 16 digits) (rw bytes_is (hexadecimal_escape digits rest digits_are none)) (only_value rest value stands)

-- behind a digit stands what a string may hold
behind_digit : (radix digit : ℕ) (rest : List ℕ) → radix ≤ 16 → is_digit_of radix digit ≡ true → IsQuoted (digit ∷ rest) → IsQuoted rest
unfolding digit_of
behind_digit radix digit rest small is_digit (pieces.plain _ _ no_feed no_quote no_escape quoted) = quoted
behind_digit radix _ _ small is_digit (pieces.escape byte rest no_feed quoted) = let h : 16 < radix = ltb-true 16 radix is_digit in absurd (omega arith)

-- the digits in front, as many as there are up to a bound
record FirstDigits (radix most : ℕ) (bytes : List ℕ) : Type 0 where
  digits : List ℕ
  rest : List ℕ
  bytes_is : bytes ≡ digits ++ rest
  digits_are : AreDigits radix digits
  few : length digits ≤ most
  whole : (length digits ≡ most) ⊎ (begins_with_digit radix rest ≡ false)
  quoted : IsQuoted rest

first_digits : (radix most : ℕ) (bytes : List ℕ) → radix ≤ 16 → IsQuoted bytes → FirstDigits radix most bytes
first_digits radix zero bytes small quoted =
    record { digits = []; rest = bytes; bytes_is = refl; digits_are = All-nil (λ b. is_digit_of radix b ≡ true); few = omega arith; whole = inl refl; quoted = quoted }
first_digits radix (suc most) [] small quoted =
    record { digits = []; rest = []; bytes_is = refl; digits_are = All-nil (λ b. is_digit_of radix b ≡ true); few = omega arith; whole = inr refl; quoted = quoted }
first_digits radix (suc most) (first ∷ bytes) small quoted = elim (cases_Bool (is_digit_of radix first)) [
  | inl digit ↦
      let later = first_digits radix most bytes small (behind_digit radix first bytes small digit quoted) in
      record {
        digits = first ∷ later.digits;
        rest = later.rest;
        bytes_is = ap (λ t. first ∷ t) later.bytes_is;
        digits_are = All-cons (λ b. is_digit_of radix b ≡ true) first later.digits digit later.digits_are;
        few = omega arith;
        whole = elim later.whole [ inl all ↦ inl (ap suc all) | inr none ↦ inr none ];
        quoted = later.quoted;
      }
  | inr none ↦ record { digits = []; rest = first ∷ bytes; bytes_is = refl; digits_are = All-nil (λ b. is_digit_of radix b ≡ true); few = omega arith; whole = inr none; quoted = quoted }
]

-- no digit stands behind as many as there are bytes
no_more : (radix : ℕ) (bytes : List ℕ) (first : FirstDigits radix (suc (length bytes)) bytes) → begins_with_digit radix first.rest ≡ false
no_more radix bytes first = elim first.whole [ inl all ↦ absurd (omega (arith, length-append first.digits first.rest, ap length first.bytes_is)) | inr none ↦ none ]

-- the bytes stand for something
record Stands (inner : List ℕ) : Type 0 where
  value : List ℕ
  stands : StandsFor inner value

-- the fuel is as much as the bytes are many
some_from : (fuel : ℕ) (inner : List ℕ) → length inner ≤ fuel → IsQuoted inner → Stands inner
some_from fuel _ enough pieces.empty = record { value = []; stands = nothing }
some_from zero _ enough (pieces.plain byte rest no_feed no_quote no_escape quoted) = absurd (omega arith)
some_from zero _ enough (pieces.escape byte rest no_feed quoted) = absurd (omega arith)
some_from (suc fuel) _ enough (pieces.plain byte rest no_feed no_quote no_escape quoted) =
    let later = some_from fuel rest (omega arith) quoted in
    record { value = byte ∷ later.value; stands = plain byte rest later.value no_escape later.stands }
some_from (suc fuel) _ enough (pieces.escape byte rest no_feed quoted) = elim (cases_Bool (is_digit_of 8 byte)) [
  | inl digit ↦
      let first = first_digits 8 2 rest (omega arith) quoted in
      let later = some_from fuel first.rest (omega (arith, length-append first.digits first.rest, ap length first.bytes_is)) first.quoted in
      record {
        value = low_byte 8 (byte ∷ first.digits) ∷ later.value;
        stands = octal (byte ∷ rest) (byte ∷ first.digits) first.rest later.value (ap (λ t. byte ∷ t) first.bytes_is)
            (All-cons (λ b. is_digit_of 8 b ≡ true) byte first.digits digit first.digits_are) (omega arith) (omega arith)
            (elim first.whole [ inl all ↦ inl (ap suc all) | inr none ↦ inr none ]) later.stands;
      }
  | inr no_octal ↦ elim (cases_Bool (eqb byte 120)) [
    | inl x ↦
        let first = first_digits 16 (suc (length rest)) rest (omega arith) quoted in
        let later = some_from fuel first.rest (omega (arith, length-append first.digits first.rest, ap length first.bytes_is)) first.quoted in
        let stands : StandsFor (92 ∷ 120 ∷ rest) (low_byte 16 first.digits ∷ later.value) =
        hexadecimal rest first.digits first.rest later.value first.bytes_is first.digits_are (no_more 16 rest first) later.stands in
        record { value = low_byte 16 first.digits ∷ later.value; stands = rw (eqb-true byte 120 x) stands }
    | inr no_x ↦
        let later = some_from fuel rest (omega arith) quoted in
        record { value = control_byte byte ∷ later.value; stands = control byte rest later.value no_octal (eqb-false byte 120 no_x) later.stands }
  ]
]

pub some_value : (inner : List ℕ) → IsQuoted inner → StandsFor inner (string_value inner)
some_value inner quoted = let some = some_from (length inner) inner (omega arith) quoted in subst (StandsFor inner) (only_value inner some.value some.stands) some.stands
