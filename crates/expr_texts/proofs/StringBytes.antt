-- What a string stands for are bytes.
use Rattle.std.proofs.Common.{◌≡◌, ℕ, zero, suc, ◌==◌, ◌<◌, Bool, true, false, cond, List, [], ◌∷◌, take, refl, arith}
use Rattle.std.proofs.lemmas.Bool.Decides.{nat_tests}
use Rattle.std.specs.List.{list_all}
use Rattle.asm_base.specs.Digits.{is_digit_of}
use Rattle.asm_base.specs.Strings.{low_byte, octal_length, hexadecimal_length, control_byte, escape_length, escaped_byte, string_value_from}
use Rattle.expr_texts.specs.Shown.{is_byte}
use Rattle.expr_texts.proofs.ByteLists.{both}

-- what a string stands for are bytes
control_byte_is : (byte : ℕ) → byte < 256 → control_byte byte < 256
unfolding control_byte
control_byte_is byte small = by (byte == 98) (byte == 102) (byte == 110) (byte == 114) (byte == 116)
  where
    by : (a b c d e : Bool) → cond a 8 (cond b 12 (cond c 10 (cond d 13 (cond e 9 byte)))) < 256
    by true b c d e = omega arith
    by false true c d e = omega arith
    by false false true d e = omega arith
    by false false false true e = omega arith
    by false false false false true = omega arith
    by false false false false false = small

low_byte_is : (radix : ℕ) (digits : List ℕ) → low_byte radix digits < 256
unfolding low_byte
low_byte_is radix digits = omega arith

pub is_small : (byte : ℕ) → is_byte byte ≡ true → byte < 256
is_small byte is = grind (arith, nat_tests)

small_is : (byte : ℕ) → byte < 256 → is_byte byte ≡ true
small_is byte small = grind (arith, nat_tests)

escaped_is : (bytes : List ℕ) → list_all is_byte bytes ≡ true → escaped_byte bytes < 256
unfolding escaped_byte
escaped_is [] all = omega arith
escaped_is (first ∷ rest) all =
    let parts = both (is_byte first) (list_all is_byte rest) all in
    by (is_digit_of 8 first) (first == 120) (low_byte_is 8 (take (octal_length (first ∷ rest)) (first ∷ rest))) (low_byte_is 16 (take (hexadecimal_length rest) rest)) (control_byte_is first (is_small first parts.0))
  where
    by : (a b : Bool) {x y z : ℕ} → x < 256 → y < 256 → z < 256 → cond a x (cond b y z) < 256
    by true b p q r = p
    by false true p q r = q
    by false false p q r = r

pub value_is : (left : ℕ) (bytes : List ℕ) → list_all is_byte bytes ≡ true → list_all is_byte (string_value_from left bytes) ≡ true
unfolding string_value_from
value_is left [] all = refl
value_is (suc left) (byte ∷ rest) all = value_is left rest (both (is_byte byte) (list_all is_byte rest) all).1
value_is zero (byte ∷ rest) all =
    let parts = both (is_byte byte) (list_all is_byte rest) all in
    by (byte == 92) (escaped_byte rest) byte (string_value_from (escape_length rest) rest) (string_value_from 0 rest)
    (small_is (escaped_byte rest) (escaped_is rest parts.1)) parts.0 (value_is (escape_length rest) rest parts.1) (value_is 0 rest parts.1)
  where
    by : (b : Bool) (x y : ℕ) (xs ys : List ℕ) → is_byte x ≡ true → is_byte y ≡ true → list_all is_byte xs ≡ true → list_all is_byte ys ≡ true
        → list_all is_byte (cond b (x ∷ xs) (y ∷ ys)) ≡ true
    by true x y xs ys p q r s = rw p r
    by false x y xs ys p q r s = rw q s
