-- The low bits of a number, and the value of a string, read from the front.
use Rattle.std.proofs.Common.{◌≡◌, ℕ, zero, suc, ◌+◌, ◌*◌, ◌%◌, ◌<◌, ◌≤◌, true, false, eqb, List, [], ◌∷◌, ◌++◌, length, get_or, drop, refl, sym, ap, ◌∙◌, arith, append_assoc}
use Rattle.std.proofs.lemmas.List.{at_drop_more, at_drop_all, drop-drop, drop_all, append-nil}
use Rattle.std.proofs.lemmas.Nat.{mul-mod_first}
use Rattle.std.proofs.Math.Nat.{mod-add-mod, mod-mod, mod-eq_of_lt}
use Rattle.std.proofs.lemmas.Bool.{eq-eqb, ne_eqb}
use Rattle.asm_base.specs.Digits.{digit_of, number_after}
use Rattle.asm_base.specs.Strings.{escape_length, escaped_byte, string_value, string_value_from}

-- numbers with the same low bits have the same with a digit more
same_with_digit : (radix digit a b : ℕ) → a % 256 ≡ b % 256 → (a * radix + digit) % 256 ≡ (b * radix + digit) % 256
same_with_digit radix digit a b same =
    let of : (n : ℕ) → (n * radix + digit) % 256 ≡ (n % 256 * radix % 256 + digit) % 256 = λ n. sym (mod-add-mod (n * radix) 256 digit) ∙ ap (λ m. (m + digit) % 256) (sym (mul-mod_first n radix 256)) in
    of a ∙ ap (λ m. (m * radix % 256 + digit) % 256) same ∙ sym (of b)

pub same_low : (radix a b : ℕ) (digits : List ℕ) → a % 256 ≡ b % 256 → number_after radix a digits % 256 ≡ number_after radix b digits % 256
unfolding number_after
same_low radix a b [] same = same
same_low radix a b (digit ∷ digits) same = same_low radix (a * radix + digit_of digit) (b * radix + digit_of digit) digits (same_with_digit radix (digit_of digit) a b same)

-- one digit more behind the low bits so far
pub low_byte_step : (radix low i : ℕ) (digits : List ℕ) → i < length digits
    → number_after radix low (drop i digits) % 256 ≡ number_after radix ((low * radix + digit_of (get_or digits i 0)) % 256) (drop (i + 1) digits) % 256
unfolding number_after
low_byte_step radix low i digits inside =
    let number = low * radix + digit_of (get_or digits i 0) in
    ap (λ n. n % 256) (at_drop_more (number_after radix low) digits i 0 inside) ∙ sym (same_low radix (number % 256) number (drop (i + 1) digits) (mod-mod number 256))

pub low_byte_done : (radix low i : ℕ) (digits : List ℕ) → low < 256 → length digits ≤ i → number_after radix low (drop i digits) % 256 ≡ low
unfolding number_after
low_byte_done radix low i digits small all = ap (λ n. n % 256) (at_drop_all (number_after radix low) digits i all) ∙ mod-eq_of_lt small

-- the bytes that are left out are those of the escape before
pub string_value_from-drop : (left_out : ℕ) (bytes : List ℕ) → string_value_from left_out bytes ≡ string_value_from 0 (drop left_out bytes)
unfolding string_value_from
string_value_from-drop zero bytes = refl
string_value_from-drop (suc n) [] = refl
string_value_from-drop (suc n) (byte ∷ rest) = string_value_from-drop n rest

-- past a byte that stands for itself
pub read_plain : (made new all s : List ℕ) (at first : ℕ) (rest : List ℕ) → drop at s ≡ first ∷ rest → (first ≡ 92 → ⊥) → new ≡ made ++ first ∷ []
    → made ++ string_value (drop at s) ≡ all → new ++ string_value (drop (at + 1) s) ≡ all
unfolding string_value_from
read_plain made new all s at first rest front plain new_is before =
    let other : eqb first 92 ≡ false = ne_eqb first 92 plain in
    let left : drop (at + 1) s ≡ rest = sym (drop-drop 1 at s) ∙ ap (drop 1) front in
    let step : string_value (drop at s) ≡ first ∷ string_value (drop (at + 1) s) = rw (left, front, other) refl in
    rw (new_is, append_assoc, ← step) before

-- past a backslash and what belongs to it
pub read_escaped : (made new all s : List ℕ) (at first : ℕ) (rest : List ℕ) (byte n : ℕ) → drop at s ≡ first ∷ rest → first ≡ 92 → byte ≡ escaped_byte rest → n ≡ escape_length rest
    → new ≡ made ++ byte ∷ [] → made ++ string_value (drop at s) ≡ all → new ++ string_value (drop (at + (1 + n)) s) ≡ all
unfolding string_value_from
read_escaped made new all s at first rest byte n front backslash byte_is n_is new_is before =
    let same : eqb first 92 ≡ true = eq-eqb first 92 backslash in
    let left : drop (at + (1 + n)) s ≡ drop n rest = ap (λ k. drop k s) (omega arith) ∙ sym (drop-drop (suc n) at s) ∙ ap (drop (suc n)) front in
    let step : string_value (drop at s) ≡ byte ∷ string_value (drop (at + (1 + n)) s) = rw (left, front, same, byte_is, n_is) (ap (λ bytes. escaped_byte rest ∷ bytes) (string_value_from-drop (escape_length rest) rest)) in
    rw (new_is, append_assoc, ← step) before

pub read_end : (made all s : List ℕ) (at : ℕ) → length s ≤ at → made ++ string_value (drop at s) ≡ all → made ≡ all
unfolding string_value_from
read_end made all s at past before = let nothing : drop at s ≡ [] = drop_all at s past in sym (append-nil made) ∙ rw nothing at before
