-- What was written reads back.
use Rattle.std.proofs.Common.{◌≡◌, ℕ, zero, suc, ◌+◌, ◌-◌, ◌*◌, ◌/◌, ◌%◌, ◌^◌, ◌<◌, ◌≤◌, true, false, List, [], ◌∷◌, ◌++◌, None, Some, nat_lt, if◌then◌else◌, ◌∙◌, ap, arith, inl, inr, ◌⊎◌}
use Rattle.std.proofs.lemmas.Bool.{cases_lt}
use Rattle.std.specs.Option.{option_and_then}
use Rattle.leb128.specs.Reading.{uleb, uleb_above}
use Rattle.leb128.specs.Room.{uleb_room}
use Rattle.leb128.specs.Digits.{uleb_digits, uleb_bytes, padded_digits}

pub is_below : (a b : ℕ) → a < b → nat_lt a b ≡ true
is_below a b below = grind arith

pub is_from : (a b : ℕ) → b ≤ a → nat_lt a b ≡ false
is_from a b from = grind arith

pub uleb_one : (byte : ℕ) (rest : List ℕ) → byte < 128 → uleb (byte ∷ rest) ≡ Some (byte, rest)
uleb_one byte rest small = ap (λ b. if b then Some (byte, rest) else option_and_then (uleb_above byte) (uleb rest)) (is_below byte 128 small)

uleb_more : (number : ℕ) (digits tail : List ℕ) → number < 2 ^ 64 → uleb digits ≡ Some (number / 128, tail)
    → uleb ((128 + number % 128) ∷ digits) ≡ Some (number, tail)
uleb_more number digits tail small reads =
    ap (λ b. if b then Some (128 + number % 128, digits) else option_and_then (uleb_above (128 + number % 128)) (uleb digits)) (is_from (128 + number % 128) 128 (omega arith))
    ∙ ap (option_and_then (uleb_above (128 + number % 128))) reads
    ∙ ap (λ b. if b then Some (128 + number % 128 - 128 + 128 * (number / 128), tail) else None) (is_below (number / 128) (2 ^ 57) (omega arith))
    ∙ ap (λ n. Some (n, tail)) (let same : 128 + number % 128 - 128 + 128 * (number / 128) ≡ number = omega arith in same)

uleb_split : (more number : ℕ) (tail : List ℕ) → number < 2 ^ 64
    → uleb (uleb_digits more (number / 128) ++ tail) ≡ Some (number / 128, tail)
    → (number < 128) ⊎ (128 ≤ number) → uleb (uleb_digits (suc more) number ++ tail) ≡ Some (number, tail)
uleb_split more number tail small below (inl short) =
    ap (λ b. uleb ((if b then number ∷ [] else (128 + number % 128) ∷ uleb_digits more (number / 128)) ++ tail)) (is_below number 128 short)
    ∙ uleb_one number tail short
uleb_split more number tail small below (inr long) =
    ap (λ b. uleb ((if b then number ∷ [] else (128 + number % 128) ∷ uleb_digits more (number / 128)) ++ tail)) (is_from number 128 long)
    ∙ uleb_more number (uleb_digits more (number / 128) ++ tail) tail small below

uleb_digits_read : (more number : ℕ) (tail : List ℕ) → number < uleb_room more → number < 2 ^ 64 → uleb (uleb_digits more number ++ tail) ≡ Some (number, tail)
uleb_digits_read zero number tail fits small = uleb_one number tail fits
uleb_digits_read (suc more) number tail fits small =
    uleb_split more number tail small (uleb_digits_read more (number / 128) tail (omega arith) (omega arith)) (cases_lt number 128)

pub uleb_read : (number : ℕ) (tail : List ℕ) → number < 2 ^ 64 → uleb (uleb_bytes number ++ tail) ≡ Some (number, tail)
unfolding uleb_bytes
uleb_read number tail small = uleb_digits_read 9 number tail (omega arith) small

-- in more bytes than hold it
pub padded_read : (more number : ℕ) (tail : List ℕ) → number < uleb_room more → number < 2 ^ 64 → uleb (padded_digits more number ++ tail) ≡ Some (number, tail)
padded_read zero number tail fits small = uleb_one number tail fits
padded_read (suc more) number tail fits small =
    uleb_more number (padded_digits more (number / 128) ++ tail) tail small (padded_read more (number / 128) tail (omega arith) (omega arith))
