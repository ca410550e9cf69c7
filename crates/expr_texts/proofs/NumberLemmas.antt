-- Digits never make a number smaller, and go behind it one after the other.
use Rattle.std.proofs.Common.{◌≡◌, ℕ, ◌+◌, ◌*◌, ◌<◌, ◌≤◌, ◌^◌, List, [], ◌∷◌, length, get_or, drop, arith}
use Rattle.std.proofs.Math.Nat.{mul-le-mul_left}
use Rattle.std.proofs.lemmas.List.{at_drop_more, at_drop_all}
use Rattle.asm_base.specs.Digits.{digit_of, number_after}

grows : (radix number digit : ℕ) → 0 < radix → number ≤ number * radix + digit
grows radix number digit some = omega (arith, mul-le-mul_left number some)

pub number_grows : (radix number : ℕ) (digits : List ℕ) → 0 < radix → number ≤ number_after radix number digits
unfolding number_after
number_grows radix number [] some = omega arith
number_grows radix number (digit ∷ digits) some =
    omega (arith, grows radix number (digit_of digit) some, number_grows radix (number * radix + digit_of digit) digits some)

pub number_step : (radix number i : ℕ) (digits : List ℕ) → i < length digits
    → number_after radix number (drop i digits) ≡ number_after radix (number * radix + digit_of (get_or digits i 0)) (drop (i + 1) digits)
unfolding number_after
number_step radix number i digits inside = at_drop_more (number_after radix number) digits i 0 inside

pub number_too_wide : (radix number i : ℕ) (digits : List ℕ) → 0 < radix → i < length digits
    → 2 ^ 64 ≤ number * radix + digit_of (get_or digits i 0) → 2 ^ 64 ≤ number_after radix number (drop i digits)
number_too_wide radix number i digits some inside wide =
    rw (number_step radix number i digits inside) (omega (arith, number_grows radix (number * radix + digit_of (get_or digits i 0)) (drop (i + 1) digits) some))

pub number_done : (radix number i : ℕ) (digits : List ℕ) → length digits ≤ i → number_after radix number (drop i digits) ≡ number
unfolding number_after
number_done radix number i digits all = at_drop_all (number_after radix number) digits i all
