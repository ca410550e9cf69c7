-- Digits whose number fits, one after the other.
use Rattle.std.proofs.Common.{◌≡◌, ℕ, suc, ◌+◌, ◌*◌, ◌^◌, ◌<◌, ◌≤◌, Bool, true, false, cond, ◌&&◌, List, [], ◌∷◌, Result, Ok, Err, length, get_or, drop, refl, sym, ◌∙◌, arith, nat_lt, add-one}
use Rattle.std.specs.List.{list_all}
use Rattle.std.proofs.Math.Nat.{pow-suc, pow-le-pow_right, mul-le-mul_right}
use Rattle.std.proofs.lemmas.Bool.Decides.{nat_tests}
use Rattle.std.proofs.lemmas.List.{at_drop_more, at_drop_all}
use Rattle.asm_base.specs.Digits.{digit_of, is_digit_of, number_after}
use Rattle.asm_expr.specs.declared.faults.ExprCause.{ExprCause}
use Rattle.asm_expr.specs.declared.faults.ExprCause.TheVariants.{BadExpression, NumberTooWide}
use Rattle.expr_texts.specs.Numbers.{numeral}

-- one digit more makes a number below the next power
pub step_below : (radix number digit i : ℕ) → number < radix ^ i → digit < radix → number * radix + digit < radix ^ (i + 1)
step_below radix number digit i low small =
    rw (add-one, pow-suc) (omega (arith, mul-le-mul_right radix low))

-- and so one that fits, where all digits do
pub step_fits : (radix number digit i n : ℕ) → number < radix ^ i → digit < radix → i < n → radix ^ n ≤ 2 ^ 64 → number * radix + digit < 2 ^ 64
step_fits radix number digit i n low small inside fits =
    let some : 0 < radix = omega arith in
    let below = step_below radix number digit i low small in
    let rest = pow-le-pow_right some inside in
    let same : suc i ≡ i + 1 = omega arith in
    let least : number * radix + digit < radix ^ suc i = rw same below in
    omega (arith, least, rest)

pub number_step : (radix number i : ℕ) (digits : List ℕ) → i < length digits
    → number_after radix number (drop i digits) ≡ number_after radix (number * radix + digit_of (get_or digits i 0)) (drop (i + 1) digits)
unfolding number_after
number_step radix number i digits inside = at_drop_more (number_after radix number) digits i 0 inside

pub all_step : (radix i : ℕ) (digits : List ℕ) → i < length digits → digit_of (get_or digits i 0) < radix
    → list_all (is_digit_of radix) (drop i digits) ≡ list_all (is_digit_of radix) (drop (i + 1) digits)
all_step radix i digits inside small =
    at_drop_more (list_all (is_digit_of radix)) digits i 0 inside
    ∙ by (nat_lt (digit_of (get_or digits i 0)) radix) refl
  where
    by : (b : Bool) → nat_lt (digit_of (get_or digits i 0)) radix ≡ b
        → (b && list_all (is_digit_of radix) (drop (i + 1) digits)) ≡ list_all (is_digit_of radix) (drop (i + 1) digits)
    by true is = refl
    by false is = absurd (grind (arith, nat_tests))

-- all digits that fit are their numeral
pub numeral_fits : (radix number : ℕ) (digits : List ℕ) → 0 < length digits → number_after radix 0 digits ≡ number → list_all (is_digit_of radix) digits ≡ true → number < 2 ^ 64
    → numeral radix digits ≡ Ok number
unfolding numeral
numeral_fits radix number [] some is all fits = absurd (omega arith)
numeral_fits radix number (digit ∷ digits) some is all fits = rw (all, is) (by (nat_lt number (2 ^ 64)) refl)
  where
    by : (b : Bool) → nat_lt number (2 ^ 64) ≡ b → (let made : Result ℕ ExprCause = cond b (Ok number) (Err NumberTooWide) in made ≡ Ok number)
    by true test = refl
    by false test = absurd (grind (arith, nat_tests))

pub numeral_done : (radix number n i : ℕ) (digits : List ℕ) → 0 < length digits → n ≡ length digits → n ≤ i → number < radix ^ i → i ≤ n → radix ^ n ≤ 2 ^ 64
    → number_after radix number (drop i digits) ≡ number_after radix 0 digits → list_all (is_digit_of radix) (drop i digits) ≡ list_all (is_digit_of radix) digits
    → numeral radix digits ≡ Ok number
unfolding number_after
numeral_done radix number n i digits some long all low within fits value tests =
    let same : i ≡ n = omega arith in
    let inside : length digits ≤ i = omega arith in
    numeral_fits radix number digits some
    (sym value ∙ at_drop_all (number_after radix number) digits i inside)
    (sym tests ∙ at_drop_all (list_all (is_digit_of radix)) digits i inside)
    (let most : number < radix ^ n = rw same at low in omega (arith, most))

digit_test : (radix byte digit : ℕ) → (digit ≡ digit_of byte) × (digit < radix) → is_digit_of radix byte ≡ true
digit_test radix byte digit found = by (nat_lt (digit_of byte) radix) refl
  where
    by : (b : Bool) → nat_lt (digit_of byte) radix ≡ b → b ≡ true
    by true test = refl
    by false test = absurd (let same = found.0 in let small = found.1 in grind (arith, nat_tests))

-- two and three digits are their numeral
pub two_decimal : (a b x y : ℕ) → (x ≡ digit_of a) × (x < 10) → (y ≡ digit_of b) × (y < 10) → numeral 10 (a ∷ b ∷ []) ≡ Ok (x * 10 + y)
unfolding number_after
two_decimal a b x y first second =
    let tens = first.0 in let low = first.1 in let ones = second.0 in let small = second.1 in
    numeral_fits 10 (x * 10 + y) (a ∷ b ∷ []) (omega arith) (omega arith) (rw (digit_test 10 a x first, digit_test 10 b y second) refl) (omega arith)

pub two_hexadecimal : (a b x y : ℕ) → (x ≡ digit_of a) × (x < 16) → (y ≡ digit_of b) × (y < 16) → numeral 16 (a ∷ b ∷ []) ≡ Ok (x * 16 + y)
unfolding number_after
two_hexadecimal a b x y first second =
    let tens = first.0 in let low = first.1 in let ones = second.0 in let small = second.1 in
    numeral_fits 16 (x * 16 + y) (a ∷ b ∷ []) (omega arith) (omega arith) (rw (digit_test 16 a x first, digit_test 16 b y second) refl) (omega arith)

pub three_decimal : (a b c x y z : ℕ) → (x ≡ digit_of a) × (x < 10) → (y ≡ digit_of b) × (y < 10) → (z ≡ digit_of c) × (z < 10) → numeral 10 (a ∷ b ∷ c ∷ []) ≡ Ok ((x * 10 + y) * 10 + z)
unfolding number_after
three_decimal a b c x y z first second third =
    let hundreds = first.0 in let low = first.1 in let tens = second.0 in let small = second.1 in let ones = third.0 in let least = third.1 in
    numeral_fits 10 ((x * 10 + y) * 10 + z) (a ∷ b ∷ c ∷ []) (omega arith) (omega arith)
    (rw (digit_test 10 a x first, digit_test 10 b y second, digit_test 10 c z third) refl) (omega arith)

pub one_decimal : (a x : ℕ) → (x ≡ digit_of a) × (x < 10) → numeral 10 (a ∷ []) ≡ Ok x
unfolding number_after
one_decimal a x first =
    let ones = first.0 in let low = first.1 in
    numeral_fits 10 x (a ∷ []) (omega arith) (omega arith) (rw (digit_test 10 a x first) refl) (omega arith)

-- short digits fit
pub ten_fits : (n : ℕ) → n ≤ 18 → 10 ^ n ≤ 2 ^ 64
ten_fits n few = let some : 0 < 10 = omega arith in omega (arith, pow-le-pow_right some few)

pub sixteen_fits : (n : ℕ) → n ≤ 16 → 16 ^ n ≤ 2 ^ 64
sixteen_fits n few = let some : 0 < 16 = omega arith in omega (arith, pow-le-pow_right some few)

-- the digits of a numeral are all of its radix
pub numeral_all : (radix number : ℕ) (digits : List ℕ) → numeral radix digits ≡ Ok number → list_all (is_digit_of radix) digits ≡ true
unfolding numeral
numeral_all radix number [] is = cc
numeral_all radix number (digit ∷ digits) is = by (list_all (is_digit_of radix) (digit ∷ digits)) refl is
  where
    by : (b : Bool) → list_all (is_digit_of radix) (digit ∷ digits) ≡ b
        → cond b (cond (nat_lt (number_after radix 0 (digit ∷ digits)) (2 ^ 64)) (Ok (number_after radix 0 (digit ∷ digits))) (Err NumberTooWide)) (Err BadExpression) ≡ Ok number
        → list_all (is_digit_of radix) (digit ∷ digits) ≡ true
    by true all is = all
    by false none is = cc
