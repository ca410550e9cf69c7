-- The numbers that tokens spell fit in 64 bits.
use Rattle.std.proofs.Common.{◌≡◌, ℕ, ◌^◌, ◌==◌, ◌||◌, ◌<◌, Bool, true, false, cond, nat_lt, List, [], ◌∷◌, Ok, Err, refl, arith}
use Rattle.std.proofs.lemmas.Bool.Decides.{nat_tests}
use Rattle.std.specs.List.{list_all}
use Rattle.asm_base.specs.Digits.{is_digit_of, number_after}
use Rattle.asm_expr.specs.declared.faults.ExprCause.TheVariants.{BadExpression, NumberTooWide}
use Rattle.expr_texts.specs.Numbers.{numeral, spelled_number}

-- numbers that are read fit
pub numeral_fits : (radix n : ℕ) (digits : List ℕ) → numeral radix digits ≡ Ok n → n < 2 ^ 64
unfolding numeral
numeral_fits radix n [] is = cc
numeral_fits radix n (first ∷ rest) is = by (list_all (is_digit_of radix) (first ∷ rest)) (nat_lt (number_after radix 0 (first ∷ rest)) (2 ^ 64)) refl is
  where
    by : (a b : Bool) → nat_lt (number_after radix 0 (first ∷ rest)) (2 ^ 64) ≡ b → cond a (cond b (Ok (number_after radix 0 (first ∷ rest))) (Err NumberTooWide)) (Err BadExpression) ≡ Ok n → n < 2 ^ 64
    by true true low it = let same : number_after radix 0 (first ∷ rest) ≡ n = cc in grind (arith, nat_tests)
    by true false low it = cc
    by false b low it = cc

pub spelled_fits : (n : ℕ) (digits : List ℕ) → spelled_number digits ≡ Ok n → n < 2 ^ 64
unfolding spelled_number
spelled_fits n [] is = numeral_fits 10 n [] is
spelled_fits n (first ∷ []) is = numeral_fits 10 n (first ∷ []) is
spelled_fits n (first ∷ second ∷ rest) is = by (first == 48) (second == 120 || second == 88) (second == 98 || second == 66) is
  where
    by : (a b c : Bool) → cond a (cond b (numeral 16 rest) (cond c (numeral 2 rest) (numeral 8 (second ∷ rest)))) (numeral 10 (first ∷ second ∷ rest)) ≡ Ok n → n < 2 ^ 64
    by true true c it = numeral_fits 16 n rest it
    by true false true it = numeral_fits 2 n rest it
    by true false false it = numeral_fits 8 n (second ∷ rest) it
    by false b c it = numeral_fits 10 n (first ∷ second ∷ rest) it
