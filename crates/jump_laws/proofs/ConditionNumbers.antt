-- The condition of a number has this number.
use Rattle.std.proofs.Common.{◌≡◌, ℕ, zero, suc, List, [], ◌∷◌, Some, Bool, true, refl, ap, ◌+◌, arith}
use Rattle.std.specs.Prelude.{◌==◌, ◌&&◌, slice_get}
use Rattle.std.proofs.lemmas.Bool.{and_parts, eqb-true}
use Rattle.std.proofs.lemmas.Option.{none-some, same_Some}
use Rattle.item_bytes.specs.declared.jumps.Condition.{Condition}
use Rattle.item_bytes.specs.Jumps.{the_conditions, number_of, condition_of}

-- each of these conditions, the first of which has this number, has the number of its place
abbrev are_numbered : ℕ → List Condition → Bool
are_numbered first [] = true
are_numbered first (condition ∷ conditions) = (number_of condition == first) && are_numbered (suc first) conditions

number_at : (first number : ℕ) (conditions : List Condition) (condition : Condition) → are_numbered first conditions ≡ true
    → slice_get conditions number ≡ Some condition → first + number ≡ number_of condition
number_at first number [] condition are there = absurd (none-some condition there)
number_at first zero (one ∷ conditions) condition are there =
    let own = eqb-true (number_of one) first (and_parts (number_of one == first) (are_numbered (suc first) conditions) are).0 in
    let same : number_of one ≡ number_of condition = ap number_of (same_Some one condition there) in
    omega (arith, own, same)
number_at first (suc number) (one ∷ conditions) condition are there =
    let next = number_at (suc first) number conditions condition (and_parts (number_of one == first) (are_numbered (suc first) conditions) are).1 there in
    omega (arith, next)

all_numbered : are_numbered 0 the_conditions ≡ true
unfolding the_conditions
all_numbered = refl

pub numbered : (number : ℕ) (condition : Condition) → condition_of number ≡ Some condition → number ≡ number_of condition
numbered number condition there = let same = number_at 0 number the_conditions condition all_numbered there in omega (arith, same)
