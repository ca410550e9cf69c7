-- Sums of lists that are compared index by index.
use Rattle.std.proofs.Common.{◌≡◌, ℕ, zero, suc, ◌<◌, ◌≤◌, List, [], ◌∷◌, length, get_or, sum, arith}
use Rattle.std.proofs.lemmas.List.Sums.{sum_by-cons}

abbrev pub EachAtMost : List ℕ → List ℕ → Type 0
EachAtMost xs ys = (index : ℕ) → index < length xs → get_or xs index 0 ≤ get_or ys index 0

pub sum_at_most : (xs ys : List ℕ) → length xs ≡ length ys → EachAtMost xs ys → sum xs ≤ sum ys
sum_at_most [] [] long each = omega arith
sum_at_most [] (y ∷ ys) long each = absurd (omega arith)
sum_at_most (x ∷ xs) [] long each = absurd (omega arith)
sum_at_most (x ∷ xs) (y ∷ ys) long each =
    let left = sum_by-cons (λ (n : ℕ). n) x xs in let right = sum_by-cons (λ (n : ℕ). n) y ys in
    let first : x ≤ y = each 0 (omega arith) in
    let later = sum_at_most xs ys (omega arith) (λ index inside. each (suc index) (omega arith)) in omega arith

-- one that is less makes the sum less
pub sum_less : (xs ys : List ℕ) (at : ℕ) → length xs ≡ length ys → EachAtMost xs ys → at < length xs → get_or xs at 0 < get_or ys at 0 → sum xs < sum ys
sum_less [] ys at long each inside less = absurd (omega arith)
sum_less (x ∷ xs) [] at long each inside less = absurd (omega arith)
sum_less (x ∷ xs) (y ∷ ys) zero long each inside less =
    let left = sum_by-cons (λ (n : ℕ). n) x xs in let right = sum_by-cons (λ (n : ℕ). n) y ys in
    let later = sum_at_most xs ys (omega arith) (λ index within. each (suc index) (omega arith)) in omega arith
sum_less (x ∷ xs) (y ∷ ys) (suc at) long each inside less =
    let left = sum_by-cons (λ (n : ℕ). n) x xs in let right = sum_by-cons (λ (n : ℕ). n) y ys in
    let first : x ≤ y = each 0 (omega arith) in
    let later = sum_less xs ys at (omega arith) (λ index within. each (suc index) (omega arith)) (omega arith) less in omega arith
