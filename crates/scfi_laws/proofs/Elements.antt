-- Elements of lists by their numbers.
use Rattle.std.proofs.Common.{◌≡◌, ◌<◌, ℕ, zero, suc, List, [], ◌∷◌, length, Some, slice_get, refl, arith}

-- there is an element of each number within a list
pub element : {A : Type 0} (xs : List A) (j : ℕ) → j < length xs → (x : A) × (slice_get xs j ≡ Some x)
element [] j low = absurd (let none : ⊥ = omega arith in none)
element (x ∷ xs) zero low = (x, refl)
element (x ∷ xs) (suc j) low = element xs j (omega arith)

-- and of no other
pub within : {A : Type 0} (xs : List A) (j : ℕ) (x : A) → slice_get xs j ≡ Some x → j < length xs
within [] j x is = absurd (let none : ⊥ = cc in none)
within (y ∷ xs) zero x is = omega arith
within (y ∷ xs) (suc j) x is = let low = within xs j x is in omega arith
