-- Elements of lists.
use Rattle.std.proofs.Common.{◌≡◌, ◌<◌, ℕ, zero, suc, List, [], ◌∷◌, length, Some, slice_get, refl, arith}

-- an element within a list
pub element : {A : Type 0} (xs : List A) (j : ℕ) → j < length xs → (x : A) × (slice_get xs j ≡ Some x)
element [] j within = absurd (let none : ⊥ = omega arith in none)
element (x ∷ xs) zero within = (x, refl)
element (x ∷ xs) (suc j) within = element xs j (omega arith)
