-- Numbers below a width as a tree of halves.
use Rattle.std.specs.Prelude.{◌≡◌, ◌-◌, ◌/◌, ◌<◌, ◌≤◌, ◌++◌, ℕ, zero, suc, nat_lt, Bool, true, false, Option, None, Some, List, [], ◌∷◌, get_or, if◌then◌else◌}
use Rattle.number_sets.specs.declared.trees.Tree.{Tree}
use Rattle.number_sets.specs.declared.trees.Tree.TheVariants.{Empty, Leaf, Fork'}

-- a number is one of the lower half, or, less that half, one of the other
abbrev pub in_halves : (low high : ℕ → Bool) → (half k : ℕ) → Bool
in_halves low high half k = if nat_lt k half then low k else high (k - half)

-- the tree has a number
abbrev pub has_in : Tree → (width k : ℕ) → Bool
has_in Empty width k = false
has_in (Leaf word) width k = get_or word k false
has_in (Fork' p low q high) width k = in_halves (has_in low (width / 2)) (has_in high (width - width / 2)) (width / 2) k

-- words stand where the width is at most 64, with no number behind it, and halves elsewhere
abbrev pub IsShaped : Tree → (width : ℕ) → Type 0
IsShaped Empty width = Unit {0}
IsShaped (Leaf word) width = (width ≤ 64) × ((k : ℕ) → width ≤ k → get_or word k false ≡ false)
IsShaped (Fork' p low q high) width = (64 < width) × IsShaped low (width / 2) × IsShaped high (width - width / 2)

-- the greatest number from one on up to another of which a test holds, or none where it holds of none
abbrev pub IsLast : (ℕ → Bool) → (from to : ℕ) → Option ℕ → Type 0
IsLast test from to None = (k : ℕ) → from ≤ k → k < to → test k ≡ false
IsLast test from to (Some n) = (from ≤ n) × (n < to) × (test n ≡ true) × ((k : ℕ) → n < k → k < to → test k ≡ false)

-- what a test says of each of the first numbers
unfoldable pub listed : (ℕ → Bool) → (count : ℕ) → List Bool
listed test zero = []
listed test (suc n) = listed test n ++ test n ∷ []
