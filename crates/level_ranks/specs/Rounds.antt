-- The rounds in which levels grow: each raises every level to what is needed at the levels before it.
use Rattle.std.specs.Prelude.{◌≡◌, ℕ, zero, suc, ◌<◌, ◌≤◌, max, List, [], ◌∷◌, All, length, slice_index_or}

-- each level, or the needed one where that is higher
abbrev pub raised : List ℕ → List ℕ → List ℕ
raised [] needs = []
raised (level ∷ levels) [] = level ∷ levels
raised (level ∷ levels) (needed ∷ needs) = max level needed ∷ raised levels needs

-- the levels after so many rounds
abbrev pub after : (List ℕ → List ℕ) → List ℕ → ℕ → List ℕ
after need start zero = start
after need start (suc count) = raised (after need start count) (need (after need start count))

-- some level is higher later
abbrev pub Rises : List ℕ → List ℕ → Type 0
Rises before later = (index : ℕ) × (index < length before) × (slice_index_or before index 0 < slice_index_or later index 0)

-- each of so many rounds raised a level
abbrev pub EachRises : (List ℕ → List ℕ) → List ℕ → ℕ → Type 0
EachRises need start count = (round : ℕ) → round < count → Rises (after need start round) (after need start (suc round))

-- a round raises none of these levels
abbrev pub IsSettled : (List ℕ → List ℕ) → List ℕ → Type 0
IsSettled need levels = raised levels (need levels) ≡ levels

-- whatever the levels, no item needs more than its top
abbrev pub NeedsWithin : (List ℕ → List ℕ) → List ℕ → Type 0
NeedsWithin need tops = (levels : List ℕ) (index : ℕ) → length levels ≡ length tops → index < length tops
    → slice_index_or (need levels) index 0 ≤ slice_index_or tops index 0

-- these levels are the lowest ones after so many rounds, each of which raised a level
pub record IsAfterRounds (need : List ℕ → List ℕ) (tops start levels : List ℕ) (count : ℕ) : Type 0 where
  pub items : length start ≡ length tops
  pub lowest : All (λ level. level ≡ 0) start
  pub within : NeedsWithin need tops
  pub rises : EachRises need start count
  pub levels_are : levels ≡ after need start count
