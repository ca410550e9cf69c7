-- How items of several levels grow: in rounds, in each of which every item is raised to the level that it needs in the layout before.
use Rattle.std.specs.Prelude.{◌≡◌, ℕ, ◌+◌, ◌<◌, ◌≤◌, nat_lt, max, Bool, false, List, [], ◌∷◌, length, map, count_by, Option, None, Some, is_some, slice_index_or}

-- for each item and each of its levels above the lowest, the number of the round that takes it, or none
abbrev pub Ranks : Type 0
Ranks = List (List (Option ℕ))

-- a level of this number is taken before the round
abbrev pub is_taken_before : ℕ → Option ℕ → Bool
is_taken_before round (Some number) = nat_lt number round
is_taken_before round None = false

-- the level of each item where exactly the levels are taken whose numbers are below this round
abbrev pub levels_below : ℕ → Ranks → List ℕ
levels_below round ranks = map (λ numbers. count_by (is_taken_before round) numbers) ranks

-- the level of each item where all levels that have a number are taken
abbrev pub levels_taken : Ranks → List ℕ
levels_taken ranks = map (λ numbers. count_by is_some numbers) ranks

-- the number of a level, and 0 where no round takes it
abbrev pub greatest_by : Option ℕ → ℕ
greatest_by None = 0
greatest_by (Some number) = number

-- the greatest number of the levels of an item
abbrev pub greatest_in : List (Option ℕ) → ℕ
greatest_in [] = 0
greatest_in (number ∷ numbers) = max (greatest_by number) (greatest_in numbers)

-- the greatest number of all levels: the last round that takes one
abbrev pub greatest : Ranks → ℕ
greatest [] = 0
greatest (numbers ∷ ranks) = max (greatest_in numbers) (greatest ranks)

-- the numbers of the levels of the item at this index
abbrev pub numbers_at : Ranks → ℕ → List (Option ℕ)
numbers_at ranks item = slice_index_or ranks item []

-- this level is enough for the item where the levels whose numbers are below this round are taken
abbrev pub Holds : (List ℕ → List ℕ) → Ranks → ℕ → ℕ → ℕ → Type 0
Holds need ranks item level round = slice_index_or (need (levels_below round ranks)) item 0 ≤ level

-- the item needs more than this level there
abbrev pub Misses : (List ℕ → List ℕ) → Ranks → ℕ → ℕ → ℕ → Type 0
Misses need ranks item level round = level < slice_index_or (need (levels_below round ranks)) item 0

-- the number of a level is the first round in which the level below it is not enough; it has none where that is always enough
abbrev pub IsNumber : (List ℕ → List ℕ) → Ranks → ℕ → ℕ → Option ℕ → Type 0
IsNumber need ranks item level (Some round) =
    (0 < round) × Misses need ranks item level round × ((before : ℕ) → 0 < before → before < round → Holds need ranks item level before)
IsNumber need ranks item level None = (round : ℕ) → 0 < round → Holds need ranks item level round

-- the ranking of the levels: as many as each item has above its lowest, each with its number
pub record IsRanking (need : List ℕ → List ℕ) (tops : List ℕ) (ranks : Ranks) : Type 0 where
  pub levels : map (λ numbers. length numbers) ranks ≡ tops
  pub numbers : (item level : ℕ) → item < length ranks → level < length (numbers_at ranks item)
      → IsNumber need ranks item level (slice_index_or (numbers_at ranks item) level None)

-- the levels that the ranking takes, and the number of rounds: one more than the last that takes a level
pub record IsLayout (need : List ℕ → List ℕ) (tops levels : List ℕ) (rounds : ℕ) : Type 0 where
  pub ranks : Ranks
  pub ranking : IsRanking need tops ranks
  pub taken : levels ≡ levels_taken ranks
  pub count : rounds ≡ 1 + greatest ranks
