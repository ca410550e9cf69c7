-- A round in which only some rows are looked at.
use Rattle.std.specs.Prelude.{◌≡◌, ◌⊎◌, ℕ, ◌+◌, ◌<◌, ◌≤◌, max, nat_eq, Bool, true, List, length, slice_index, slice_index_or, count_by}
use Rattle.level_ranks.specs.Rounds.{Rises}
use Rattle.asm_levels.specs.declared.rows.Row.{Row}
use Rattle.asm_levels.specs.Needs.{levels_needed, has_levels}
use Rattle.asm_levels.specs.RowLists.{IsAmong, AreListed}
use Rattle.asm_levels.specs.Watching.{IsTouched, IsFollowed, IsAbove}

-- how many rows were looked at in this round, by the rounds in which each was looked at last
unfoldable pub looked_at : ℕ → List ℕ → ℕ
looked_at round seen = count_by (λ stamp. nat_eq stamp round) seen

-- in this round, which began with the levels `old` and `start` steps, the rows were looked at that `seen` tells, and so many have risen
pub record IsPartlyLooked (rows : List Row) (shifts old now seen risen : List ℕ) (round count start steps : ℕ) : Type 0 where
  pub many_old : length old ≡ length rows
  pub many_now : length now ≡ length rows
  pub many_seen : length seen ≡ length rows
  pub low : (index : ℕ) → slice_index old index ≤ slice_index now index
  pub high : (index : ℕ) → index < length rows → slice_index now index ≤ max (slice_index old index) (slice_index (levels_needed shifts rows) index)
  pub rises : 0 < count → Rises old now
  pub still : count ≡ 0 → now ≡ old
  pub listed : AreListed old now count risen
  pub inside : (at : ℕ) → at < count → at < length risen → slice_index risen at < length rows
  pub held : (index : ℕ) → index < length rows → slice_index seen index ≡ round → slice_index (levels_needed shifts rows) index ≤ slice_index now index
  pub stamps : (index : ℕ) → slice_index seen index ≤ round
  pub several : (index : ℕ) (default : Row) → index < length rows → slice_index seen index ≡ round → has_levels (slice_index_or rows index default).size ≡ true
  pub counted : count ≤ looked_at round seen
  pub ticks : steps ≤ start + looked_at round seen
  pub later : start ≤ steps

-- the rows that have an entry at this node were looked at in this round
abbrev pub AreSeen : List ℕ → List ℕ → List Bool → List ℕ → ℕ → ℕ → Type 0
AreSeen rows nodes follows seen round node = (at row : ℕ) → at < length rows → slice_index nodes at ≡ node
    → IsFollowed follows (slice_index rows at) row → slice_index seen row ≡ round

-- where a node was passed in this round, the rows that have an entry at it or at one above it were looked at
abbrev pub ArePassed : List ℕ → List ℕ → List Bool → List ℕ → List ℕ → ℕ → Type 0
ArePassed rows nodes follows seen passed round = (node above : ℕ) → slice_index passed node ≡ round → 0 < above → IsAbove above node
    → AreSeen rows nodes follows seen round above

-- the round began with some levels and steps
abbrev pub BegunBy : List Row → List ℕ → List ℕ → List ℕ → List ℕ → ℕ → ℕ → ℕ → Type 0
BegunBy rows shifts now seen risen round count steps = (old : List ℕ) × (start : ℕ) × IsPartlyLooked rows shifts old now seen risen round count start steps

-- each row needs no more than its level, or has an entry at or above the block of one of these rows, or is in the list of those that are looked at
abbrev pub AreCalm : List Row → List ℕ → List ℕ → List ℕ → List ℕ → List Bool → List ℕ → ℕ → List ℕ → Type 0
AreCalm all shifts levels rows nodes follows wide count touched = (index : ℕ) → index < length all
    → (slice_index (levels_needed shifts all) index ≤ slice_index levels index)
    ⊎ (IsTouched (length all) rows nodes follows count touched index ⊎ IsAmong index (length wide) wide)
