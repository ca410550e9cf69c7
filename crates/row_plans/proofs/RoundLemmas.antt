-- What rows need and how often they are looked at, from round to round.
use Rattle.std.proofs.Common.{◌≡◌, ℕ, ◌+◌, ◌<◌, ◌≤◌, List, inl, inr, length, get_or, ap, sym, ◌∙◌, subst, arith}
use Rattle.std.specs.List.{All}
use Rattle.std.proofs.lemmas.Bool.{cases_eq}
use Rattle.std.proofs.lemmas.List.{get_or-map}
use Rattle.level_ranks.specs.Rounds.{after, IsAfterRounds}
use Rattle.asm_levels.specs.declared.rows.Row.{Row}
use Rattle.asm_levels.specs.Needs.{needed, levels_needed}

-- what the row at an index needs
pub needs_at : (shifts : List ℕ) (rows : List Row) (index : ℕ) (row : Row) → index < length rows → row ≡ get_or rows index row → get_or (levels_needed shifts rows) index 0 ≡ needed shifts row.size
needs_at shifts rows index row inside here =
    get_or-map (λ r. needed shifts r.size) rows index row 0 inside ∙ ap (λ (r : Row). needed shifts r.size) (sym here)

-- the levels before the first round are those at the start
pub first_levels : (need : List ℕ → List ℕ) (tops start levels : List ℕ) (count : ℕ) → IsAfterRounds need tops start levels count → count ≡ 0 → levels ≡ start
first_levels need tops start levels count rounds none = rounds.levels_are ∙ ap (λ n. after need start n) none

pub lowest_still : (start levels : List ℕ) → levels ≡ start → All (λ level. level ≡ 0) start → All (λ level. level ≡ 0) levels
lowest_still start levels same lowest = subst (λ (xs : List ℕ). All (λ level. level ≡ 0) xs) (sym same) lowest

-- after the first round or a later one, each row of several levels was looked at
pub at_least_once : (start before now several count : ℕ) → start ≤ before → (0 < count → start + several ≤ before) → before ≤ now → (count ≡ 0 → before + several ≤ now) → start + several ≤ now
at_least_once start before now several count from earlier later first = elim (cases_eq count 0) [
  | inl none ↦ (let here = first none in omega arith)
  | inr some ↦ (let here = earlier (omega arith) in omega arith)
]
