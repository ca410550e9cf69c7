-- The layout is reached in as many rounds as there are levels above the lowest, and all rounds after that leave it.
use Rattle.std.proofs.Common.{◌≡◌, ◌⊎◌, ℕ, zero, suc, ◌+◌, ◌-◌, ◌<◌, ◌≤◌, max, List, [], ◌∷◌, inl, inr, length, get_or, sum, refl, sym, ap, ◌∙◌, subst, arith}
use Rattle.std.specs.List.{All}
use Rattle.std.proofs.lemmas.Bool.{cases_lt}
use Rattle.level_ranks.specs.Ranks.{levels_taken, IsLayout}
use Rattle.level_ranks.specs.Rounds.{raised, after, Rises, EachRises, IsSettled, NeedsWithin, IsAfterRounds}
use Rattle.level_ranks.proofs.OneRanking.{one_ranking}
use Rattle.level_ranks.proofs.RoundLemmas.{more_rises, stays_settled, rounds_few}
use Rattle.level_ranks.proofs.LayoutLemmas.{rounds_layout}

-- a round raises some level, or none
settled_or_rises : (levels needs : List ℕ) → (raised levels needs ≡ levels) ⊎ Rises levels (raised levels needs)
settled_or_rises [] needs = inl refl
settled_or_rises (level ∷ levels) [] = inl refl
settled_or_rises (level ∷ levels) (needed ∷ needs) =
    elim (cases_lt level needed) [
      | inl above ↦ inr (0, omega arith, omega arith)
      | inr below ↦ elim (settled_or_rises levels needs) [
        | inl same ↦ (let kept : max level needed ≡ level = omega arith in inl (rw (kept, same) refl))
        | inr rises ↦ inr (suc rises.0, (let inside = rises.1 in omega arith), rises.2)
      ]
    ]

-- after at most so many rounds, each of which raised a level, one raises none
abbrev IsReachedWithin : (List ℕ → List ℕ) → List ℕ → ℕ → Type 0
IsReachedWithin need start most = (count : ℕ) × (count ≤ most) × EachRises need start count × IsSettled need (after need start count)

reached_or_rises : (need : List ℕ → List ℕ) (start : List ℕ) (most : ℕ) → IsReachedWithin need start most ⊎ EachRises need start most
reached_or_rises need start zero = inr (λ round before. absurd (omega arith))
reached_or_rises need start (suc most) =
    elim (reached_or_rises need start most) [
      | inl there ↦ inl (there.0, (let within = there.1 in omega arith), there.2, there.3)
      | inr rises ↦ elim (settled_or_rises (after need start most) (need (after need start most))) [
        | inl same ↦ inl (most, omega arith, rises, same)
        | inr up ↦ (let same : most + 1 ≡ suc most = omega arith in inr (subst (λ (m : ℕ). EachRises need start m) same (more_rises need start most rises up)))
      ]
    ]

module _ (need : List ℕ → List ℕ) (tops start : List ℕ) (items : length start ≡ length tops) (lowest : All (λ level. level ≡ 0) start) (within : NeedsWithin need tops) where
  rounds_of : (count : ℕ) → EachRises need start count → IsAfterRounds need tops start (after need start count) count
  rounds_of count rises = record { items = items; lowest = lowest; within = within; rises = rises; levels_are = refl }

  reached : IsReachedWithin need start (suc (sum tops))
  reached =
      elim (reached_or_rises need start (suc (sum tops))) [
        | inl there ↦ there
        | inr rises ↦ absurd (let few = rounds_few need tops start (after need start (suc (sum tops))) (suc (sum tops)) (rounds_of (suc (sum tops)) rises) in omega arith)
      ]

  pub layout_reached : (levels : List ℕ) (rounds : ℕ) → IsLayout need tops levels rounds → levels ≡ after need start (sum tops)
  layout_reached levels rounds layout =
      let there = reached in
      let count = there.0 in
      let settled : IsSettled need (after need start count) = there.3 in
      let all = rounds_of count there.2 in
      let few = rounds_few need tops start (after need start count) count all in
      let other = rounds_layout need tops start (after need start count) count all settled in
      let same = one_ranking need tops layout.ranks other.ranks layout.ranking other.ranking in
      let sum_is : count + (sum tops - count) ≡ sum tops = omega arith in
      layout.taken ∙ ap levels_taken same ∙ sym other.taken ∙ sym (stays_settled need start count (sum tops - count) settled) ∙ ap (λ (m : ℕ). after need start m) sum_is
