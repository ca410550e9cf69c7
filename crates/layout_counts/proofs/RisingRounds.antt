-- Counted rounds end in levels that no further round raises.
use Rattle.std.proofs.Common.{◌≡◌, ◌⊎◌, ℕ, zero, suc, ◌+◌, ◌≤◌, max, Bool, true, false, true≢false, List, [], ◌∷◌, inl, inr, length, sum, refl, sym, ap, ◌∙◌, subst, arith}
use Rattle.std.specs.Prelude.{All}
use Rattle.std.proofs.lemmas.Bool.{cases_lt}
use Rattle.std.proofs.lemmas.Slice.Eq.{bytes_eq-Decides}
use Rattle.level_ranks.specs.Ranks.{Ranks, greatest, IsRanking, IsLayout}
use Rattle.level_ranks.specs.Rounds.{raised, Rises, IsSettled, NeedsWithin, IsAfterRounds}
use Rattle.layout_counts.specs.Counted.{is_settled, rising_rounds}

-- what holds of all rounds
pub record RoundLaws : Type 0 where
  pub one : (need : List ℕ → List ℕ) (tops : List ℕ) (one other : Ranks) → IsRanking need tops one → IsRanking need tops other → one ≡ other
  pub none : (need : List ℕ → List ℕ) (tops start : List ℕ) → length start ≡ length tops → All (λ level. level ≡ 0) start → NeedsWithin need tops
      → IsAfterRounds need tops start start 0
  pub more : (need : List ℕ → List ℕ) (tops start levels later : List ℕ) (count : ℕ) → IsAfterRounds need tops start levels count → later ≡ raised levels (need levels)
      → Rises levels later → IsAfterRounds need tops start later (count + 1)
  pub few : (need : List ℕ → List ℕ) (tops start levels : List ℕ) (count : ℕ) → IsAfterRounds need tops start levels count → count ≤ sum tops
  pub reach : (need : List ℕ → List ℕ) (tops start levels : List ℕ) (count : ℕ) → IsAfterRounds need tops start levels count → IsSettled need levels
      → IsLayout need tops levels (count + 1)

-- a round raises some level, or none
settled_or_rises : (levels needs : List ℕ) → (raised levels needs ≡ levels) ⊎ Rises levels (raised levels needs)
settled_or_rises [] needs = inl refl
settled_or_rises (level ∷ levels) [] = inl refl
settled_or_rises (level ∷ levels) (needed ∷ needs) =
    elim (cases_lt level needed) [
      | inl above ↦ inr (0, omega arith, omega arith)
      | inr below ↦ elim (settled_or_rises levels needs) [
        | inl same ↦ (let kept : max level needed ≡ level = omega arith in inl (rw (kept, same) refl))
        | inr rises ↦ inr (suc rises.0, (let inside = rises.1 in omega arith), rises.2)
      ]
    ]

module _ (laws : RoundLaws) (need : List ℕ → List ℕ) (tops start : List ℕ) where
  -- so many rounds each raise a level, and one more raises none
  abbrev EndsAfter : ℕ → Type 0
  EndsAfter count = (levels : List ℕ) × IsAfterRounds need tops start levels count × IsSettled need levels

  -- where the levels are settled, these rounds are all; where they are not, one more raises a level
  step : (most count : ℕ) (levels : List ℕ) → IsAfterRounds need tops start levels count
      → (IsAfterRounds need tops start (raised levels (need levels)) (count + 1) → EndsAfter (count + 1 + rising_rounds need most (raised levels (need levels))))
      → EndsAfter (count + rising_rounds need (suc most) levels)
  step most count levels after rest = by_test (is_settled need levels) refl
    where
      by_test : (b : Bool) → is_settled need levels ≡ b → EndsAfter (count + rising_rounds need (suc most) levels)
      by_test true is =
          let none : count ≡ count + rising_rounds need (suc most) levels = rw is (omega arith) in
          (levels, subst (λ (n : ℕ). IsAfterRounds need tops start levels n) none after, (bytes_eq-Decides (raised levels (need levels)) levels).0 is)
      by_test false is = elim (settled_or_rises levels (need levels)) [
        | inl same ↦ absurd (true≢false (sym ((bytes_eq-Decides (raised levels (need levels)) levels).1 same) ∙ is))
        | inr rises ↦ (
            let sums : count + 1 + rising_rounds need most (raised levels (need levels)) ≡ count + rising_rounds need (suc most) levels = rw is (omega arith) in
            subst EndsAfter sums (rest (laws.more need tops start levels (raised levels (need levels)) count after refl rises)))
      ]

  ends_after : (most count : ℕ) (levels : List ℕ) → IsAfterRounds need tops start levels count → count + most ≡ sum tops → EndsAfter (count + rising_rounds need most levels)
  ends_after zero count levels after all =
      elim (settled_or_rises levels (need levels)) [
        | inl same ↦ (let none : count ≡ count + 0 = omega arith in (levels, subst (λ (n : ℕ). IsAfterRounds need tops start levels n) none after, same))
        | inr rises ↦ absurd (let less = laws.few need tops start (raised levels (need levels)) (count + 1) (laws.more need tops start levels (raised levels (need levels)) count after refl rises) in omega arith)
      ]
  ends_after (suc most) count levels after all = step most count levels after (λ later. ends_after most (count + 1) (raised levels (need levels)) later (omega arith))

  -- a layout takes one round more than the counted ones
  pub rounds_are : length start ≡ length tops → All (λ level. level ≡ 0) start → NeedsWithin need tops → (levels : List ℕ) (rounds : ℕ) → IsLayout need tops levels rounds
      → rounds ≡ 1 + rising_rounds need (sum tops) start
  rounds_are items lowest within levels rounds layout =
      let (final, after, settled) = ends_after (sum tops) 0 start (laws.none need tops start items lowest within) (omega arith) in
      let other = laws.reach need tops start final (0 + rising_rounds need (sum tops) start) after settled in
      let same = laws.one need tops layout.ranks other.ranks layout.ranking other.ranking in
      let both : 1 + greatest layout.ranks ≡ 1 + greatest other.ranks = ap (λ (ranks : Ranks). 1 + greatest ranks) same in
      let counted = other.count in layout.count ∙ (both ∙ omega arith)
