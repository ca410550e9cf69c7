-- There is a ranking, whatever items need: rounds reach it, in which no item takes more than its top.
use Rattle.std.proofs.Common.{◌≡◌, ℕ, zero, suc, ◌+◌, ◌<◌, ◌≤◌, min, max, List, [], ◌∷◌, Option, None, Some, ◌⊎◌, inl, inr, length, map, get_or, sum, refl, ap, subst, arith}
use Rattle.std.proofs.lemmas.Bool.{cases_lt}
use Rattle.std.proofs.lemmas.List.{get_or-map}
use Rattle.level_ranks.specs.Ranks.{Ranks, levels_below, greatest, numbers_at, Holds, Misses, IsNumber, IsRanking, IsLayout}
use Rattle.level_ranks.specs.Rounds.{raised, Rises, IsSettled, NeedsWithin, IsAfterRounds}
use Rattle.level_ranks.proofs.OneRanking.{one_ranking}
use Rattle.level_ranks.proofs.RoundLemmas.{no_rounds, one_more, rounds_few}
use Rattle.level_ranks.proofs.LayoutLemmas.{rounds_layout}

-- what is needed, and at most the top
abbrev capped : List ℕ → List ℕ → List ℕ
capped [] needs = []
capped (top ∷ tops) [] = 0 ∷ capped tops []
capped (top ∷ tops) (needed ∷ needs) = min needed top ∷ capped tops needs

capped_at : (tops needs : List ℕ) (index : ℕ) → get_or (capped tops needs) index 0 ≡ min (get_or needs index 0) (get_or tops index 0)
capped_at [] needs index = omega arith
capped_at (top ∷ tops) [] zero = omega arith
capped_at (top ∷ tops) [] (suc index) = capped_at tops [] index
capped_at (top ∷ tops) (needed ∷ needs) zero = refl
capped_at (top ∷ tops) (needed ∷ needs) (suc index) = capped_at tops needs index

capped_within : (need : List ℕ → List ℕ) (tops : List ℕ) → NeedsWithin (λ levels. capped tops (need levels)) tops
capped_within need tops levels index long inside = let least = capped_at tops (need levels) index in omega arith

-- the lowest levels of so many items
abbrev lowest : List ℕ → List ℕ
lowest [] = []
lowest (top ∷ tops) = 0 ∷ lowest tops

lowest_length : (tops : List ℕ) → length (lowest tops) ≡ length tops
lowest_length [] = refl
lowest_length (top ∷ tops) = ap suc (lowest_length tops)

lowest_each : (tops : List ℕ) (index default : ℕ) → index < length (lowest tops) → get_or (lowest tops) index default ≡ 0
lowest_each [] index default inside = absurd (omega arith)
lowest_each (top ∷ tops) zero default inside = refl
lowest_each (top ∷ tops) (suc index) default inside = lowest_each tops index default (omega arith)

-- a round raises a level, or none
rises_or_settled : (levels needs : List ℕ) → Rises levels (raised levels needs) ⊎ (raised levels needs ≡ levels)
rises_or_settled [] needs = inr refl
rises_or_settled (level ∷ levels) [] = inr refl
rises_or_settled (level ∷ levels) (needed ∷ needs) =
    elim (cases_lt level needed) [
      | inl higher ↦ inl (0, omega arith, omega arith)
      | inr enough ↦ elim (rises_or_settled levels needs) [
        | inl rise ↦ inl (suc rise.0, omega arith, rise.2)
        | inr same ↦ inr (let kept : max level needed ≡ level = omega arith in rw (kept, same) refl)
      ]
    ]

-- rounds that reached a layout
record Reached (need : List ℕ → List ℕ) (tops : List ℕ) : Type 0 where
  pub levels : List ℕ
  pub count : ℕ
  pub rounds : IsAfterRounds need tops (lowest tops) levels count
  pub settled : IsSettled need levels

-- there are such rounds: each of at most so many more raises a level, since few do
reached : (need : List ℕ → List ℕ) (tops levels : List ℕ) (count more : ℕ) → IsAfterRounds need tops (lowest tops) levels count → sum tops < count + more → Reached need tops
reached need tops levels count zero rounds enough = absurd (let few = rounds_few need tops (lowest tops) levels count rounds in omega arith)
reached need tops levels count (suc more) rounds enough =
    elim (rises_or_settled levels (need levels)) [
      | inl rises ↦ reached need tops (raised levels (need levels)) (count + 1) more (one_more need tops (lowest tops) levels (raised levels (need levels)) count rounds refl rises) (omega arith)
      | inr settled ↦ record { levels = levels; count = count; rounds = rounds; settled = settled }
    ]

-- below the top of its item a level is enough for what is needed where it is enough for that or the top
same_number : (need : List ℕ → List ℕ) (tops : List ℕ) (ranks : Ranks) (item level : ℕ) → level < get_or tops item 0 → (found : Option ℕ)
    → IsNumber (λ levels. capped tops (need levels)) ranks item level found → IsNumber need ranks item level found
same_number need tops ranks item level below found is = by_case found is
  where
    holds : (round : ℕ) → Holds (λ levels. capped tops (need levels)) ranks item level round → Holds need ranks item level round
    holds round enough = let least = capped_at tops (need (levels_below round ranks)) item in omega arith

    misses : (round : ℕ) → Misses (λ levels. capped tops (need levels)) ranks item level round → Misses need ranks item level round
    misses round more = let least = capped_at tops (need (levels_below round ranks)) item in omega arith

    by_case : (found : Option ℕ) → IsNumber (λ levels. capped tops (need levels)) ranks item level found → IsNumber need ranks item level found
    by_case (Some round) is = (is.0, misses round is.1, λ before some earlier. holds before (is.2 before some earlier))
    by_case None is = λ round some. holds round (is round some)

same_ranking : (need : List ℕ → List ℕ) (tops : List ℕ) (ranks : Ranks) → IsRanking (λ levels. capped tops (need levels)) tops ranks → IsRanking need tops ranks
same_ranking need tops ranks ranking = record {
  levels = ranking.levels;
  numbers = λ item level inside above.
      (let many : get_or (map (λ numbers. length numbers) ranks) item 0 ≡ length (get_or ranks item []) = get_or-map (λ numbers. length numbers) ranks item [] 0 inside in
      let tall : get_or tops item 0 ≡ length (get_or ranks item []) = subst (λ (xs : List ℕ). get_or xs item 0 ≡ length (get_or ranks item [])) ranking.levels many in
      same_number need tops ranks item level (omega arith) (get_or (numbers_at ranks item) level None) (ranking.numbers item level inside above));
}

-- a ranking, and its last round is at most the number of levels above the lowest
record FewRanked (need : List ℕ → List ℕ) (tops : List ℕ) : Type 0 where
  pub ranks : Ranks
  pub ranking : IsRanking need tops ranks
  pub few : greatest ranks ≤ sum tops

few_ranked : (need : List ℕ → List ℕ) (tops : List ℕ) → FewRanked need tops
few_ranked need tops =
    let within = capped_within need tops in
    let none = no_rounds (λ levels. capped tops (need levels)) tops (lowest tops) (lowest_length tops) (lowest_each tops) within in
    let found = reached (λ levels. capped tops (need levels)) tops (lowest tops) 0 (sum tops + 1) none (omega arith) in
    let layout = rounds_layout (λ levels. capped tops (need levels)) tops (lowest tops) found.levels found.count found.rounds found.settled in
    let few = rounds_few (λ levels. capped tops (need levels)) tops (lowest tops) found.levels found.count found.rounds in
    record { ranks = layout.ranks; ranking = same_ranking need tops layout.ranks layout.ranking; few = (let counted = layout.count in omega arith) }

pub some_ranking : (need : List ℕ → List ℕ) (tops : List ℕ) → (ranks : Ranks) × IsRanking need tops ranks
some_ranking need tops = let found = few_ranked need tops in (found.ranks, found.ranking)

-- a layout has the rounds of the one ranking
pub layout_few : (need : List ℕ → List ℕ) (tops levels : List ℕ) (rounds : ℕ) → IsLayout need tops levels rounds → rounds ≤ 1 + sum tops
layout_few need tops levels rounds layout =
    let found = few_ranked need tops in
    let same : greatest layout.ranks ≡ greatest found.ranks = ap greatest (one_ranking need tops layout.ranks found.ranks layout.ranking found.ranking) in
    let few = found.few in
    let counted = layout.count in omega arith
