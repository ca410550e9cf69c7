-- A run of rounds gives the ranking of the levels, and the layout that takes them.
use Rattle.std.proofs.Common.{◌≡◌, ℕ, zero, suc, ◌+◌, ◌<◌, ◌≤◌, max, List, [], ◌∷◌, Option, Some, None, inl, inr, length, get_or, sym, ap, ◌∙◌, subst, arith}
use Rattle.std.proofs.lemmas.Bool.{cases_lt, cases_eq}
use Rattle.level_ranks.specs.Ranks.{Ranks, greatest_by, greatest_in, greatest, numbers_at, Holds, Misses, IsNumber, IsRanking, IsLayout}
use Rattle.level_ranks.proofs.LevelNumbers.{first_above, IsFirstAbove, first_above_is, numbers_from, numbers_length, number_at, last_is_first_above}
use Rattle.level_ranks.proofs.RunNumbers.{IsRun, level_of, ranks_from, ranks_lengths, ranks_length, ranks_at, run_grows, run_taken, all_taken, greatest_small}

greatest_in_large : (numbers : List (Option ℕ)) (k round : ℕ) → get_or numbers k None ≡ Some round → round ≤ greatest_in numbers
greatest_in_large [] k round is = absurd cc
greatest_in_large (number ∷ numbers) zero round is =
    let first : greatest_by number ≡ round = ap greatest_by is in omega arith
greatest_in_large (number ∷ numbers) (suc k) round is = let others = greatest_in_large numbers k round is in omega arith

greatest_large : (ranks : Ranks) (item : ℕ) → greatest_in (get_or ranks item []) ≤ greatest ranks
greatest_large [] item = omega arith
greatest_large (numbers ∷ ranks) zero = omega arith
greatest_large (numbers ∷ ranks) (suc item) = let others = greatest_large ranks item in omega arith

module _ (need : List ℕ → List ℕ) (tops : List ℕ) (levels_after : ℕ → List ℕ) (last : ℕ) (run : IsRun need tops levels_after last) where
  -- what an item needs before a round is at most its level after that round
  holds_before : (item level : ℕ) → item < length tops → (round : ℕ) → 0 < round → level_of levels_after item round ≤ level → Holds need (ranks_from levels_after last 0 tops) item level round
  holds_before item level inside zero some low = absurd (omega arith)
  holds_before item level inside (suc round) some low =
      let step : level_of levels_after item (suc round) ≡ max (level_of levels_after item round) (get_or (need (levels_after round)) item 0) = run.step round item inside in
      let needed : get_or (need (levels_after round)) item 0 ≤ level = omega arith in
      subst (λ (levels : List ℕ). get_or (need levels) item 0 ≤ level) (sym (run_taken need tops levels_after last run round)) needed

  -- the round that first takes an item above a level is one before which it needs more
  misses_at : (item level : ℕ) → item < length tops → (round : ℕ) → 0 < round → level < level_of levels_after item round
      → ((before : ℕ) → 0 < before → before < round → level_of levels_after item before ≤ level) → Misses need (ranks_from levels_after last 0 tops) item level round
  misses_at item level inside zero some above before = absurd (omega arith)
  misses_at item level inside (suc round) some above before =
      let step : level_of levels_after item (suc round) ≡ max (level_of levels_after item round) (get_or (need (levels_after round)) item 0) = run.step round item inside in
      let low : level_of levels_after item round ≤ level = elim (cases_eq round 0) [
        | inl none ↦ (let start : level_of levels_after item 0 ≡ 0 = run.lowest item in let same : level_of levels_after item round ≡ level_of levels_after item 0 = ap (level_of levels_after item) none in omega arith)
        | inr several ↦ before round (omega arith) (omega arith)
      ] in
      let needed : level < get_or (need (levels_after round)) item 0 = omega arith in
      subst (λ (levels : List ℕ). level < get_or (need levels) item 0) (sym (run_taken need tops levels_after last run round)) needed

  number_is : (item level : ℕ) (found : Option ℕ) → item < length tops → IsFirstAbove (level_of levels_after item) level last found → IsNumber need (ranks_from levels_after last 0 tops) item level found
  number_is item level (Some round) inside is = (is.0, misses_at item level inside round is.0 is.2 is.3, λ before some earlier. holds_before item level inside before some (is.3 before some earlier))
  number_is item level None inside is = λ round some.
      (let low : level_of levels_after item round ≤ level = elim (cases_lt last round) [
        | inl behind ↦ (let still : level_of levels_after item round ≡ level_of levels_after item last = ap (λ (levels : List ℕ). get_or levels item 0) (run.still round (omega arith)) in
            elim (cases_eq last 0) [
              | inl none ↦ (let start : level_of levels_after item 0 ≡ 0 = run.lowest item in let same : level_of levels_after item last ≡ level_of levels_after item 0 = ap (level_of levels_after item) none in omega arith)
              | inr several ↦ (let low : level_of levels_after item last ≤ level = is last (omega arith) (omega arith) in omega arith)
            ])
        | inr within ↦ is round some within
      ] in
      holds_before item level inside round some low)

  -- the numbers of one item
  numbers_of : (item : ℕ) → item < length tops → numbers_at (ranks_from levels_after last 0 tops) item ≡ numbers_from (level_of levels_after item) last 0 (get_or tops item 0)
  numbers_of item inside =
      let same : 0 + item ≡ item = omega arith in
      ranks_at levels_after last 0 tops item inside ∙ ap (λ (m : ℕ). numbers_from (level_of levels_after m) last 0 (get_or tops item 0)) same

  -- the number of one level
  number_of : (item level : ℕ) → item < length tops → level < get_or tops item 0
      → get_or (numbers_at (ranks_from levels_after last 0 tops) item) level None ≡ first_above (level_of levels_after item) level last
  number_of item level inside above =
      let same : 0 + level ≡ level = omega arith in
      ap (λ (numbers : List (Option ℕ)). get_or numbers level None) (numbers_of item inside) ∙
      (number_at (level_of levels_after item) last 0 (get_or tops item 0) level above ∙ ap (λ (m : ℕ). first_above (level_of levels_after item) m last) same)

  numbers_are : (item level : ℕ) → item < length (ranks_from levels_after last 0 tops) → level < length (numbers_at (ranks_from levels_after last 0 tops) item)
      → IsNumber need (ranks_from levels_after last 0 tops) item level (get_or (numbers_at (ranks_from levels_after last 0 tops) item) level None)
  numbers_are item level there above =
      let inside : item < length tops = omega (arith, ranks_length levels_after last 0 tops) in
      let many : length (numbers_at (ranks_from levels_after last 0 tops) item) ≡ get_or tops item 0 =
      ap (λ (numbers : List (Option ℕ)). length numbers) (numbers_of item inside) ∙ numbers_length (level_of levels_after item) last 0 (get_or tops item 0) in
      subst (λ (found : Option ℕ). IsNumber need (ranks_from levels_after last 0 tops) item level found) (sym (number_of item level inside (omega arith)))
      (number_is item level (first_above (level_of levels_after item) level last) inside (first_above_is (level_of levels_after item) level last))

  pub run_ranking : IsRanking need tops (ranks_from levels_after last 0 tops)
  run_ranking = record { levels = ranks_lengths levels_after last 0 tops; numbers = numbers_are }

-- the greatest number is the last round
greatest_is : (need : List ℕ → List ℕ) (tops : List ℕ) (levels_after : ℕ → List ℕ) (last : ℕ) → IsRun need tops levels_after last → greatest (ranks_from levels_after last 0 tops) ≡ last
greatest_is need tops levels_after zero run = let small = greatest_small levels_after 0 0 tops in omega arith
greatest_is need tops levels_after (suc last) run =
    let risen = run.rises last (omega arith) in
    let item : ℕ = risen.0 in
    let inside : item < length tops = risen.1 in
    let up : level_of levels_after item last < level_of levels_after item (suc last) = risen.2 in
    let top : level_of levels_after item (suc last) ≤ get_or tops item 0 = run.within (suc last) item inside in
    let found : get_or (numbers_at (ranks_from levels_after (suc last) 0 tops) item) (level_of levels_after item last) None ≡ Some (suc last) =
    number_of need tops levels_after (suc last) run item (level_of levels_after item last) inside (omega arith) ∙ last_is_first_above (level_of levels_after item) last (run_grows need tops levels_after (suc last) run item inside) up in
    let large : suc last ≤ greatest_in (numbers_at (ranks_from levels_after (suc last) 0 tops) item) = greatest_in_large (numbers_at (ranks_from levels_after (suc last) 0 tops) item) (level_of levels_after item last) (suc last) found in
    let all : greatest_in (get_or (ranks_from levels_after (suc last) 0 tops) item []) ≤ greatest (ranks_from levels_after (suc last) 0 tops) = greatest_large (ranks_from levels_after (suc last) 0 tops) item in
    let small : greatest (ranks_from levels_after (suc last) 0 tops) ≤ suc last = greatest_small levels_after (suc last) 0 tops in
    omega arith

pub run_layout : (need : List ℕ → List ℕ) (tops : List ℕ) (levels_after : ℕ → List ℕ) (last : ℕ) → IsRun need tops levels_after last → IsLayout need tops (levels_after last) (last + 1)
run_layout need tops levels_after last run =
    let counted = greatest_is need tops levels_after last run in
    record {
      ranks = ranks_from levels_after last 0 tops;
      ranking = run_ranking need tops levels_after last run;
      taken = sym (all_taken levels_after last 0 tops ∙ run_taken need tops levels_after last run last);
      count = omega arith;
    }
