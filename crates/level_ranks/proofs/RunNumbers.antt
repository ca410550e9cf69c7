-- From a run of rounds to the numbers of all levels: the levels below a round are those after the one before it.
use Rattle.std.proofs.Common.{◌≡◌, ℕ, zero, suc, ◌+◌, ◌-◌, ◌<◌, ◌≤◌, max, List, [], ◌∷◌, length, map, get_or, drop, count_by, refl, sym, ap, ◌∙◌, subst, arith}
use Rattle.std.proofs.lemmas.List.{drop_more, drop_all}
use Rattle.level_ranks.specs.Ranks.{Ranks, is_taken_before, levels_below, levels_taken, greatest}
use Rattle.level_ranks.proofs.LevelNumbers.{Grows, numbers_from, numbers_length, count_taken, count_some, greatest_in_small}

-- the levels after each round, from the lowest on; the last is the last one that raises a level
pub record IsRun (need : List ℕ → List ℕ) (tops : List ℕ) (levels_after : ℕ → List ℕ) (last : ℕ) : Type 0 where
  pub items : (round : ℕ) → length (levels_after round) ≡ length tops
  pub lowest : (item : ℕ) → get_or (levels_after 0) item 0 ≡ 0
  pub step : (round item : ℕ) → item < length tops
      → get_or (levels_after (suc round)) item 0 ≡ max (get_or (levels_after round) item 0) (get_or (need (levels_after round)) item 0)
  pub within : (round item : ℕ) → item < length tops → get_or (levels_after round) item 0 ≤ get_or tops item 0
  pub still : (round : ℕ) → last ≤ round → levels_after round ≡ levels_after last
  pub rises : (round : ℕ) → round < last → (item : ℕ) × (item < length tops) × (get_or (levels_after round) item 0 < get_or (levels_after (suc round)) item 0)

-- the level of one item after a round
abbrev pub level_of : (ℕ → List ℕ) → ℕ → ℕ → ℕ
level_of levels_after item round = get_or (levels_after round) item 0

-- the numbers of the levels of the items from this one on
abbrev pub ranks_from : (ℕ → List ℕ) → ℕ → ℕ → List ℕ → Ranks
ranks_from levels_after last item [] = []
ranks_from levels_after last item (top ∷ tops) = numbers_from (level_of levels_after item) last 0 top ∷ ranks_from levels_after last (item + 1) tops

pub ranks_lengths : (levels_after : ℕ → List ℕ) (last item : ℕ) (tops : List ℕ) → map (λ numbers. length numbers) (ranks_from levels_after last item tops) ≡ tops
ranks_lengths levels_after last item [] = refl
ranks_lengths levels_after last item (top ∷ tops) =
    let first : length (numbers_from (level_of levels_after item) last 0 top) ≡ top = numbers_length (level_of levels_after item) last 0 top in
    let others : map (λ numbers. length numbers) (ranks_from levels_after last (item + 1) tops) ≡ tops = ranks_lengths levels_after last (item + 1) tops in cc

pub ranks_length : (levels_after : ℕ → List ℕ) (last item : ℕ) (tops : List ℕ) → length (ranks_from levels_after last item tops) ≡ length tops
ranks_length levels_after last item [] = refl
ranks_length levels_after last item (top ∷ tops) = ap suc (ranks_length levels_after last (item + 1) tops)

pub ranks_at : (levels_after : ℕ → List ℕ) (last item : ℕ) (tops : List ℕ) (at : ℕ) → at < length tops
    → get_or (ranks_from levels_after last item tops) at [] ≡ numbers_from (level_of levels_after (item + at)) last 0 (get_or tops at 0)
ranks_at levels_after last item [] at inside = absurd (omega arith)
ranks_at levels_after last item (top ∷ tops) zero inside =
    let same : item ≡ item + 0 = omega arith in ap (λ (m : ℕ). numbers_from (level_of levels_after m) last 0 top) same
ranks_at levels_after last item (top ∷ tops) (suc at) inside =
    let same : (item + 1) + at ≡ item + suc at = omega arith in
    ranks_at levels_after last (item + 1) tops at (omega arith) ∙ ap (λ (m : ℕ). numbers_from (level_of levels_after m) last 0 (get_or tops at 0)) same

taken_from : (levels_after : ℕ → List ℕ) (last round item : ℕ) (tops : List ℕ)
    → ((at : ℕ) → at < length tops → Grows (level_of levels_after (item + at)) last)
    → ((at : ℕ) → at < length tops → level_of levels_after (item + at) round ≤ get_or tops at 0)
    → length (levels_after round) ≡ item + length tops
    → levels_below (suc round) (ranks_from levels_after last item tops) ≡ drop item (levels_after round)
taken_from levels_after last round item [] grown within long = sym (drop_all item (levels_after round) (omega arith))
taken_from levels_after last round item (top ∷ tops) grown within long =
    let here : item + 0 ≡ item = omega arith in
    let grows : Grows (level_of levels_after item) last = subst (λ (m : ℕ). Grows (level_of levels_after m) last) here (grown 0 (omega arith)) in
    let below : level_of levels_after item round ≤ top = subst (λ (m : ℕ). level_of levels_after m round ≤ top) here (within 0 (omega arith)) in
    let counted : count_by (is_taken_before (suc round)) (numbers_from (level_of levels_after item) last 0 top) ≡ level_of levels_after item round - 0 =
    count_taken (level_of levels_after item) last round 0 top grows (omega arith) in
    let first : count_by (is_taken_before (suc round)) (numbers_from (level_of levels_after item) last 0 top) ≡ level_of levels_after item round = omega arith in
    let others : levels_below (suc round) (ranks_from levels_after last (item + 1) tops) ≡ drop (item + 1) (levels_after round) =
    taken_from levels_after last round (item + 1) tops
    (λ at inside. (let next : item + suc at ≡ (item + 1) + at = omega arith in subst (λ (m : ℕ). Grows (level_of levels_after m) last) next (grown (suc at) (omega arith))))
    (λ at inside. (let next : item + suc at ≡ (item + 1) + at = omega arith in subst (λ (m : ℕ). level_of levels_after m round ≤ get_or tops at 0) next (within (suc at) (omega arith))))
    (omega arith) in
    let split : drop item (levels_after round) ≡ get_or (levels_after round) item 0 ∷ drop (item + 1) (levels_after round) = drop_more (levels_after round) item 0 (omega arith) in
    cc

-- all levels that have a number are taken before the round behind the last
pub all_taken : (levels_after : ℕ → List ℕ) (last item : ℕ) (tops : List ℕ) → levels_taken (ranks_from levels_after last item tops) ≡ levels_below (suc last) (ranks_from levels_after last item tops)
all_taken levels_after last item [] = refl
all_taken levels_after last item (top ∷ tops) =
    let first = count_some (level_of levels_after item) last 0 top in
    let others = all_taken levels_after last (item + 1) tops in cc

-- no number is above the last round
pub greatest_small : (levels_after : ℕ → List ℕ) (last item : ℕ) (tops : List ℕ) → greatest (ranks_from levels_after last item tops) ≤ last
greatest_small levels_after last item [] = omega arith
greatest_small levels_after last item (top ∷ tops) =
    let first = greatest_in_small (level_of levels_after item) last 0 top in
    let others = greatest_small levels_after last (item + 1) tops in omega arith

module _ (need : List ℕ → List ℕ) (tops : List ℕ) (levels_after : ℕ → List ℕ) (last : ℕ) (run : IsRun need tops levels_after last) where
  grows_by : (item : ℕ) → item < length tops → (earlier more : ℕ) → level_of levels_after item earlier ≤ level_of levels_after item (earlier + more)
  grows_by item inside earlier zero =
      let same : earlier ≡ earlier + 0 = omega arith in
      let least : level_of levels_after item earlier ≤ level_of levels_after item earlier = omega arith in
      subst (λ (m : ℕ). level_of levels_after item earlier ≤ level_of levels_after item m) same least
  grows_by item inside earlier (suc more) =
      let same : suc (earlier + more) ≡ earlier + suc more = omega arith in
      let before : level_of levels_after item earlier ≤ level_of levels_after item (earlier + more) = grows_by item inside earlier more in
      let step : level_of levels_after item (suc (earlier + more)) ≡ max (level_of levels_after item (earlier + more)) (get_or (need (levels_after (earlier + more))) item 0) = run.step (earlier + more) item inside in
      let both : level_of levels_after item earlier ≤ level_of levels_after item (suc (earlier + more)) = omega arith in
      subst (λ (m : ℕ). level_of levels_after item earlier ≤ level_of levels_after item m) same both

  pub run_grows : (item : ℕ) → item < length tops → Grows (level_of levels_after item) last
  run_grows item inside = record {
    start = run.lowest item;
    grows = λ earlier later before. (let same : earlier + (later - earlier) ≡ later = omega arith in subst (λ (m : ℕ). level_of levels_after item earlier ≤ level_of levels_after item m) same (grows_by item inside earlier (later - earlier)));
    stands = λ round behind. ap (λ (levels : List ℕ). get_or levels item 0) (run.still round behind);
  }

  -- the levels below a round are those after the one before it
  pub run_taken : (round : ℕ) → levels_below (suc round) (ranks_from levels_after last 0 tops) ≡ levels_after round
  run_taken round =
      taken_from levels_after last round 0 tops
      (λ at inside. (let same : at ≡ 0 + at = omega arith in subst (λ (m : ℕ). Grows (level_of levels_after m) last) same (run_grows at inside)))
      (λ at inside. (let same : at ≡ 0 + at = omega arith in subst (λ (m : ℕ). level_of levels_after m round ≤ get_or tops at 0) same (run.within round at inside)))
      (let long : length (levels_after round) ≡ length tops = run.items round in omega arith)
