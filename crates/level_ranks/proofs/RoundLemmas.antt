-- What all rounds keep: how many levels there are, and that none falls or is above its top; and that few raise a level.
use Rattle.std.proofs.Common.{◌≡◌, ℕ, zero, suc, ◌+◌, ◌-◌, ◌<◌, ◌≤◌, Bool, true, false, nat_lt, List, length, get_or, sum, refl, sym, ap, ◌∙◌, subst, arith}
use Rattle.std.specs.List.{All}
use Rattle.std.proofs.lemmas.Bool.Decides.{nat_tests}
use Rattle.std.proofs.lemmas.List.{get_or_past}
use Rattle.level_ranks.specs.Rounds.{raised, after, Rises, EachRises, IsSettled, NeedsWithin, IsAfterRounds}
use Rattle.level_ranks.proofs.RaisedLemmas.{raised_length, raised_at, raised_above}
use Rattle.level_ranks.proofs.SumLemmas.{sum_at_most, sum_less}

pub after_length : (need : List ℕ → List ℕ) (start : List ℕ) (count : ℕ) → length (after need start count) ≡ length start
after_length need start zero = refl
after_length need start (suc count) = raised_length (after need start count) (need (after need start count)) ∙ after_length need start count

falls_by_none : (need : List ℕ → List ℕ) (start : List ℕ) (earlier more index : ℕ) → get_or (after need start earlier) index 0 ≤ get_or (after need start (earlier + more)) index 0
falls_by_none need start earlier zero index =
    let same : earlier ≡ earlier + 0 = omega arith in
    let least : get_or (after need start earlier) index 0 ≤ get_or (after need start earlier) index 0 = omega arith in
    subst (λ (m : ℕ). get_or (after need start earlier) index 0 ≤ get_or (after need start m) index 0) same least
falls_by_none need start earlier (suc more) index =
    let same : suc (earlier + more) ≡ earlier + suc more = omega arith in
    let before = falls_by_none need start earlier more index in
    let last = raised_above (after need start (earlier + more)) (need (after need start (earlier + more))) index in
    let both : get_or (after need start earlier) index 0 ≤ get_or (after need start (suc (earlier + more))) index 0 = omega arith in
    subst (λ (m : ℕ). get_or (after need start earlier) index 0 ≤ get_or (after need start m) index 0) same both

pub never_falls : (need : List ℕ → List ℕ) (start : List ℕ) (earlier later index : ℕ) → earlier ≤ later → get_or (after need start earlier) index 0 ≤ get_or (after need start later) index 0
never_falls need start earlier later index before =
    let same : earlier + (later - earlier) ≡ later = omega arith in
    subst (λ (m : ℕ). get_or (after need start earlier) index 0 ≤ get_or (after need start m) index 0) same (falls_by_none need start earlier (later - earlier) index)

-- the lowest level at each index, also behind the end of the list
pub lowest_at : (start : List ℕ) → All (λ level. level ≡ 0) start → (index : ℕ) → get_or start index 0 ≡ 0
lowest_at start lowest index = by_test (nat_lt index (length start)) refl
  where
    by_test : (b : Bool) → nat_lt index (length start) ≡ b → get_or start index 0 ≡ 0
    by_test true is = lowest index 0 (grind (arith, nat_tests))
    by_test false is = get_or_past start index 0 (grind (arith, nat_tests))

pub stays_within : (need : List ℕ → List ℕ) (tops start : List ℕ) → length start ≡ length tops → All (λ level. level ≡ 0) start → NeedsWithin need tops
    → (count index : ℕ) → index < length tops → get_or (after need start count) index 0 ≤ get_or tops index 0
stays_within need tops start items lowest within zero index inside = let low = lowest_at start lowest index in omega arith
stays_within need tops start items lowest within (suc count) index inside =
    let long = after_length need start count in
    let before = stays_within need tops start items lowest within count index inside in
    let needed = within (after need start count) index (omega arith) inside in
    let greater = raised_at (after need start count) (need (after need start count)) index (omega arith) in omega arith

-- where a round raises none, neither does any after it
pub stays_settled : (need : List ℕ → List ℕ) (start : List ℕ) (count more : ℕ) → IsSettled need (after need start count) → after need start (count + more) ≡ after need start count
stays_settled need start count zero settled = let same : count + 0 ≡ count = omega arith in ap (λ (m : ℕ). after need start m) same
stays_settled need start count (suc more) settled =
    let same : count + suc more ≡ suc (count + more) = omega arith in
    let before = stays_settled need start count more settled in
    let next : after need start (suc (count + more)) ≡ raised (after need start count) (need (after need start count)) = ap (λ (levels : List ℕ). raised levels (need levels)) before in
    ap (λ (m : ℕ). after need start m) same ∙ (next ∙ settled)

few_from : (need : List ℕ → List ℕ) (start : List ℕ) (count : ℕ) → EachRises need start count → count ≤ sum (after need start count)
few_from need start zero rises = omega arith
few_from need start (suc count) rises =
    let before = few_from need start count (λ round inside. rises round (omega arith)) in
    let up = rises count (omega arith) in
    let long = raised_length (after need start count) (need (after need start count)) in
    let more : sum (after need start count) < sum (after need start (suc count)) =
    sum_less (after need start count) (after need start (suc count)) up.0 (sym long) (λ index inside. raised_above (after need start count) (need (after need start count)) index) up.1 up.2 in
    omega arith

pub rounds_few : (need : List ℕ → List ℕ) (tops start levels : List ℕ) (count : ℕ) → IsAfterRounds need tops start levels count → count ≤ sum tops
rounds_few need tops start levels count rounds =
    let long = after_length need start count in
    let sums = sum_at_most (after need start count) tops (long ∙ rounds.items) (λ index inside. stays_within need tops start rounds.items rounds.lowest rounds.within count index (omega (arith, rounds.items))) in
    let few = few_from need start count rounds.rises in omega arith

pub rounds_length : (need : List ℕ → List ℕ) (tops start levels : List ℕ) (count : ℕ) → IsAfterRounds need tops start levels count → length levels ≡ length tops
rounds_length need tops start levels count rounds = ap (λ (xs : List ℕ). length xs) rounds.levels_are ∙ (after_length need start count ∙ rounds.items)

pub rounds_within : (need : List ℕ → List ℕ) (tops start levels : List ℕ) (count index : ℕ) → IsAfterRounds need tops start levels count → index < length tops → get_or levels index 0 ≤ get_or tops index 0
rounds_within need tops start levels count index rounds inside =
    subst (λ (xs : List ℕ). get_or xs index 0 ≤ get_or tops index 0) (sym rounds.levels_are) (stays_within need tops start rounds.items rounds.lowest rounds.within count index inside)

pub no_rounds : (need : List ℕ → List ℕ) (tops start : List ℕ) → length start ≡ length tops → All (λ level. level ≡ 0) start → NeedsWithin need tops → IsAfterRounds need tops start start 0
no_rounds need tops start items lowest within = record { items = items; lowest = lowest; within = within; rises = λ round below. absurd (omega arith); levels_are = refl }

-- one more round is the last of one more
pub more_rises : (need : List ℕ → List ℕ) (start : List ℕ) (count : ℕ) → EachRises need start count → Rises (after need start count) (after need start (suc count)) → EachRises need start (count + 1)
more_rises need start count rises last round inside = by_test (nat_lt round count) refl
  where
    by_test : (b : Bool) → nat_lt round count ≡ b → Rises (after need start round) (after need start (suc round))
    by_test true is = rises round (grind (arith, nat_tests))
    by_test false is =
        let same : count ≡ round = grind (arith, nat_tests) in
        subst (λ (m : ℕ). Rises (after need start m) (after need start (suc m))) same last

pub one_more : (need : List ℕ → List ℕ) (tops start levels later : List ℕ) (count : ℕ) → IsAfterRounds need tops start levels count → later ≡ raised levels (need levels) → Rises levels later
    → IsAfterRounds need tops start later (count + 1)
one_more need tops start levels later count rounds next rises =
    let same : suc count ≡ count + 1 = omega arith in
    let now : later ≡ after need start (suc count) = next ∙ ap (λ (xs : List ℕ). raised xs (need xs)) rounds.levels_are in
    let from : Rises (after need start count) later = subst (λ (xs : List ℕ). Rises xs later) rounds.levels_are rises in
    let last : Rises (after need start count) (after need start (suc count)) = subst (λ (xs : List ℕ). Rises (after need start count) xs) now from in
    record {
      items = rounds.items;
      lowest = rounds.lowest;
      within = rounds.within;
      rises = more_rises need start count rounds.rises last;
      levels_are = now ∙ ap (λ (m : ℕ). after need start m) same;
    }
