-- One row is looked at.
use Rattle.std.proofs.Common.{◌≡◌, ◌⊎◌, ℕ, ◌+◌, ◌-◌, ◌<◌, ◌≤◌, suc, max, nat_eq, cond, Bool, true, false, inl, inr, List, [], ◌∷◌, length, get_or, set, sum_by, refl, ap, sym, ◌∙◌, subst, arith}
use Rattle.std.proofs.lemmas.Bool.{cases_eq, cases_lt}
use Rattle.std.proofs.lemmas.Bool.Decides.{nat_tests}
use Rattle.std.proofs.lemmas.List.{get_or-set_same, get_or-set_other, length-set}
use Rattle.std.proofs.lemmas.List.Sums.{sum_by-set, sum_by-cons, count_by-le-length}
use Rattle.asm_levels.specs.declared.rows.Row.{Row}
use Rattle.asm_levels.specs.Needs.{levels_needed, has_levels, several}
use Rattle.asm_levels.specs.Watching.{AreLinked, IsFollowed}
use Rattle.row_plans.specs.Looking.{looked_at, IsPartlyLooked}

same_test : (a b : ℕ) → a ≡ b → nat_eq a b ≡ true
same_test a b same = grind (arith, nat_tests)

other_test : (a b : ℕ) → (a ≡ b → ⊥) → nat_eq a b ≡ false
other_test a b other = grind (arith, nat_tests)

-- 1 where the row was looked at in this round
abbrev counts : ℕ → ℕ → ℕ
counts round stamp = cond (nat_eq stamp round) 1 0

counts_none : (round stamp : ℕ) → (stamp ≡ round → ⊥) → counts round stamp ≡ 0
counts_none round stamp other = ap (λ b. cond {A = ℕ} b 1 0) (other_test stamp round other)

counts_one : (round : ℕ) → counts round round ≡ 1
counts_one round = ap (λ b. cond {A = ℕ} b 1 0) (same_test round round refl)

looked_sum : (round : ℕ) (seen : List ℕ) → looked_at round seen ≡ sum_by (λ stamp. counts round stamp) seen
unfolding looked_at
looked_sum round seen = refl

looked_more : (round index : ℕ) (seen : List ℕ) → index < length seen → (get_or seen index 0 ≡ round → ⊥) → looked_at round (set seen index round) ≡ looked_at round seen + 1
looked_more round index seen inside unseen =
    let all : sum_by (λ stamp. counts round stamp) (set seen index round) + counts round (get_or seen index 0) ≡ sum_by (λ stamp. counts round stamp) seen + counts round round =
    sum_by-set (λ stamp. counts round stamp) seen index round 0 inside in
    let before = counts_none round (get_or seen index 0) unseen in
    let now = counts_one round in
    let one = looked_sum round seen in
    let other = looked_sum round (set seen index round) in
    omega arith

looked-le : (round : ℕ) (seen : List ℕ) → looked_at round seen ≤ length seen
unfolding looked_at
looked-le round seen = count_by-le-length (λ stamp. nat_eq stamp round) seen

-- no more have risen than there are rows
pub few_risen : (rows : List Row) (shifts old now seen risen : List ℕ) (round count start steps : ℕ) → IsPartlyLooked rows shifts old now seen risen round count start steps → count ≤ length rows
few_risen rows shifts old now seen risen round count start steps part = let most = looked-le round seen in let many = part.many_seen in let counted = part.counted in omega arith

module _ (rows : List Row) (shifts old now seen risen : List ℕ) (round count start steps later index : ℕ) (inside : index < length rows)
    (several : (default : Row) → has_levels (get_or rows index default).size ≡ true) (unseen : get_or seen index 0 ≡ round → ⊥) (one : later ≤ steps + 1) (up : steps ≤ later)
    (part : IsPartlyLooked rows shifts old now seen risen round count start steps) where
  own_stamp : get_or (set seen index round) index 0 ≡ round
  own_stamp = let many = part.many_seen in get_or-set_same seen index round 0 (omega arith)

  other_stamp : (at : ℕ) → (at ≡ index → ⊥) → get_or (set seen index round) at 0 ≡ get_or seen at 0
  other_stamp at other = get_or-set_other seen index at round 0 other

  more : looked_at round (set seen index round) ≡ looked_at round seen + 1
  more = let many = part.many_seen in looked_more round index seen (omega arith) unseen

  all_stamps : (at : ℕ) → get_or (set seen index round) at 0 ≤ round
  all_stamps at = elim (cases_eq at index) [
    | inl same ↦ (let here : get_or (set seen index round) at 0 ≡ round = ap (λ i. get_or (set seen index round) i 0) same ∙ own_stamp in omega arith)
    | inr other ↦ (let old = other_stamp at other in let below = part.stamps at in omega arith)
  ]

  all_several : (at : ℕ) (default : Row) → at < length rows → get_or (set seen index round) at 0 ≡ round → has_levels (get_or rows at default).size ≡ true
  all_several at default within is = elim (cases_eq at index) [
    | inl same ↦ ap (λ i. has_levels (get_or rows i default).size) same ∙ several default
    | inr other ↦ part.several at default within (sym (other_stamp at other) ∙ is)
  ]

  -- its level is enough
  pub part_stays : get_or (levels_needed shifts rows) index 0 ≤ get_or now index 0 → IsPartlyLooked rows shifts old now (set seen index round) risen round count start later
  part_stays enough = record {
    many_old = part.many_old;
    many_now = part.many_now;
    many_seen = length-set seen index round ∙ part.many_seen;
    low = part.low;
    high = part.high;
    rises = part.rises;
    still = part.still;
    listed = part.listed;
    inside = part.inside;
    held = λ at within is. elim (cases_eq at index) [
      | inl same ↦ subst (λ (i : ℕ). get_or (levels_needed shifts rows) i 0 ≤ get_or now i 0) (sym same) enough
      | inr other ↦ part.held at within (sym (other_stamp at other) ∙ is)
    ];
    stamps = all_stamps;
    several = all_several;
    counted = (let next = more in let counted = part.counted in omega arith);
    ticks = (let next = more in let ticks = part.ticks in omega arith);
    later = (let before = part.later in omega arith);
  }

  -- it needs another level
  pub part_rises : (level : ℕ) → level ≡ max (get_or now index 0) (get_or (levels_needed shifts rows) index 0) → get_or now index 0 < level
      → IsPartlyLooked rows shifts old (set now index level) (set seen index round) (set risen count index) round (count + 1) start later
  part_rises level is above =
      let many = part.many_now in
      let long : length (set risen count index) ≡ length risen = length-set risen count index in
      let own : get_or (set now index level) index 0 ≡ level = get_or-set_same now index level 0 (omega arith) in
      let keep : (at : ℕ) → (at ≡ index → ⊥) → get_or (set now index level) at 0 ≡ get_or now at 0 = λ at other. get_or-set_other now index at level 0 other in
      record {
        many_old = part.many_old;
        many_now = length-set now index level ∙ part.many_now;
        many_seen = length-set seen index round ∙ part.many_seen;
        low = λ at. elim (cases_eq at index) [
          | inl same ↦ (let here : get_or (set now index level) at 0 ≡ level = ap (λ i. get_or (set now index level) i 0) same ∙ own in
              let was : get_or old at 0 ≡ get_or old index 0 = ap (λ i. get_or old i 0) same in let below = part.low index in omega arith)
          | inr other ↦ (let kept = keep at other in let below = part.low at in omega arith)
        ];
        high = λ at within. elim (cases_eq at index) [
          | inl same ↦ subst (λ (i : ℕ). get_or (set now index level) i 0 ≤ max (get_or old i 0) (get_or (levels_needed shifts rows) i 0)) (sym same) (let above' = part.high index inside in omega arith)
          | inr other ↦ (let kept = keep at other in let above' = part.high at within in omega arith)
        ];
        rises = λ some. (index, (let many_old = part.many_old in omega arith), (let below = part.low index in omega arith));
        still = λ none. absurd (omega arith);
        listed = λ room at within. elim (cases_eq at index) [
          | inl same ↦ inr (count, omega arith, get_or-set_same risen count index 0 (omega arith) ∙ sym same)
          | inr other ↦ elim (part.listed (omega arith) at within) [
            | inl still ↦ inl (keep at other ∙ still)
            | inr among ↦ inr (among.0, (let less = among.1 in omega arith), get_or-set_other risen count among.0 index 0 (let less = among.1 in omega arith) ∙ among.2)
          ]
        ];
        inside = λ at less room. elim (cases_eq at count) [
          | inl same ↦ (let here : get_or (set risen count index) count 0 ≡ index = get_or-set_same risen count index 0 (omega arith) in
              let there : get_or (set risen count index) at 0 ≡ get_or (set risen count index) count 0 = ap (λ i. get_or (set risen count index) i 0) same in omega arith)
          | inr other ↦ (let here : get_or (set risen count index) at 0 ≡ get_or risen at 0 = get_or-set_other risen count at index 0 other in let low = part.inside at (omega arith) (omega arith) in omega arith)
        ];
        held = λ at within stamp. elim (cases_eq at index) [
          | inl same ↦ subst (λ (i : ℕ). get_or (levels_needed shifts rows) i 0 ≤ get_or (set now index level) i 0) (sym same) (omega arith)
          | inr other ↦ (let kept = keep at other in let enough = part.held at within (sym (other_stamp at other) ∙ stamp) in omega arith)
        ];
        stamps = all_stamps;
        several = all_several;
        counted = (let next = more in let counted = part.counted in omega arith);
        ticks = (let next = more in let ticks = part.ticks in omega arith);
        later = (let before = part.later in omega arith);
      }

pub one_tick : (steps later : ℕ) (looks : Bool) → later ≡ steps + cond looks 1 0 → later ≤ steps + 1
one_tick steps later true is = omega arith
one_tick steps later false is = omega arith

-- the entries of the node from this one on were looked at
abbrev pub FromEntry : (rows nodes : List ℕ) (follows : List Bool) (seen : List ℕ) (node round left : ℕ) → Type 0
FromEntry rows nodes follows seen node round left = (at row : ℕ) → left ≤ at → at < length rows → get_or nodes at 0 ≡ node → IsFollowed follows (get_or rows at 0) row → get_or seen row 0 ≡ round

pub from_entry : (many : ℕ) (rows nodes heads links : List ℕ) (follows : List Bool) (seen later : List ℕ) (node round left next : ℕ) → AreLinked many rows nodes heads links → 0 < left → left ≤ length rows
    → get_or nodes (left - 1) 0 ≡ node → next ≡ get_or links (left - 1) 0 → ((at : ℕ) → get_or seen at 0 ≡ round → get_or later at 0 ≡ round)
    → ((row : ℕ) → IsFollowed follows (get_or rows (left - 1) 0) row → get_or later row 0 ≡ round) → FromEntry rows nodes follows seen node round left → FromEntry rows nodes follows later node round next
from_entry many rows nodes heads links follows seen later node round left next linked some bound of is kept own here at row low less there followed = elim (cases_lt at (left - 1)) [
  | inl before ↦ absurd (
      let same : get_or nodes at 0 ≡ get_or nodes (left - 1) 0 = there ∙ sym of in
      let link = linked.link_last (left - 1) at (omega arith) before same in omega arith)
  | inr behind ↦ elim (cases_eq at (left - 1)) [
    | inl same ↦ own row (subst (λ (i : ℕ). IsFollowed follows (get_or rows i 0) row) same followed)
    | inr other ↦ kept row (here at row (omega arith) less there followed)
  ]
]

pub tick_up : (steps later : ℕ) (looks : Bool) → later ≡ steps + cond looks 1 0 → steps ≤ later
tick_up steps later true is = omega arith
tick_up steps later false is = omega arith

-- a round begins
pub part_begun : (rows : List Row) (shifts levels seen risen : List ℕ) (round steps : ℕ) → length levels ≡ length rows → length seen ≡ length rows → ((at : ℕ) → get_or seen at 0 < round)
    → IsPartlyLooked rows shifts levels levels seen risen round 0 steps steps
part_begun rows shifts levels seen risen round steps many many_seen fresh = record {
  many_old = many;
  many_now = many;
  many_seen = many_seen;
  low = λ index. omega arith;
  high = λ index within. omega arith;
  rises = λ some. absurd (omega arith);
  still = λ none. refl;
  listed = λ room index within. inl refl;
  inside = λ at less. absurd (omega arith);
  held = λ index within is. absurd (let low = fresh index in omega arith);
  stamps = λ index. (let low = fresh index in omega arith);
  several = λ index default within is. absurd (let low = fresh index in omega arith);
  counted = omega arith;
  ticks = omega arith;
  later = omega arith;
}

few_from : (round : ℕ) (rows : List Row) (seen : List ℕ) → length seen ≡ length rows
    → ((index : ℕ) (default : Row) → index < length rows → get_or seen index 0 ≡ round → has_levels (get_or rows index default).size ≡ true)
    → sum_by (λ stamp. counts round stamp) seen ≤ sum_by (λ (row : Row). cond {A = ℕ} (has_levels row.size) 1 0) rows
few_from round [] [] many all = omega arith
few_from round [] (stamp ∷ seen) many all = absurd (omega arith)
few_from round (row ∷ rows) [] many all = absurd (omega arith)
few_from round (row ∷ rows) (stamp ∷ seen) many all =
    let rest = few_from round rows seen (omega arith) (λ index default within is. all (suc index) default (omega arith) is) in
    let first : counts round stamp ≤ cond {A = ℕ} (has_levels row.size) 1 0 = elim (cases_eq stamp round) [
      | inl same ↦ (let here : has_levels row.size ≡ true = all 0 row (omega arith) same in
          let one : cond {A = ℕ} (has_levels row.size) 1 0 ≡ 1 = ap (λ b. cond {A = ℕ} b 1 0) here in
          let this : counts round stamp ≡ 1 = ap (λ n. counts round n) same ∙ counts_one round in omega arith)
      | inr other ↦ (let none = counts_none round stamp other in omega arith)
    ] in
    let one = sum_by-cons (λ n. counts round n) stamp seen in
    let two = sum_by-cons (λ (r : Row). cond {A = ℕ} (has_levels r.size) 1 0) row rows in
    omega arith

looked_few : (round : ℕ) (rows : List Row) (seen : List ℕ) → length seen ≡ length rows
    → ((index : ℕ) (default : Row) → index < length rows → get_or seen index 0 ≡ round → has_levels (get_or rows index default).size ≡ true) → looked_at round seen ≤ several rows
looked_few round rows seen many all = let same = looked_sum round seen in let few = few_from round rows seen many all in omega arith

-- where what was not looked at needs no more, each level is raised to what is needed
module _ (rows : List Row) (shifts old now seen risen : List ℕ) (round count start steps : ℕ) (part : IsPartlyLooked rows shifts old now seen risen round count start steps) where
  pub part_raised : ((index : ℕ) → index < length rows → (get_or (levels_needed shifts rows) index 0 ≤ get_or old index 0) ⊎ (get_or seen index 0 ≡ round))
      → (index : ℕ) → index < length old → get_or now index 0 ≡ max (get_or old index 0) (get_or (levels_needed shifts rows) index 0)
  part_raised calm index within =
      let many = part.many_old in
      let low = part.low index in
      let high = part.high index (omega arith) in
      elim (calm index (omega arith)) [
        | inl enough ↦ (omega arith)
        | inr is ↦ (let held = part.held index (omega arith) is in omega arith)
      ]

  pub part_steps : steps ≤ start + several rows
  part_steps = let few = looked_few round rows seen part.many_seen part.several in let ticks = part.ticks in omega arith

pub apart_tests : (b : Bool) → b ≡ true → b ≡ false → ⊥
apart_tests b one other = cc
