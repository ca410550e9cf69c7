-- The numbers of the levels of one item, by its level after each round, which grows from 0.
use Rattle.std.proofs.Common.{◌≡◌, ℕ, zero, suc, ◌+◌, ◌-◌, ◌<◌, ◌≤◌, cond, List, [], ◌∷◌, Option, Some, None, inl, inr, length, get_or, is_some, count_by, refl, sym, ap, ◌∙◌, subst, arith, ltb}
use Rattle.std.proofs.lemmas.Bool.{cases_lt, cases_eq, lt-ltb, le-ltb}
use Rattle.std.proofs.lemmas.List.Sums.{sum_by-cons}
use Rattle.level_ranks.specs.Ranks.{is_taken_before, greatest_by, greatest_in}

-- the level grows from 0, and stands from the last round on
pub record Grows (level_after : ℕ → ℕ) (last : ℕ) : Type 0 where
  pub start : level_after 0 ≡ 0
  pub grows : (earlier later : ℕ) → earlier ≤ later → level_after earlier ≤ level_after later
  pub stands : (round : ℕ) → last ≤ round → level_after round ≡ level_after last

-- the round found before, or this one where the level is above k after it
abbrev first_or : Option ℕ → (ℕ → ℕ) → ℕ → ℕ → Option ℕ
first_or (Some round) level_after k this = Some round
first_or None level_after k this = cond (ltb k (level_after this)) (Some this) None

-- the first of the rounds 1 to the last after which the level is above k
abbrev pub first_above : (ℕ → ℕ) → ℕ → ℕ → Option ℕ
first_above level_after k zero = None
first_above level_after k (suc last) = first_or (first_above level_after k last) level_after k (suc last)

-- this is that round
abbrev pub IsFirstAbove : (ℕ → ℕ) → ℕ → ℕ → Option ℕ → Type 0
IsFirstAbove level_after k last (Some round) = (0 < round) × (round ≤ last) × (k < level_after round) × ((before : ℕ) → 0 < before → before < round → level_after before ≤ k)
IsFirstAbove level_after k last None = (round : ℕ) → 0 < round → round ≤ last → level_after round ≤ k

first_of_more : (level_after : ℕ → ℕ) (k last : ℕ) (found : Option ℕ) → IsFirstAbove level_after k last found → IsFirstAbove level_after k (suc last) (first_or found level_after k (suc last))
first_of_more level_after k last (Some round) is = (is.0, omega arith, is.2, is.3)
first_of_more level_after k last None is =
    elim (cases_lt k (level_after (suc last))) [
      | inl above ↦ rw (lt-ltb k (level_after (suc last)) above) (omega arith, omega arith, above, λ before some earlier. is before some (omega arith))
      | inr below ↦ rw (le-ltb k (level_after (suc last)) below) (λ round some inside. elim (cases_eq round (suc last)) [
        | inl same ↦ rw same below
        | inr differs ↦ is round some (omega arith)
      ])
    ]

pub first_above_is : (level_after : ℕ → ℕ) (k last : ℕ) → IsFirstAbove level_after k last (first_above level_after k last)
first_above_is level_after k zero = λ round some inside. absurd (omega arith)
first_above_is level_after k (suc last) = first_of_more level_after k last (first_above level_after k last) (first_above_is level_after k last)

-- the level of k is taken before the next round exactly where the item is above k after this one
taken_is_above : (level_after : ℕ → ℕ) (k last round : ℕ) (found : Option ℕ) → Grows level_after last → IsFirstAbove level_after k last found → is_taken_before (suc round) found ≡ ltb k (level_after round)
taken_is_above level_after k last round (Some first) grown is =
    elim (cases_lt first (suc round)) [
      | inl before ↦ (let up : level_after first ≤ level_after round = grown.grows first round (omega arith) in
          let here : k < level_after first = is.2 in
          rw (lt-ltb first (suc round) before) (sym (lt-ltb k (level_after round) (omega arith))))
      | inr later ↦ (let low : level_after round ≤ k = elim (cases_eq round 0) [ inl none ↦ (rw (none, grown.start) (omega arith)) | inr some ↦ is.3 round (omega arith) (omega arith) ] in
          rw (le-ltb first (suc round) later) (sym (le-ltb k (level_after round) low)))
    ]
taken_is_above level_after k last round None grown is =
    let low : level_after round ≤ k = elim (cases_eq round 0) [
      | inl none ↦ (rw (none, grown.start) (omega arith))
      | inr some ↦ elim (cases_lt last round) [
        | inl behind ↦ elim (cases_eq last 0) [
          | inl none ↦ (let still : level_after round ≡ level_after 0 = subst (λ (m : ℕ). level_after round ≡ level_after m) none (grown.stands round (omega arith)) in
              let start : level_after 0 ≡ 0 = grown.start in omega arith)
          | inr several ↦ (let still : level_after round ≡ level_after last = grown.stands round (omega arith) in let low : level_after last ≤ k = is last (omega arith) (omega arith) in omega arith)
        ]
        | inr inside ↦ is round (omega arith) inside
      ]
    ] in
    sym (le-ltb k (level_after round) low)

-- the numbers of so many levels, from that above k on
abbrev pub numbers_from : (ℕ → ℕ) → ℕ → ℕ → ℕ → List (Option ℕ)
numbers_from level_after last k zero = []
numbers_from level_after last k (suc many) = first_above level_after k last ∷ numbers_from level_after last (k + 1) many

pub numbers_length : (level_after : ℕ → ℕ) (last k many : ℕ) → length (numbers_from level_after last k many) ≡ many
numbers_length level_after last k zero = refl
numbers_length level_after last k (suc many) = ap suc (numbers_length level_after last (k + 1) many)

pub number_at : (level_after : ℕ → ℕ) (last k many at : ℕ) → at < many → get_or (numbers_from level_after last k many) at None ≡ first_above level_after (k + at) last
number_at level_after last k zero at inside = absurd (omega arith)
number_at level_after last k (suc many) zero inside = let same : k ≡ k + 0 = omega arith in ap (λ (m : ℕ). first_above level_after m last) same
number_at level_after last k (suc many) (suc at) inside =
    let same : (k + 1) + at ≡ k + suc at = omega arith in
    number_at level_after last (k + 1) many at (omega arith) ∙ ap (λ (m : ℕ). first_above level_after m last) same

-- as many of them are taken before the next round as the level has reached after this one
pub count_taken : (level_after : ℕ → ℕ) (last round k many : ℕ) → Grows level_after last → level_after round ≤ k + many
    → count_by (is_taken_before (suc round)) (numbers_from level_after last k many) ≡ level_after round - k
count_taken level_after last round k zero grown top = omega arith
count_taken level_after last round k (suc many) grown top =
    let others : count_by (is_taken_before (suc round)) (numbers_from level_after last (k + 1) many) ≡ level_after round - (k + 1) = count_taken level_after last round (k + 1) many grown (omega arith) in
    let first : is_taken_before (suc round) (first_above level_after k last) ≡ ltb k (level_after round) =
    taken_is_above level_after k last round (first_above level_after k last) grown (first_above_is level_after k last) in
    sum_by-cons (λ number. cond (is_taken_before (suc round) number) 1 0) (first_above level_after k last) (numbers_from level_after last (k + 1) many) ∙
    rw (others, first) (elim (cases_lt k (level_after round)) [
      | inl above ↦ rw (lt-ltb k (level_after round) above) (omega arith)
      | inr below ↦ rw (le-ltb k (level_after round) below) (omega arith)
    ])

-- all that have a number are taken before the round behind the last
some_is_taken : (level_after : ℕ → ℕ) (k last : ℕ) (found : Option ℕ) → IsFirstAbove level_after k last found → is_some found ≡ is_taken_before (suc last) found
some_is_taken level_after k last (Some first) is = sym (lt-ltb first (suc last) (omega arith))
some_is_taken level_after k last None is = refl

pub count_some : (level_after : ℕ → ℕ) (last k many : ℕ) → count_by is_some (numbers_from level_after last k many) ≡ count_by (is_taken_before (suc last)) (numbers_from level_after last k many)
count_some level_after last k zero = refl
count_some level_after last k (suc many) =
    let first : is_some (first_above level_after k last) ≡ is_taken_before (suc last) (first_above level_after k last) = some_is_taken level_after k last (first_above level_after k last) (first_above_is level_after k last) in
    let others : count_by is_some (numbers_from level_after last (k + 1) many) ≡ count_by (is_taken_before (suc last)) (numbers_from level_after last (k + 1) many) = count_some level_after last (k + 1) many in
    sum_by-cons (λ number. cond (is_some number) 1 0) (first_above level_after k last) (numbers_from level_after last (k + 1) many) ∙
    (rw (others, first) refl ∙ sym (sum_by-cons (λ number. cond (is_taken_before (suc last) number) 1 0) (first_above level_after k last) (numbers_from level_after last (k + 1) many)))

-- no number is above the last round
greatest_by_small : (level_after : ℕ → ℕ) (k last : ℕ) (found : Option ℕ) → IsFirstAbove level_after k last found → greatest_by found ≤ last
greatest_by_small level_after k last (Some first) is = is.1
greatest_by_small level_after k last None is = omega arith

pub greatest_in_small : (level_after : ℕ → ℕ) (last k many : ℕ) → greatest_in (numbers_from level_after last k many) ≤ last
greatest_in_small level_after last k zero = omega arith
greatest_in_small level_after last k (suc many) =
    let first = greatest_by_small level_after k last (first_above level_after k last) (first_above_is level_after k last) in
    let others = greatest_in_small level_after last (k + 1) many in omega arith

-- a level that the last round takes has its number
taken_last : (level_after : ℕ → ℕ) (last k : ℕ) (found : Option ℕ) → Grows level_after (suc last) → level_after last ≡ k → k < level_after (suc last) → IsFirstAbove level_after k (suc last) found → found ≡ Some (suc last)
taken_last level_after last k (Some first) grown at above is =
    elim (cases_lt first (suc last)) [
      | inl before ↦ (let up : level_after first ≤ level_after last = grown.grows first last (omega arith) in absurd (omega arith))
      | inr later ↦ (let same : first ≡ suc last = omega arith in ap (λ (m : ℕ). Some m) same)
    ]
taken_last level_after last k None grown at above is = absurd (let below : level_after (suc last) ≤ k = is (suc last) (omega arith) (omega arith) in omega arith)

pub last_is_first_above : (level_after : ℕ → ℕ) (last : ℕ) → Grows level_after (suc last) → level_after last < level_after (suc last) → first_above level_after (level_after last) (suc last) ≡ Some (suc last)
last_is_first_above level_after last grown up =
    taken_last level_after last (level_after last) (first_above level_after (level_after last) (suc last)) grown refl up (first_above_is level_after (level_after last) (suc last))
