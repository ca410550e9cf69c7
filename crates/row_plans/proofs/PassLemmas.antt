-- The way up from a node, as far as one that was passed.
use Rattle.std.proofs.Common.{◌≡◌, ◌⊎◌, ℕ, zero, suc, ◌/◌, ◌<◌, ◌≤◌, Bool, List, inl, inr, refl, length, get_or, set, ap, sym, ◌∙◌, subst, arith}
use Rattle.std.proofs.lemmas.Bool.{cases_eq}
use Rattle.std.proofs.lemmas.List.{get_or-set_same, get_or-set_other}
use Rattle.asm_levels.specs.Watching.{halved, IsAbove}
use Rattle.row_plans.specs.Looking.{AreSeen, ArePassed}

halved_zero : (times : ℕ) → halved times 0 ≡ 0
halved_zero zero = refl
halved_zero (suc times) = halved_zero times

-- nothing but 0 is above 0
above_none : (node : ℕ) → IsAbove node 0 → node ≡ 0
above_none node above = sym above.1 ∙ halved_zero above.0

-- what is above a node is the node, or above its half
above_cases : (node leaf : ℕ) → IsAbove node leaf → (node ≡ leaf) ⊎ IsAbove node (leaf / 2)
above_cases node leaf above = first_cases above.0 above.1
  where
    first_cases : (times : ℕ) → halved times leaf ≡ node → (node ≡ leaf) ⊎ IsAbove node (leaf / 2)
    first_cases zero is = inl (sym is)
    first_cases (suc times) is = inr (times, is)

-- the node is above the one where the way goes on, or was looked at
abbrev pub IsLeft : List ℕ → List ℕ → List Bool → List ℕ → ℕ → ℕ → ℕ → Type 0
IsLeft rows nodes follows seen round node above = IsAbove above node ⊎ AreSeen rows nodes follows seen round above

-- so is each one above a node that was passed
abbrev pub AreLeft : List ℕ → List ℕ → List Bool → List ℕ → List ℕ → ℕ → ℕ → Type 0
AreLeft rows nodes follows seen passed round node = (other above : ℕ) → get_or passed other 0 ≡ round → 0 < above → IsAbove above other → IsLeft rows nodes follows seen round node above

module _ (rows nodes : List ℕ) (follows : List Bool) (seen later : List ℕ) (round : ℕ) (kept : (at : ℕ) → get_or seen at 0 ≡ round → get_or later at 0 ≡ round) where
  pub seen_kept : (node : ℕ) → AreSeen rows nodes follows seen round node → AreSeen rows nodes follows later round node
  seen_kept node all at row less is followed = kept row (all at row less is followed)

  -- a node was looked at, and the way goes on above it
  pub left_half : (node above : ℕ) → AreSeen rows nodes follows later round node → IsLeft rows nodes follows seen round node above → IsLeft rows nodes follows later round (node / 2) above
  left_half node above here left = elim left [
    | inl up ↦ elim (above_cases above node up) [
      | inl same ↦ inr (subst (λ (n : ℕ). AreSeen rows nodes follows later round n) (sym same) here)
      | inr more ↦ inl more
    ]
    | inr all ↦ inr (seen_kept above all)
  ]

  pub lefts_half : (passed : List ℕ) (node : ℕ) → node < length passed → AreSeen rows nodes follows later round node → AreLeft rows nodes follows seen passed round node
      → AreLeft rows nodes follows later (set passed node round) round (node / 2)
  lefts_half passed node inside here left other above is some up = left_half node above here (elim (cases_eq other node) [
    | inl same ↦ inl (subst (λ (n : ℕ). IsAbove above n) same up)
    | inr apart ↦ left other above (sym (get_or-set_other passed node other round 0 apart) ∙ is) some up
  ])

  -- the way ends at a node that was passed before
  pub left_passed : (passed : List ℕ) (node above : ℕ) → ArePassed rows nodes follows seen passed round → get_or passed node 0 ≡ round → 0 < above → IsLeft rows nodes follows later round node above
      → AreSeen rows nodes follows later round above
  left_passed passed node above all is some left = elim left [
    | inl up ↦ seen_kept above (all node above is some up)
    | inr here ↦ here
  ]

-- or above the last one
pub left_none : (rows nodes : List ℕ) (follows : List Bool) (seen : List ℕ) (round node above : ℕ) → node ≡ 0 → 0 < above → IsLeft rows nodes follows seen round node above → AreSeen rows nodes follows seen round above
left_none rows nodes follows seen round node above end some left = elim left [
  | inl up ↦ absurd (let none = above_none above (subst (λ (n : ℕ). IsAbove above n) end up) in omega arith)
  | inr here ↦ here
]

-- stamps of a list that gets one more
pub stamps_more : (passed : List ℕ) (node round : ℕ) → node < length passed → ((at : ℕ) → get_or passed at 0 ≤ round) → (at : ℕ) → get_or (set passed node round) at 0 ≤ round
stamps_more passed node round inside low at = elim (cases_eq at node) [
  | inl same ↦ (let here : get_or (set passed node round) at 0 ≡ round = ap (λ i. get_or (set passed node round) i 0) same ∙ get_or-set_same passed node round 0 inside in omega arith)
  | inr other ↦ (let old = get_or-set_other passed node at round 0 other in let below = low at in omega arith)
]
