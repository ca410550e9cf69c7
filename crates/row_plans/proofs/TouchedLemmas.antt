-- The rows that get another size are listed.
use Rattle.std.proofs.Common.{◌≡◌, ◌⊎◌, ℕ, ◌+◌, ◌%◌, ◌^◌, ◌<◌, ◌≤◌, List, length, get_or, set, refl, sym, ap, ◌∙◌, arith, inl, inr}
use Rattle.std.proofs.lemmas.Bool.{cases_eq}
use Rattle.std.proofs.lemmas.List.{get_or-set_same, get_or-set_other}
use Rattle.asm_levels.specs.declared.rows.Row.{Row}
use Rattle.asm_levels.specs.RowLists.{IsAmong}
use Rattle.row_plans.specs.Resizing.{AreMoved, AreTouched}

pub touched_none : (sizes list : List ℕ) → AreTouched sizes sizes 0 list
touched_none sizes list index = inr refl

-- a row is put into the list, and gets a size
pub touched_more : (before sizes list : List ℕ) (place row size : ℕ) → place < length list → AreTouched before sizes place list → AreTouched before (set sizes row size) (place + 1) (set list place row)
touched_more before sizes list place row size inside touched index = elim (cases_eq index row) [
  | inl same ↦ inl (place, omega arith, get_or-set_same list place row 0 inside ∙ sym same)
  | inr other ↦ elim (touched index) [
    | inl among ↦ inl (among.0, (let less = among.1 in omega arith), get_or-set_other list place among.0 row 0 (let less = among.1 in omega arith) ∙ among.2)
    | inr still ↦ inr (ap (λ m. m % 2 ^ 64) (get_or-set_other sizes row index size 0 other) ∙ still)
  ]
]

pub within_more : (list : List ℕ) (place row count : ℕ) → place < length list → row < count → ((at : ℕ) → at < place → get_or list at 0 < count)
    → (at : ℕ) → at < place + 1 → get_or (set list place row) at 0 < count
within_more list place row count inside low within at less = elim (cases_eq at place) [
  | inl same ↦ (let here : get_or (set list place row) place 0 ≡ row = get_or-set_same list place row 0 inside in
      let there : get_or (set list place row) at 0 ≡ get_or (set list place row) place 0 = ap (λ i. get_or (set list place row) i 0) same in omega arith)
  | inr other ↦ (let here : get_or (set list place row) at 0 ≡ get_or list at 0 = get_or-set_other list place at row 0 other in let below = within at (omega arith) in omega arith)
]

-- what a list notes of a row that is to get a size
abbrev pub IsNoted : List Row → List ℕ → List ℕ → ℕ → ℕ → ℕ → ℕ → Type 0
IsNoted rows shifts list place row size result = ((result ≡ place) × ((sizes : List ℕ) → AreMoved rows sizes shifts → size ≡ get_or sizes row 0 % 2 ^ 64)) ⊎ ((result ≡ place + 1) × (get_or list place 0 ≡ row))

among_kept : (list later : List ℕ) (place index count : ℕ) → place ≤ count → ((at : ℕ) → at < place → get_or later at 0 ≡ get_or list at 0) → IsAmong index place list → IsAmong index count later
among_kept list later place index count low kept among = (among.0, (let less = among.1 in omega arith), kept among.0 among.1 ∙ among.2)

pub touched_noted : (rows : List Row) (before sizes shifts list later : List ℕ) (place row size result : ℕ) → row < length sizes → size < 2 ^ 64 → ((at : ℕ) → at < place → get_or later at 0 ≡ get_or list at 0)
    → IsNoted rows shifts later place row size result → AreMoved rows sizes shifts → AreTouched before sizes place list → AreTouched before (set sizes row size) result later
touched_noted rows before sizes shifts list later place row size result inside low kept noted moved touched index = elim noted [
  | inl same ↦ elim (touched index) [
    | inl among ↦ inl (among_kept list later place index result (let is = same.0 in omega arith) kept among)
    | inr still ↦ inr (elim (cases_eq index row) [
      | inl here ↦ (
          let own : get_or (set sizes row size) index 0 ≡ size = ap (λ i. get_or (set sizes row size) i 0) here ∙ get_or-set_same sizes row size 0 inside in
          let is = same.1 sizes moved in
          let was : get_or sizes index 0 ≡ get_or sizes row 0 = ap (λ i. get_or sizes i 0) here in
          omega arith)
      | inr other ↦ ap (λ m. m % 2 ^ 64) (get_or-set_other sizes row index size 0 other) ∙ still
    ])
  ]
  | inr more ↦ elim (cases_eq index row) [
    | inl here ↦ inl (place, (let is = more.0 in omega arith), more.1 ∙ sym here)
    | inr other ↦ elim (touched index) [
      | inl among ↦ inl (among_kept list later place index result (let is = more.0 in omega arith) kept among)
      | inr still ↦ inr (ap (λ m. m % 2 ^ 64) (get_or-set_other sizes row index size 0 other) ∙ still)
    ]
  ]
]

pub within_noted : (rows : List Row) (shifts list later : List ℕ) (place row size result count : ℕ) → row < count → ((at : ℕ) → at < place → get_or later at 0 ≡ get_or list at 0)
    → IsNoted rows shifts later place row size result → ((at : ℕ) → at < place → get_or list at 0 < count) → (at : ℕ) → at < result → get_or later at 0 < count
within_noted rows shifts list later place row size result count low kept noted within at less = elim noted [
  | inl same ↦ (let is = same.0 in let old = kept at (omega arith) in let below = within at (omega arith) in omega arith)
  | inr more ↦ elim (cases_eq at place) [
    | inl here ↦ (let there : get_or later at 0 ≡ row = ap (λ i. get_or later i 0) here ∙ more.1 in omega arith)
    | inr other ↦ (let is = more.0 in let old = kept at (omega arith) in let below = within at (omega arith) in omega arith)
  ]
]

pub end_noted : (rows : List Row) (shifts list : List ℕ) (place row size result : ℕ) → IsNoted rows shifts list place row size result → result ≤ place + 1
end_noted rows shifts list place row size result noted = elim noted [
  | inl same ↦ (let is = same.0 in omega arith)
  | inr more ↦ (let is = more.0 in omega arith)
]
