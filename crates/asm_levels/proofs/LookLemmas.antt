-- A round, as far as the rows before an index.
use Rattle.std.proofs.Common.{◌≡◌, ◌⊎◌, ℕ, ◌+◌, ◌<◌, ◌≤◌, nat_lt, max, Bool, true, false, cond, List, inl, inr, length, get_or, take, set, refl, ap, sym, ◌∙◌, subst, arith}
use Rattle.std.proofs.lemmas.Bool.{cases_eq, cases_lt, lt-ltb, le-ltb}
use Rattle.std.proofs.lemmas.List.{get_or-set_same, get_or-set_other, get_or-map, length-set}
use Rattle.std.proofs.lemmas.List.Sums.{sum_by_more, sum_by-take-le}
use Rattle.asm_levels.specs.declared.rows.RowSize.{RowSize}
use Rattle.asm_levels.specs.declared.rows.Row.{Row}
use Rattle.asm_levels.specs.RowLists.{IsAmong}
use Rattle.asm_levels.specs.Needs.{needed, levels_needed, top, is_below_top, has_levels, several}

-- the levels before the index are raised, the others stand, and it is known whether one rose
pub record IsLooked (old now needs : List ℕ) (index : ℕ) (rose : Bool) : Type 0 where
  pub raised : (k : ℕ) → k < index → get_or now k 0 ≡ max (get_or old k 0) (get_or needs k 0)
  pub rest : (k : ℕ) → index ≤ k → get_or now k 0 ≡ get_or old k 0
  pub rises : rose ≡ true → (k : ℕ) × (k < index) × (get_or old k 0 < get_or now k 0)
  pub still : rose ≡ false → now ≡ old

pub looked_none : (old needs : List ℕ) → IsLooked old old needs 0 false
looked_none old needs = record { raised = λ k before. absurd (omega arith); rest = λ k behind. refl; rises = λ rose. cc; still = λ rose. refl }

pub looked_take : (old now needs : List ℕ) (index level : ℕ) (rose : Bool) → index < length now → level ≡ max (get_or now index 0) (get_or needs index 0)
    → get_or now index 0 < level → IsLooked old now needs index rose → IsLooked old (set now index level) needs (index + 1) true
looked_take old now needs index level rose inside is above looked =
    let here : get_or (set now index level) index 0 ≡ level = get_or-set_same now index level 0 inside in
    let before : get_or now index 0 ≡ get_or old index 0 = looked.rest index (omega arith) in
    record {
      raised = λ k within. elim (cases_eq k index) [
        | inl same ↦ rw same (omega arith)
        | inr apart ↦ (let other : get_or (set now index level) k 0 ≡ get_or now k 0 = get_or-set_other now index k level 0 apart in other ∙ looked.raised k (omega arith))
      ];
      rest = λ k behind. (let apart : k ≡ index → ⊥ = omega arith in let other : get_or (set now index level) k 0 ≡ get_or now k 0 = get_or-set_other now index k level 0 apart in other ∙ looked.rest k (omega arith));
      rises = λ rose. (index, omega arith, omega arith);
      still = λ rose. cc;
    }

pub looked_leave : (old now needs : List ℕ) (index level : ℕ) (rose : Bool) → level ≡ max (get_or now index 0) (get_or needs index 0)
    → level ≤ get_or now index 0 → IsLooked old now needs index rose → IsLooked old now needs (index + 1) rose
looked_leave old now needs index level rose is within looked =
    let before : get_or now index 0 ≡ get_or old index 0 = looked.rest index (omega arith) in
    record {
      raised = λ k inside. elim (cases_eq k index) [
        | inl same ↦ rw same (omega arith)
        | inr apart ↦ looked.raised k (omega arith)
      ];
      rest = λ k behind. looked.rest k (omega arith);
      rises = λ rises. (let found = looked.rises rises in (found.0, omega arith, found.2));
      still = looked.still;
    }

pub looked_counted : (old now needs : List ℕ) (index level count : ℕ) → index < length now → level ≡ max (get_or now index 0) (get_or needs index 0)
    → get_or now index 0 < level → IsLooked old now needs index (nat_lt 0 count) → IsLooked old (set now index level) needs (index + 1) (nat_lt 0 (count + 1))
looked_counted old now needs index level count inside is above looked =
    subst (λ (rose : Bool). IsLooked old (set now index level) needs (index + 1) rose) (sym (lt-ltb 0 (count + 1) (omega arith)))
    (looked_take old now needs index level (nat_lt 0 count) inside is above looked)

-- the rows before this index whose levels are others stand in the list, if it has room for so many
abbrev pub ListedBefore : List ℕ → List ℕ → ℕ → List ℕ → ℕ → Type 0
ListedBefore old now count list before = count ≤ length list → (index : ℕ) → index < before → (get_or now index 0 ≡ get_or old index 0) ⊎ IsAmong index count list

pub listed_more : (old now : List ℕ) (count index level : ℕ) (list : List ℕ) → ListedBefore old now count list index
    → ListedBefore old (set now index level) (count + 1) (set list count index) (index + 1)
listed_more old now count index level list listed room at before =
    let long : length (set list count index) ≡ length list = length-set list count index in
    elim (cases_eq at index) [
      | inl same ↦ inr (count, omega arith, get_or-set_same list count index 0 (omega arith) ∙ sym same)
      | inr other ↦ elim (listed (omega arith) at (omega arith)) [
        | inl still ↦ inl (get_or-set_other now index at level 0 other ∙ still)
        | inr among ↦ inr (among.0, (let less = among.1 in omega arith), get_or-set_other list count among.0 index 0 (let less = among.1 in omega arith) ∙ among.2)
      ]
    ]

pub listed_same : (old now : List ℕ) (count index : ℕ) (list : List ℕ) → get_or now index 0 ≡ get_or old index 0 → ListedBefore old now count list index
    → ListedBefore old now count list (index + 1)
listed_same old now count index list still listed room at before = elim (cases_eq at index) [
  | inl same ↦ inl (ap (λ i. get_or now i 0) same ∙ (still ∙ ap (λ i. get_or old i 0) (sym same)))
  | inr other ↦ listed room at (omega arith)
]

pub inside_more : (list : List ℕ) (count index : ℕ) → ((at : ℕ) → at < count → at < length list → get_or list at 0 < index)
    → (at : ℕ) → at < count + 1 → at < length (set list count index) → get_or (set list count index) at 0 < index + 1
inside_more list count index inside at less room =
    let long : length (set list count index) ≡ length list = length-set list count index in
    elim (cases_eq at count) [
      | inl same ↦ (let here : get_or (set list count index) count 0 ≡ index = get_or-set_same list count index 0 (omega arith) in
          let there : get_or (set list count index) at 0 ≡ get_or (set list count index) count 0 = ap (λ i. get_or (set list count index) i 0) same in omega arith)
      | inr other ↦ (let here : get_or (set list count index) at 0 ≡ get_or list at 0 = get_or-set_other list count at index 0 other in let low = inside at (omega arith) (omega arith) in omega arith)
    ]

-- what the row at an index needs
pub needs_at : (shifts : List ℕ) (rows : List Row) (index : ℕ) (row : Row) → index < length rows → row ≡ get_or rows index row → get_or (levels_needed shifts rows) index 0 ≡ needed shifts row.size
needs_at shifts rows index row inside here =
    get_or-map (λ r. needed shifts r.size) rows index row 0 inside ∙ ap (λ (r : Row). needed shifts r.size) (sym here)

pub several_more : (rows : List Row) (index : ℕ) (row : Row) → index < length rows → row ≡ get_or rows index row → several (take (index + 1) rows) ≡ several (take index rows) + cond (has_levels row.size) 1 0
several_more rows index row inside here =
    sum_by_more (λ r. cond (has_levels r.size) 1 0) rows index row inside ∙ ap (λ (r : Row). several (take index rows) + cond (has_levels r.size) 1 0) (sym here)

pub several_take : (rows : List Row) (index : ℕ) → several (take index rows) ≤ several rows
several_take rows index = sum_by-take-le (λ r. cond (has_levels r.size) 1 0) rows index

-- a row that needs no more than its top, at its top or above, stays
pub max_same : (level top needs : ℕ) → top ≤ level → needs ≤ top → level ≡ max level needs
max_same level top needs above within = omega arith

-- a row at its lowest level is below its top exactly where it has several levels
pub lowest_looks : (size : RowSize) (level : ℕ) → level ≡ 0 → ◌≡◌ {A = ℕ} (cond (is_below_top size level) 1 0) (cond (has_levels size) 1 0)
lowest_looks size level lowest = ap (λ n. cond (is_below_top size n) 1 0) lowest

-- a level below the top leaves a row of several levels
pub looks_few : (size : RowSize) (level : ℕ) → cond (is_below_top size level) 1 0 ≤ cond (has_levels size) 1 0
looks_few size level = elim (cases_lt level (top size)) [
  | inl lt ↦ rw (lt-ltb level (top size) lt, lt-ltb 0 (top size) (omega arith)) (omega arith)
  | inr ge ↦ rw (le-ltb level (top size) ge) (omega arith)
]
