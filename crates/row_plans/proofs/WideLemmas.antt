-- The list of rows without entries: those at their highest level are put behind the others.
use Rattle.std.proofs.Common.{◌≡◌, ℕ, ◌+◌, ◌<◌, ◌≤◌, Bool, inl, inr, List, length, get_or, take, refl, ap, sym, ◌∙◌, subst, arith}
use Rattle.std.proofs.lemmas.Bool.{cases_eq}
use Rattle.std.proofs.lemmas.List.{get_or-take, length-take}
use Rattle.asm_levels.specs.declared.rows.Row.{Row}
use Rattle.asm_levels.specs.Needs.{tops, has_levels}
use Rattle.asm_levels.specs.RowLists.{IsAmong}
use Rattle.asm_levels.specs.Watching.{AreSeveral, AreWatchers, AreHighest, HaveSameRows}

pub same_rows : (list : List ℕ) → HaveSameRows list list
same_rows list = record { there = λ row among. among; back = λ row among. among }

among_swap : (list now : List ℕ) (i j row : ℕ) → i < length list → j < length list → length now ≡ length list → get_or now i 0 ≡ get_or list j 0 → get_or now j 0 ≡ get_or list i 0
    → ((k : ℕ) → (k ≡ i → ⊥) → (k ≡ j → ⊥) → get_or now k 0 ≡ get_or list k 0) → IsAmong row (length list) list → IsAmong row (length now) now
among_swap list now i j row inside within long one other rest among = elim (cases_eq among.0 i) [
  | inl same ↦ (j, omega arith, other ∙ (ap (λ k. get_or list k 0) (sym same) ∙ among.2))
  | inr apart ↦ elim (cases_eq among.0 j) [
    | inl same ↦ (i, omega arith, one ∙ (ap (λ k. get_or list k 0) (sym same) ∙ among.2))
    | inr different ↦ (among.0, (let less = among.1 in omega arith), rest among.0 apart different ∙ among.2)
  ]
]

module _ (list now : List ℕ) (i j : ℕ) (inside : i < length list) (within : j < length list) (long : length now ≡ length list) (one : get_or now i 0 ≡ get_or list j 0) (other : get_or now j 0 ≡ get_or list i 0)
    (rest : (k : ℕ) → (k ≡ i → ⊥) → (k ≡ j → ⊥) → get_or now k 0 ≡ get_or list k 0) where
  pub same_swap : (first : List ℕ) → HaveSameRows first list → HaveSameRows first now
  same_swap first same = record {
    there = λ row among. among_swap list now i j row inside within long one other rest (same.there row among);
    back = λ row among. same.back row (among_swap now list i j row (omega arith) (omega arith) (sym long) (sym other) (sym one) (λ k apart different. sym (rest k apart different)) among);
  }

  pub highest_swap : (rows : List Row) (levels : List ℕ) (left : ℕ) → left ≡ j + 1 → i ≤ j → get_or (tops rows) (get_or list i 0) 0 ≤ get_or levels (get_or list i 0) 0
      → AreHighest rows levels left list → AreHighest rows levels j now
  highest_swap rows levels left next order own highest at low less = elim (cases_eq at j) [
    | inl same ↦ subst (λ (row : ℕ). get_or (tops rows) row 0 ≤ get_or levels row 0) (sym (ap (λ k. get_or now k 0) same ∙ other)) own
    | inr apart ↦ subst (λ (row : ℕ). get_or (tops rows) row 0 ≤ get_or levels row 0) (sym (rest at (omega arith) apart)) (highest at (omega arith) (omega arith))
  ]

-- what is so for each row of a list is so for those of one with the same rows
pub inside_same : (list now : List ℕ) (count : ℕ) → HaveSameRows list now → ((at : ℕ) → at < length list → get_or list at 0 < count) → (at : ℕ) → at < length now → get_or now at 0 < count
inside_same list now count same inside at less =
    let among = same.back (get_or now at 0) (at, less, refl) in
    let low = inside among.0 among.1 in let is = among.2 in omega arith

pub several_same : (rows : List Row) (list now : List ℕ) → HaveSameRows list now → AreSeveral rows list → AreSeveral rows now
several_same rows list now same several at default less =
    let among = same.back (get_or now at 0) (at, less, refl) in
    ap (λ row. has_levels (get_or rows row default).size) (sym among.2) ∙ several among.0 default among.1

pub watchers_same : (all : List Row) (ends rows nodes heads links : List ℕ) (follows : List Bool) (wide later : List ℕ) → HaveSameRows wide later → AreWatchers all ends rows nodes heads links follows wide → AreWatchers all ends rows nodes heads links follows later
watchers_same all ends rows nodes heads links follows wide later same watchers = record {
  linked = watchers.linked;
  many_heads = watchers.many_heads;
  covered = λ index less. elim (watchers.covered index less) [
    | inl one ↦ inl one
    | inr rest ↦ elim rest [ inl watched ↦ inr (inl watched) | inr among ↦ inr (inr (same.there index among)) ]
  ];
  wide_within = inside_same wide later (length all) same watchers.wide_within;
  many_follows = watchers.many_follows;
  followers = watchers.followers;
  several = watchers.several;
  wide_several = several_same all wide later same watchers.wide_several;
}

-- the first so many rows of a list
pub inside_take : (list : List ℕ) (left count : ℕ) → ((at : ℕ) → at < length list → get_or list at 0 < count) → (at : ℕ) → at < length (take left list) → get_or (take left list) at 0 < count
inside_take list left count inside at less =
    let long = length-take left list in
    let same : get_or (take left list) at 0 ≡ get_or list at 0 = get_or-take left list at 0 (omega arith) in
    let low = inside at (omega arith) in omega arith

pub several_first : (rows : List Row) (list : List ℕ) (left : ℕ) → AreSeveral rows list → AreSeveral rows (take left list)
several_first rows list left several at default less =
    let long = length-take left list in
    let same : get_or (take left list) at 0 ≡ get_or list at 0 = get_or-take left list at 0 (omega arith) in
    ap (λ row. has_levels (get_or rows row default).size) same ∙ several at default (omega arith)

-- a level that is raised stays the highest
pub highest_raised : (rows : List Row) (levels later : List ℕ) (left : ℕ) (list : List ℕ) → ((index : ℕ) → index < length rows → get_or levels index 0 ≤ get_or later index 0)
    → ((at : ℕ) → at < length list → get_or list at 0 < length rows) → AreHighest rows levels left list → AreHighest rows later left list
highest_raised rows levels later left list up inside highest at low less =
    let before = highest at low less in let rise = up (get_or list at 0) (inside at less) in omega arith
