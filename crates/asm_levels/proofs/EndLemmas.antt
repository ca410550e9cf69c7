-- What the size of a row moves, row by row, and the rows whose size depends on their address.
use Rattle.std.proofs.Common.{◌≡◌, ℕ, ◌+◌, ◌-◌, ◌<◌, ◌≤◌, Bool, true, false, List, [], ◌∷◌, ◌++◌, length, get_or, set, refl, sym, ap, ◌∙◌, subst, arith, inl, inr}
use Rattle.std.proofs.lemmas.Bool.{cases_eq}
use Rattle.std.proofs.lemmas.List.{get_or-set_same, get_or-set_other, get_or_push, get_or_append_left, get_or_default, length_push}
use Rattle.asm_levels.specs.declared.rows.Row.{Row}
use Rattle.asm_levels.specs.RowLists.{is_end, depends_on_address, IsMovedBefore, AreDependents, IsAmong}

-- the last row moves what stands behind all rows
pub before_last : (rows : List Row) (index : ℕ) → index + 1 ≡ length rows → IsMovedBefore rows index (index + 1)
before_last rows index last = record {
  after = omega arith;
  within = omega arith;
  inner = λ at default low high. absurd (omega arith);
  last = λ default more. absurd (omega arith);
}

-- an end mark moves nothing behind it
pub before_end : (rows : List Row) (index : ℕ) (row : Row) → index < length rows → row ≡ get_or rows index row → is_end row.size ≡ true → IsMovedBefore rows index (index + 1)
before_end rows index row inside here is = record {
  after = omega arith;
  within = omega arith;
  inner = λ at default low high. absurd (omega arith);
  last = λ default more. (
      let at : index + 1 - 1 ≡ index = omega arith in
      let same : get_or rows index default ≡ row = get_or_default rows index default row inside ∙ sym here in
      ap (λ i. is_end (get_or rows i default).size) at ∙ (ap (λ (r : Row). is_end r.size) same ∙ is));
}

-- any other row moves what the next one moves
pub before_next : (rows : List Row) (index to : ℕ) (row : Row) → index < length rows → row ≡ get_or rows index row → is_end row.size ≡ false
    → IsMovedBefore rows (index + 1) to → IsMovedBefore rows index to
before_next rows index to row inside here is next = record {
  after = (let first = next.after in omega arith);
  within = next.within;
  inner = λ at default low high. elim (cases_eq at index) [
    | inl same ↦ (
        let this : get_or rows index default ≡ row = get_or_default rows index default row inside ∙ sym here in
        ap (λ i. is_end (get_or rows i default).size) same ∙ (ap (λ (r : Row). is_end r.size) this ∙ is))
    | inr other ↦ next.inner at default (omega arith) high
  ];
  last = next.last;
}

-- from this row on the ends are there
abbrev pub EndsFrom : List Row → List ℕ → ℕ → Type 0
EndsFrom rows ends from = (at : ℕ) → from ≤ at → at < length rows → IsMovedBefore rows at (get_or ends at 0)

pub ends_more : (rows : List Row) (ends : List ℕ) (index to : ℕ) → length ends ≡ length rows → index < length rows → IsMovedBefore rows index to
    → EndsFrom rows ends (index + 1) → EndsFrom rows (set ends index to) index
ends_more rows ends index to many inside before all at low within = elim (cases_eq at index) [
  | inl same ↦ (
      let own : get_or (set ends index to) index 0 ≡ to = get_or-set_same ends index to 0 (omega arith) in
      subst (λ (i : ℕ). IsMovedBefore rows i (get_or (set ends index to) i 0)) (sym same) (subst (λ (end : ℕ). IsMovedBefore rows index end) (sym own) before))
  | inr other ↦ subst (λ (end : ℕ). IsMovedBefore rows at end) (sym (get_or-set_other ends index at to 0 other)) (all at (omega arith) within)
]

-- the dependents among the first so many rows
pub record FirstDependents (rows : List Row) (list : List ℕ) (count : ℕ) : Type 0 where
  pub within : (at : ℕ) → at < length list → get_or list at 0 < count
  pub order : (at later : ℕ) → at < later → later < length list → get_or list at 0 < get_or list later 0
  pub only : (at : ℕ) (default : Row) → at < length list → depends_on_address (get_or rows (get_or list at 0) default).size ≡ true
  pub all : (index : ℕ) (default : Row) → index < count → depends_on_address (get_or rows index default).size ≡ true → IsAmong index (length list) list

pub no_dependents : (rows : List Row) → FirstDependents rows [] 0
no_dependents rows = record {
  within = λ at less. absurd (omega arith);
  order = λ at later less within. absurd (omega arith);
  only = λ at default less. absurd (omega arith);
  all = λ index default less is. absurd (omega arith);
}

pub dependent_skipped : (rows : List Row) (list : List ℕ) (count : ℕ) (row : Row) → count < length rows → row ≡ get_or rows count row → depends_on_address row.size ≡ false
    → FirstDependents rows list count → FirstDependents rows list (count + 1)
dependent_skipped rows list count row inside here is first = record {
  within = λ at less. (let low = first.within at less in omega arith);
  order = first.order;
  only = first.only;
  all = λ index default less dep. elim (cases_eq index count) [
    | inl same ↦ absurd (
        let this : get_or rows count default ≡ row = get_or_default rows count default row inside ∙ sym here in
        let not : depends_on_address (get_or rows index default).size ≡ false = ap (λ i. depends_on_address (get_or rows i default).size) same ∙ (ap (λ (r : Row). depends_on_address r.size) this ∙ is) in
        apart (depends_on_address (get_or rows index default).size) dep not)
    | inr other ↦ first.all index default (omega arith) dep
  ];
}
  where
    apart : (b : Bool) → b ≡ true → b ≡ false → ⊥
    apart b one other = cc

pub dependent_pushed : (rows : List Row) (list : List ℕ) (count : ℕ) (row : Row) → count < length rows → row ≡ get_or rows count row → depends_on_address row.size ≡ true
    → FirstDependents rows list count → FirstDependents rows (list ++ count ∷ []) (count + 1)
dependent_pushed rows list count row inside here is first =
    let long : length (list ++ count ∷ []) ≡ length list + 1 = length_push list count in
    let last : get_or (list ++ count ∷ []) (length list) 0 ≡ count = get_or_push list count 0 (length list) refl in
    let old : (at : ℕ) → at < length list → get_or (list ++ count ∷ []) at 0 ≡ get_or list at 0 = λ at less. get_or_append_left list (count ∷ []) 0 at less in
    record {
      within = λ at less. elim (cases_eq at (length list)) [
        | inl same ↦ (let there : get_or (list ++ count ∷ []) at 0 ≡ count = ap (λ i. get_or (list ++ count ∷ []) i 0) same ∙ last in omega arith)
        | inr other ↦ (let there = old at (omega arith) in let low = first.within at (omega arith) in omega arith)
      ];
      order = λ at later less within. elim (cases_eq later (length list)) [
        | inl same ↦ (let there : get_or (list ++ count ∷ []) later 0 ≡ count = ap (λ i. get_or (list ++ count ∷ []) i 0) same ∙ last in
            let one = old at (omega arith) in let low = first.within at (omega arith) in omega arith)
        | inr other ↦ (let one = old at (omega arith) in let two = old later (omega arith) in let rises = first.order at later less (omega arith) in omega arith)
      ];
      only = λ at default less. elim (cases_eq at (length list)) [
        | inl same ↦ (
            let there : get_or (list ++ count ∷ []) at 0 ≡ count = ap (λ i. get_or (list ++ count ∷ []) i 0) same ∙ last in
            let this : get_or rows count default ≡ row = get_or_default rows count default row inside ∙ sym here in
            ap (λ i. depends_on_address (get_or rows i default).size) there ∙ (ap (λ (r : Row). depends_on_address r.size) this ∙ is))
        | inr other ↦ ap (λ i. depends_on_address (get_or rows i default).size) (old at (omega arith)) ∙ first.only at default (omega arith)
      ];
      all = λ index default less dep. elim (cases_eq index count) [
        | inl same ↦ (length list, omega arith, last ∙ sym same)
        | inr other ↦ (let among = first.all index default (omega arith) dep in (among.0, (let less' = among.1 in omega arith), old among.0 among.1 ∙ among.2))
      ];
    }

pub dependents_all : (rows : List Row) (list : List ℕ) (count : ℕ) → length rows ≡ count → FirstDependents rows list count → AreDependents rows list
dependents_all rows list count all first = record {
  within = λ at less. (let low = first.within at less in omega arith);
  order = first.order;
  only = first.only;
  all = λ index default within dep. first.all index default (omega arith) dep;
}
