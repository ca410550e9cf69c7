-- One more row is watched.
use Rattle.std.proofs.Common.{◌≡◌, ℕ, ◌+◌, ◌*◌, ◌<◌, Bool, true, false, inl, inr, List, [], ◌∷◌, ◌++◌, length, replicate, get_or, refl, ap, sym, ◌∙◌, subst, arith}
use Rattle.std.proofs.lemmas.Bool.{cases_eq, lt-ltb, le-ltb}
use Rattle.std.proofs.lemmas.List.{length-replicate, get_or_push, get_or_append_left, get_or_default, length_push}
use Rattle.asm_levels.specs.declared.rows.Row.{Row}
use Rattle.asm_levels.specs.Needs.{top, has_levels}
use Rattle.asm_levels.specs.RowLists.{IsAmong}
use Rattle.asm_levels.specs.Watching.{RowSpans, block_of, first_leaf, AreLinked, HaveMore, IsRun, IsCovered, FirstWatchers}
use Rattle.asm_levels.proofs.LinkLemmas.{among_kept, among_new}
use Rattle.asm_levels.proofs.RunLemmas.{IsMarked, length-marked, covered_kept, run_entries, no_followers, followers_more}

pub watched_none : (all : List Row) (ends rows nodes heads links : List ℕ) (follows : List Bool) (wide : List ℕ) → AreLinked (length all) rows nodes heads links → rows ≡ [] → follows ≡ replicate (length all) false → wide ≡ [] → length heads ≡ 2 * first_leaf (length all)
    → FirstWatchers all ends rows nodes heads links follows wide 0
watched_none all ends rows nodes heads links follows wide linked no_rows no_follows no_wide enough = record {
  linked = linked;
  many_heads = enough;
  covered = λ index less. absurd (omega arith);
  wide_within = λ at less. absurd (let none = ap (λ (xs : List ℕ). length xs) no_wide in omega arith);
  many_follows = ap (λ (xs : List Bool). length xs) no_follows ∙ length-replicate (length all) false;
  followers = no_followers all follows (length all) no_follows;
  several = λ at default less. absurd (let none = ap (λ (xs : List ℕ). length xs) no_rows in omega arith);
  wide_several = λ at default less. absurd (let none = ap (λ (xs : List ℕ). length xs) no_wide in omega arith);
}

-- the row at an index, whatever the default
row_is : (all : List Row) (index : ℕ) (row default : Row) → index < length all → row ≡ get_or all index row → get_or all index default ≡ row
row_is all index row default inside here = get_or_default all index default row inside ∙ sym here

pub one_level : (all : List Row) (ends rows nodes heads links : List ℕ) (follows : List Bool) (wide : List ℕ) (count : ℕ) (row : Row) → count < length all → row ≡ get_or all count row → top row.size ≡ 0
    → FirstWatchers all ends rows nodes heads links follows wide count → FirstWatchers all ends rows nodes heads links follows wide (count + 1)
one_level all ends rows nodes heads links follows wide count row inside here none first = record {
  linked = first.linked;
  many_heads = first.many_heads;
  covered = λ index less. elim (cases_eq index count) [
    | inl same ↦ inl (λ default. (
        let this : get_or all index default ≡ row = ap (λ i. get_or all i default) same ∙ row_is all count row default inside here in
        let levels : top (get_or all index default).size ≡ 0 = ap (λ (r : Row). top r.size) this ∙ none in
        le-ltb 0 (top (get_or all index default).size) (omega arith)))
    | inr other ↦ first.covered index (omega arith)
  ];
  wide_within = first.wide_within;
  many_follows = first.many_follows;
  followers = first.followers;
  several = first.several;
  wide_several = first.wide_several;
}

-- the row has several levels
has_several : (all : List Row) (index : ℕ) (row default : Row) → index < length all → row ≡ get_or all index row → (top row.size ≡ 0 → ⊥) → has_levels (get_or all index default).size ≡ true
has_several all index row default inside here some =
    let this : get_or all index default ≡ row = row_is all index row default inside here in
    let levels : top (get_or all index default).size ≡ top row.size = ap (λ (r : Row). top r.size) this in
    lt-ltb 0 (top (get_or all index default).size) (elim (cases_eq (top row.size) 0) [ inl none ↦ absurd (some none) | inr more ↦ (omega arith) ])

pub wide_more : (all : List Row) (ends rows nodes heads links : List ℕ) (follows : List Bool) (wide : List ℕ) (count : ℕ) (row : Row) → count < length all → row ≡ get_or all count row → (top row.size ≡ 0 → ⊥)
    → FirstWatchers all ends rows nodes heads links follows wide count → FirstWatchers all ends rows nodes heads links follows (wide ++ count ∷ []) (count + 1)
wide_more all ends rows nodes heads links follows wide count row inside here some first =
    let long = length_push wide count in
    let last : get_or (wide ++ count ∷ []) (length wide) 0 ≡ count = get_or_push wide count 0 (length wide) refl in
    record {
      linked = first.linked;
      many_heads = first.many_heads;
      covered = λ index less. elim (cases_eq index count) [
        | inl same ↦ inr (inr (subst (λ (i : ℕ). IsAmong i (length (wide ++ count ∷ [])) (wide ++ count ∷ [])) (sym same) (among_new wide count)))
        | inr other ↦ elim (first.covered index (omega arith)) [
          | inl one ↦ inl one
          | inr rest ↦ elim rest [ inl watched ↦ inr (inl watched) | inr among ↦ inr (inr (among_kept wide index count among)) ]
        ]
      ];
      wide_within = λ at less. elim (cases_eq at (length wide)) [
        | inl same ↦ (let there : get_or (wide ++ count ∷ []) at 0 ≡ count = ap (λ i. get_or (wide ++ count ∷ []) i 0) same ∙ last in omega arith)
        | inr other ↦ (let old : get_or (wide ++ count ∷ []) at 0 ≡ get_or wide at 0 = get_or_append_left wide (count ∷ []) 0 at (omega arith) in let low = first.wide_within at (omega arith) in omega arith)
      ];
      many_follows = first.many_follows;
      followers = first.followers;
      several = first.several;
      wide_several = λ at default less. elim (cases_eq at (length wide)) [
        | inl same ↦ (let there : get_or (wide ++ count ∷ []) at 0 ≡ count = ap (λ i. get_or (wide ++ count ∷ []) i 0) same ∙ last in
            ap (λ i. has_levels (get_or all i default).size) there ∙ has_several all count row default inside here some)
        | inr other ↦ (let old : get_or (wide ++ count ∷ []) at 0 ≡ get_or wide at 0 = get_or_append_left wide (count ∷ []) 0 at (omega arith) in
            ap (λ i. has_levels (get_or all i default).size) old ∙ first.wide_several at default (omega arith))
      ];
    }

pub entries_more : (all : List Row) (ends rows nodes heads links : List ℕ) (follows : List Bool) (wide rows' nodes' heads' links' : List ℕ) (follows' : List Bool) (count first last : ℕ) (row : Row) → count < length all → row ≡ get_or all count row
    → (top row.size ≡ 0 → ⊥) → ((default : Row) → RowSpans (get_or all count default).size first last) → last < get_or ends first 0
    → HaveMore (length all) count rows nodes rows' nodes' heads' links' → length heads' ≡ length heads → IsMarked follows follows' count
    → IsRun (length all) rows' nodes' follows' (block_of first) (block_of last) (count + 1)
    → FirstWatchers all ends rows nodes heads links follows wide count → FirstWatchers all ends rows' nodes' heads' links' follows' wide (count + 1)
entries_more all ends rows nodes heads links follows wide rows' nodes' heads' links' follows' count first last row inside here some span section more same_heads marked run before =
    let own : (default : Row) → has_levels (get_or all count default).size ≡ true = λ default. has_several all count row default inside here some in
    record {
      linked = more.linked;
      many_heads = same_heads ∙ before.many_heads;
      covered = λ index less. elim (cases_eq index count) [
        | inl same ↦ subst (λ (i : ℕ). IsCovered all ends rows' nodes' follows' wide i) (sym same)
            (inr (inl (record { first = first; last = last; span = span; section = section; entries = run_entries (length all) rows' nodes' follows' (block_of first) (block_of last) count run })))
        | inr other ↦ covered_kept all ends rows nodes rows' nodes' follows follows' wide count index marked (omega arith) more.kept (before.covered index (omega arith))
      ];
      wide_within = before.wide_within;
      many_follows = length-marked follows follows' count marked ∙ before.many_follows;
      followers = followers_more all follows follows' count marked before.followers own;
      several = λ at default less. elim (more.others at less) [
        | inl is ↦ ap (λ i. has_levels (get_or all i default).size) is ∙ own default
        | inr old ↦ ap (λ i. has_levels (get_or all i default).size) old.1 ∙ before.several at default old.0
      ];
      wide_several = before.wide_several;
    }
