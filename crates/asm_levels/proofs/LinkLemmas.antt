-- One more entry, and what the rows before it are covered by.
use Rattle.std.proofs.Common.{◌≡◌, ℕ, ◌+◌, ◌<◌, zero, suc, set, inl, inr, List, [], ◌∷◌, ◌++◌, length, replicate, get_or, refl, ap, sym, ◌∙◌, arith}
use Rattle.std.proofs.lemmas.Bool.{cases_eq}
use Rattle.std.proofs.lemmas.List.{get_or-set_same, get_or-set_other, get_or_push, get_or_append_left, length_push}
use Rattle.asm_levels.specs.RowLists.{IsAmong}
use Rattle.asm_levels.specs.Watching.{IsEntry, AreLinked, HaveMore}

zero_at : (count at : ℕ) → ◌≡◌ {A = ℕ} (get_or (replicate count 0) at 0) 0
zero_at zero at = refl
zero_at (suc count) zero = refl
zero_at (suc count) (suc at) = zero_at count at

-- no entries
pub linked_none : (count many : ℕ) → AreLinked count [] [] (replicate many 0) []
linked_none count many = record {
  many_nodes = refl;
  many_links = refl;
  within = λ at less. absurd (omega arith);
  head_bound = λ node. (let none = zero_at many node in omega arith);
  head_last = λ node at less. absurd (omega arith);
  head_of = λ node some. absurd (let none = zero_at many node in omega arith);
  link_bound = λ at less. absurd (omega arith);
  link_last = λ at other less. absurd (omega arith);
  link_of = λ at less. absurd (omega arith);
}

module _ (count : ℕ) (rows nodes heads links : List ℕ) (node row : ℕ) (linked : AreLinked count rows nodes heads links) (inside : node < length heads) (low : row < count) where
  rows_push : length (rows ++ row ∷ []) ≡ length rows + 1
  rows_push = length_push rows row

  rows_last : get_or (rows ++ row ∷ []) (length rows) 0 ≡ row
  rows_last = get_or_push rows row 0 (length rows) refl

  rows_old : (at : ℕ) → at < length rows → get_or (rows ++ row ∷ []) at 0 ≡ get_or rows at 0
  rows_old at less = get_or_append_left rows (row ∷ []) 0 at less

  nodes_last : get_or (nodes ++ node ∷ []) (length rows) 0 ≡ node
  nodes_last = get_or_push nodes node 0 (length rows) linked.many_nodes

  nodes_old : (at : ℕ) → at < length rows → get_or (nodes ++ node ∷ []) at 0 ≡ get_or nodes at 0
  nodes_old at less = let many = linked.many_nodes in get_or_append_left nodes (node ∷ []) 0 at (omega arith)

  links_last : get_or (links ++ get_or heads node 0 ∷ []) (length rows) 0 ≡ get_or heads node 0
  links_last = get_or_push links (get_or heads node 0) 0 (length rows) linked.many_links

  links_old : (at : ℕ) → at < length rows → get_or (links ++ get_or heads node 0 ∷ []) at 0 ≡ get_or links at 0
  links_old at less = let many = linked.many_links in get_or_append_left links (get_or heads node 0 ∷ []) 0 at (omega arith)

  head_new : get_or (set heads node (length rows + 1)) node 0 ≡ length rows + 1
  head_new = get_or-set_same heads node (length rows + 1) 0 inside

  head_old : (other : ℕ) → (other ≡ node → ⊥) → get_or (set heads node (length rows + 1)) other 0 ≡ get_or heads other 0
  head_old other apart = get_or-set_other heads node other (length rows + 1) 0 apart

  pub linked_more : AreLinked count (rows ++ row ∷ []) (nodes ++ node ∷ []) (set heads node (length rows + 1)) (links ++ get_or heads node 0 ∷ [])
  linked_more = record {
    many_nodes = length_push nodes node ∙ (let many = linked.many_nodes in let long = rows_push in omega arith);
    many_links = length_push links (get_or heads node 0) ∙ (let many = linked.many_links in let long = rows_push in omega arith);
    within = λ at less. elim (cases_eq at (length rows)) [
      | inl same ↦ (let here : get_or (rows ++ row ∷ []) at 0 ≡ row = ap (λ i. get_or (rows ++ row ∷ []) i 0) same ∙ rows_last in omega arith)
      | inr other ↦ (let long = rows_push in let old = rows_old at (omega arith) in let below = linked.within at (omega arith) in omega arith)
    ];
    head_bound = λ one. elim (cases_eq one node) [
      | inl same ↦ (let long = rows_push in let here : get_or (set heads node (length rows + 1)) one 0 ≡ length rows + 1 = ap (λ i. get_or (set heads node (length rows + 1)) i 0) same ∙ head_new in omega arith)
      | inr other ↦ (let long = rows_push in let old = head_old one other in let bound = linked.head_bound one in omega arith)
    ];
    head_last = λ one at less is. elim (cases_eq one node) [
      | inl same ↦ (let long = rows_push in let here : get_or (set heads node (length rows + 1)) one 0 ≡ length rows + 1 = ap (λ i. get_or (set heads node (length rows + 1)) i 0) same ∙ head_new in omega arith)
      | inr other ↦ elim (cases_eq at (length rows)) [
        | inl last ↦ absurd (other (sym is ∙ (ap (λ i. get_or (nodes ++ node ∷ []) i 0) last ∙ nodes_last)))
        | inr before ↦ (let long = rows_push in let old = head_old one other in let there : get_or nodes at 0 ≡ one = sym (nodes_old at (omega arith)) ∙ is in
            let below = linked.head_last one at (omega arith) there in omega arith)
      ]
    ];
    head_of = λ one some at is. elim (cases_eq one node) [
      | inl same ↦ (let here : get_or (set heads node (length rows + 1)) one 0 ≡ length rows + 1 = ap (λ i. get_or (set heads node (length rows + 1)) i 0) same ∙ head_new in
          let last : at ≡ length rows = omega arith in ap (λ i. get_or (nodes ++ node ∷ []) i 0) last ∙ (nodes_last ∙ sym same))
      | inr other ↦ (let old = head_old one other in let bound = linked.head_bound one in let less : at < length rows = omega arith in
          nodes_old at less ∙ linked.head_of one (omega arith) at (omega arith))
    ];
    link_bound = λ at less. elim (cases_eq at (length rows)) [
      | inl same ↦ (let here : get_or (links ++ get_or heads node 0 ∷ []) at 0 ≡ get_or heads node 0 = ap (λ i. get_or (links ++ get_or heads node 0 ∷ []) i 0) same ∙ links_last in
          let bound = linked.head_bound node in omega arith)
      | inr other ↦ (let long = rows_push in let old = links_old at (omega arith) in let bound = linked.link_bound at (omega arith) in omega arith)
    ];
    link_last = λ at other less before is. elim (cases_eq at (length rows)) [
      | inl same ↦ (let here : get_or (links ++ get_or heads node 0 ∷ []) at 0 ≡ get_or heads node 0 = ap (λ i. get_or (links ++ get_or heads node 0 ∷ []) i 0) same ∙ links_last in
          let there : get_or nodes other 0 ≡ node = sym (nodes_old other (omega arith)) ∙ (is ∙ (ap (λ i. get_or (nodes ++ node ∷ []) i 0) same ∙ nodes_last)) in
          let below = linked.head_last node other (omega arith) there in omega arith)
      | inr apart ↦ (let long = rows_push in let old = links_old at (omega arith) in
          let there : get_or nodes other 0 ≡ get_or nodes at 0 = sym (nodes_old other (omega arith)) ∙ (is ∙ nodes_old at (omega arith)) in
          let below = linked.link_last at other (omega arith) before there in omega arith)
    ];
    link_of = λ at less some other is. elim (cases_eq at (length rows)) [
      | inl same ↦ (let here : get_or (links ++ get_or heads node 0 ∷ []) at 0 ≡ get_or heads node 0 = ap (λ i. get_or (links ++ get_or heads node 0 ∷ []) i 0) same ∙ links_last in
          let bound = linked.head_bound node in let less' : other < length rows = omega arith in
          nodes_old other less' ∙ (linked.head_of node (omega arith) other (omega arith) ∙ sym (ap (λ i. get_or (nodes ++ node ∷ []) i 0) same ∙ nodes_last)))
      | inr apart ↦ (let long = rows_push in let low' : at < length rows = omega arith in let old = links_old at low' in let bound = linked.link_bound at low' in let less' : other < length rows = omega arith in
          nodes_old other less' ∙ (linked.link_of at low' (omega arith) other (omega arith) ∙ sym (nodes_old at low')))
    ];
  }

  -- what has an entry keeps it
  pub entry_kept : (index there : ℕ) → IsEntry rows nodes index there → IsEntry (rows ++ row ∷ []) (nodes ++ node ∷ []) index there
  entry_kept index there entry = (entry.0, (let long = rows_push in let less = entry.1 in omega arith), rows_old entry.0 entry.1 ∙ entry.2, nodes_old entry.0 entry.1 ∙ entry.3)

  -- and the new one is there
  pub entry_new : IsEntry (rows ++ row ∷ []) (nodes ++ node ∷ []) row node
  entry_new = (length rows, (let long = rows_push in omega arith), rows_last, nodes_last)

  pub have_more : HaveMore count row rows nodes (rows ++ row ∷ []) (nodes ++ node ∷ []) (set heads node (length rows + 1)) (links ++ get_or heads node 0 ∷ [])
  have_more = record {
    linked = linked_more;
    kept = entry_kept;
    others = λ at less. elim (cases_eq at (length rows)) [
      | inl same ↦ inl (ap (λ i. get_or (rows ++ row ∷ []) i 0) same ∙ rows_last)
      | inr before ↦ (let long = rows_push in let low : at < length rows = omega arith in inr (low, rows_old at low))
    ];
  }

-- no more entries, and more after more
pub more_none : (count row : ℕ) (rows nodes heads links : List ℕ) → AreLinked count rows nodes heads links → HaveMore count row rows nodes rows nodes heads links
more_none count row rows nodes heads links linked = record { linked = linked; kept = λ index node entry. entry; others = λ at less. inr (less, refl) }

pub more_again : (count row : ℕ) (first first_nodes rows nodes heads links later later_nodes later_heads later_links : List ℕ) → HaveMore count row first first_nodes rows nodes heads links
    → HaveMore count row rows nodes later later_nodes later_heads later_links → HaveMore count row first first_nodes later later_nodes later_heads later_links
more_again count row first first_nodes rows nodes heads links later later_nodes later_heads later_links one other = record {
  linked = other.linked;
  kept = λ index node entry. other.kept index node (one.kept index node entry);
  others = λ at less. elim (other.others at less) [
    | inl is ↦ inl is
    | inr old ↦ elim (one.others at old.0) [
      | inl is ↦ inl (old.1 ∙ is)
      | inr older ↦ inr (older.0, old.1 ∙ older.1)
    ]
  ];
}

pub among_kept : (list : List ℕ) (index row : ℕ) → IsAmong index (length list) list → IsAmong index (length (list ++ row ∷ [])) (list ++ row ∷ [])
among_kept list index row among = (among.0, (let long = length_push list row in let less = among.1 in omega arith), get_or_append_left list (row ∷ []) 0 among.0 among.1 ∙ among.2)

pub among_new : (list : List ℕ) (row : ℕ) → IsAmong row (length (list ++ row ∷ [])) (list ++ row ∷ [])
among_new list row = (length list, (let long = length_push list row in omega arith), get_or_push list row 0 (length list) refl)
