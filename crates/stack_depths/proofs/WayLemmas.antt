use Rattle.std.proofs.Common.{◌≡◌, ℕ, zero, suc, ◌<◌, ◌≤◌, ◌⊎◌, inl, inr, List, [], ◌∷◌, length, get_or, Contains, refl, sym, ap, subst, arith, ◌∙◌}
use Rattle.std.proofs.lemmas.Bool.{cases_lt}
use Rattle.std.proofs.lemmas.Option.{slice_get_past}
use Rattle.std.proofs.lemmas.List.FromFn.{length-map-range_with_len, get_or-map-range_with_len}
use Rattle.flow_graph.specs.declared.nodes.Node.{Node}
use Rattle.flow_graph.specs.Walks.{successors, successors_at, successor_lists, IsWalk, IsInside}
use Rattle.work_lists.specs.Graphs as lists

-- there are as many lists of successors as nodes
pub count_of : (nodes : List Node) → length (successor_lists nodes) ≡ length nodes
unfolding successor_lists
count_of nodes = length-map-range_with_len (successors nodes) 0 (length nodes)

-- behind the last item there is no list
past : (rows : List (List ℕ)) (i : ℕ) → length rows ≤ i → get_or rows i [] ≡ []
past [] i h = refl
past (x ∷ rows) zero h = absurd (omega arith)
past (x ∷ rows) (suc i) h = past rows i (omega arith)

-- nor are there successors
none_past : (nodes : List Node) (i : ℕ) → length nodes ≤ i → successors nodes i ≡ []
unfolding successors
none_past nodes i h = ap (λ o. successors_at o (length nodes) i) (slice_get_past nodes i h)

-- the list of an item
row_here : (nodes : List Node) (i : ℕ) → i < length nodes → lists.row (successor_lists nodes) i ≡ successors nodes i
unfolding successor_lists
row_here nodes i h = get_or-map-range_with_len (successors nodes) 0 (length nodes) i i [] h (omega arith)

-- each list has the successors of its item
pub row_of : (nodes : List Node) (i : ℕ) → lists.row (successor_lists nodes) i ≡ successors nodes i
row_of nodes i = by_place (cases_lt i (length nodes))
  where
    by_place : (i < length nodes) ⊎ (length nodes ≤ i) → lists.row (successor_lists nodes) i ≡ successors nodes i
    by_place (inl h) = row_here nodes i h
    by_place (inr h) = let n = count_of nodes in past (successor_lists nodes) i (omega arith) ∙ sym (none_past nodes i h)

-- a walk along nodes is one along the lists
pub listed : (nodes : List Node) (w : List ℕ) (j : ℕ) → IsWalk nodes w j → lists.IsWalk (successor_lists nodes) w j
listed nodes [] j h = h.0
listed nodes (i ∷ w) j h = let P : List ℕ → Type 0 = λ row. Contains row j in (subst P (sym (row_of nodes i)) h.0, listed nodes w i h.1)

-- and the other way
pub unlisted : (nodes : List Node) (w : List ℕ) (j : ℕ) → 0 < length nodes → lists.IsWalk (successor_lists nodes) w j → IsWalk nodes w j
unlisted nodes [] j some h = (h, some)
unlisted nodes (i ∷ w) j some h = let P : List ℕ → Type 0 = λ row. Contains row j in (subst P (row_of nodes i) h.0, unlisted nodes w i some h.1)

-- each list has items alone
pub inside_lists : (nodes : List Node) → IsInside nodes → lists.IsInside (successor_lists nodes)
inside_lists nodes inside i j h =
    let P : List ℕ → Type 0 = λ row. Contains row j in
    let u = inside i j (subst P (row_of nodes i) h) in
    let n = count_of nodes in
    omega arith

-- no walk leads through a function without items
pub no_walks : (nodes : List Node) (w : List ℕ) (j : ℕ) → length nodes ≡ 0 → IsWalk nodes w j → ⊥
no_walks nodes [] j none h = let some = h.1 in absurd (omega arith)
no_walks nodes (i ∷ w) j none h = no_walks nodes w i none h.1
