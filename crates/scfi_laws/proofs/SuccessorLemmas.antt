-- The successors of an item: its target, and the next item.
use Rattle.std.proofs.Common.{◌≡◌, ◌+◌, ◌<◌, ◌==◌, ◌&&◌, not, ℕ, zero, suc, nat_lt, Bool, true, false, cond, List, [], ◌∷◌, length, Contains, Option, Some, None, slice_get, refl, sym, ap, subst, arith}
use Rattle.std.proofs.lemmas.Bool.Decides.{nat_tests}
use Rattle.flow_graph.specs.declared.nodes.Node.{Node}
use Rattle.flow_graph.specs.Walks.{next_of, successors_by, successors_at, successors}

-- a list has its first element, and those of the rest
contains_first : (x : ℕ) (xs : List ℕ) → Contains (x ∷ xs) x
contains_first x xs = (zero, omega arith, refl)

contains_rest : (x y : ℕ) (xs : List ℕ) → Contains xs y → Contains (x ∷ xs) y
contains_rest x y xs (k, low, is) = (suc k, omega arith, is)

next_there : (test : Bool) (next : ℕ) → test ≡ true → Contains (cond test (next ∷ []) []) next
next_there true next is = contains_first next []
next_there false next is = cc

-- both tests
both_true : (a b : Bool) → a ≡ true → b ≡ true → (a && b) ≡ true
both_true true b is also = also
both_true false b is also = is

next_by : (target : Option ℕ) (falls : Bool) (count item : ℕ) → falls ≡ true → item + 1 < count → Contains (successors_by target falls count item) (item + 1)
next_by None falls count item is low =
    let test : nat_lt (item + 1) count ≡ true = grind (arith, nat_tests) in
    next_there (falls && nat_lt (item + 1) count) (item + 1) (both_true falls (nat_lt (item + 1) count) is test)
next_by (Some k) falls count item is low = by (k == item + 1) refl
  where
    Next : Bool → Type 0
    Next b = Contains (k ∷ next_of (falls && not b) count item) (item + 1)

    by : (b : Bool) → (k == item + 1) ≡ b → Next (k == item + 1)
    by true same =
        let own : k ≡ item + 1 = grind (arith, nat_tests) in
        subst (λ n. Contains (k ∷ next_of (falls && not (k == item + 1)) count item) n) own (contains_first k (next_of (falls && not (k == item + 1)) count item))
    by false other =
        let test : nat_lt (item + 1) count ≡ true = grind (arith, nat_tests) in
        let apart : not (k == item + 1) ≡ true = ap not other in
        contains_rest k (item + 1) (next_of (falls && not (k == item + 1)) count item)
        (next_there ((falls && not (k == item + 1)) && nat_lt (item + 1) count) (item + 1)
        (both_true (falls && not (k == item + 1)) (nat_lt (item + 1) count) (both_true falls (not (k == item + 1)) is apart) test))

target_by : (target : Option ℕ) (falls : Bool) (count item other : ℕ) → target ≡ Some other → Contains (successors_by target falls count item) other
target_by None falls count item other is = absurd (let none : ⊥ = cc in none)
target_by (Some k) falls count item other is =
    let own : k ≡ other = cc in
    subst (λ n. Contains (k ∷ next_of (falls && not (k == item + 1)) count item) n) own (contains_first k (next_of (falls && not (k == item + 1)) count item))

-- the target of an item's node is a successor
pub target_next : (nodes : List Node) (item other : ℕ) (node : Node) → slice_get nodes item ≡ Some node → node.target ≡ Some other → Contains (successors nodes item) other
unfolding successors
target_next nodes item other node there is =
    subst (λ o. Contains (successors_at o (length nodes) item) other) (sym there) (target_by node.target node.falls (length nodes) item other is)

-- so is the next item, where its node falls
pub falls_next : (nodes : List Node) (item : ℕ) (node : Node) → slice_get nodes item ≡ Some node → node.falls ≡ true → item + 1 < length nodes → Contains (successors nodes item) (item + 1)
unfolding successors
falls_next nodes item node there is low =
    subst (λ o. Contains (successors_at o (length nodes) item) (item + 1)) (sym there) (next_by node.target node.falls (length nodes) item is low)
