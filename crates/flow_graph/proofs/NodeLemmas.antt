-- The successors of the nodes of a function: its items.
use Rattle.std.proofs.Common.{◌≡◌, ◌<◌, ℕ, zero, suc, ◌+◌, Bool, true, false, ◌==◌, ◌&&◌, not, List, [], ◌∷◌, length, Option, None, Some, refl, sym, ap, ◌∙◌, subst, inl, inr, ◌⊎◌, arith}
use Rattle.std.specs.Prelude.{slice_get, nat_lt, option_map, Contains, if◌then◌else◌}
use Rattle.std.proofs.lemmas.List.{length-map}
use Rattle.std.proofs.lemmas.Option.{slice_get-map}
use Rattle.std.proofs.lemmas.Bool.Decides.{nat_tests}
use Rattle.asm_frags.specs.declared.fields.Field.{Field}
use Rattle.asm_symbols.specs.SymbolMap.{SymbolMap}
use Rattle.insn_effects.specs.Flows.{Flow, onward, jumps, calls, through, returns, stops}
use Rattle.insn_effects.specs.Followed.{flow_by}
use Rattle.code_functions.specs.declared.items.CodeItem.{CodeItem}
use Rattle.flow_graph.specs.declared.nodes.Node.{Node}
use Rattle.flow_graph.specs.declared.targets.Target.{Target}
use Rattle.flow_graph.specs.declared.targets.Target.TheVariants.{Inside, Outside, Unknown}
use Rattle.flow_graph.specs.Nodes.{jump_node, call_node, node_by, node_of, item_target, nodes_of}
use Rattle.flow_graph.specs.Walks.{next_of, successors_by, successors_at, successors, IsInside}
use Rattle.flow_graph.proofs.TargetLemmas.{IsTargetIn, target_in}

-- what a list of at most one element, or of one and such a list, contains
contains_none : {X : Type 0} → (x : X) → Contains [] x → ⊥
contains_none x found = omega (arith, found.1)

-- a list that has one element or none contains that alone
contains_next : (test : Bool) (next other : ℕ) → Contains (if test then next ∷ [] else []) other → (other ≡ next) × (test ≡ true)
contains_next true next other (zero, within, is) = (sym is, refl)
contains_next true next other (suc k, within, is) = absurd (omega arith)
contains_next false next other found = absurd (contains_none other found)

-- a list contains its first element, or the rest of it does
contains_first : (first : ℕ) (rest : List ℕ) (other : ℕ) → Contains (first ∷ rest) other → (other ≡ first) ⊎ Contains rest other
contains_first first rest other (zero, within, is) = inl (sym is)
contains_first first rest other (suc k, within, is) = inr (k, omega arith, is)

-- both tests are true
and_parts : (a b : Bool) → (a && b) ≡ true → (a ≡ true) × (b ≡ true)
and_parts true b is = (refl, is)
and_parts false b is = cc

-- the next item is there
next_is : (falls : Bool) (count item other : ℕ) → Contains (next_of falls count item) other → (other ≡ item + 1) × (item + 1 < count)
next_is falls count item other found =
    let it = contains_next (falls && nat_lt (item + 1) count) (item + 1) other found in
    let test : nat_lt (item + 1) count ≡ true = (and_parts falls (nat_lt (item + 1) count) it.1).1 in
    (it.0, grind (arith, nat_tests))

-- a successor is the target or the next item
reached_by : (target : Option ℕ) (falls : Bool) (count item other : ℕ) → Contains (successors_by target falls count item) other
    → (target ≡ Some other) ⊎ ((other ≡ item + 1) × (item + 1 < count))
reached_by None falls count item other found = inr (next_is falls count item other found)
reached_by (Some target) falls count item other found =
    elim (contains_first target (next_of (falls && not (target == item + 1)) count item) other found) [
      | inl first ↦ inl (ap (λ (n : ℕ). Some n) (sym first))
      | inr rest ↦ inr (next_is (falls && not (target == item + 1)) count item other rest)
    ]

-- the same of the node that is found
pub reached_at : (found : Option Node) (count item other : ℕ) → Contains (successors_at found count item) other
    → ((node : Node) × (found ≡ Some node) × (node.target ≡ Some other)) ⊎ ((other ≡ item + 1) × (item + 1 < count))
reached_at None count item other found = absurd (contains_none other found)
reached_at (Some node) count item other found =
    elim (reached_by node.target node.falls count item other found) [
      | inl target ↦ inl (node, refl, target)
      | inr next ↦ inr next
    ]

-- a node has a target where it is a direct jump inside
jump_target : (falls : Bool) (target : Target) (other : ℕ) → (jump_node falls target).target ≡ Some other → (preemptible : Bool) × (target ≡ Inside other preemptible)
jump_target falls (Inside item preemptible) other is = (preemptible, ap (λ (n : ℕ). Inside n preemptible) (cc))
jump_target falls Outside other is = absurd (cc)
jump_target falls Unknown other is = absurd (cc)

-- a call has none
call_target : (target : Target) (other : ℕ) → (call_node target).target ≡ Some other → ⊥
call_target (Inside item preemptible) other is = cc
call_target Outside other is = cc
call_target Unknown other is = cc

-- so its item is such a jump
pub target_by : (flow : Flow) (target : Target) (other : ℕ) → (node_by flow target).target ≡ Some other
    → (falls : Bool) × (preemptible : Bool) × (flow ≡ jumps falls) × (target ≡ Inside other preemptible)
target_by onward target other is = absurd (cc)
target_by (jumps falls) target other is =
    let it = jump_target falls target other is in
    (falls, it.0, refl, it.1)
target_by calls target other is = absurd (call_target target other is)
target_by through target other is = absurd (cc)
target_by returns target other is = absurd (cc)
target_by stops target other is = absurd (cc)

module _ (symbols : SymbolMap) (section : ℕ) (fields : List Field) (items : List CodeItem) where
  -- the node of this number is that of an item
  pub node_there : (item : ℕ) → slice_get (nodes_of symbols section fields items) item ≡ option_map (node_of symbols section fields items) (slice_get items item)
  unfolding nodes_of
  node_there item = slice_get-map (node_of symbols section fields items) items item

  -- there are as many nodes as items
  pub nodes_long : length (nodes_of symbols section fields items) ≡ length items
  unfolding nodes_of
  nodes_long = length-map items (node_of symbols section fields items)

  pub record OfItem (item : ℕ) (node : Node) : Type 0 where
    pub code : CodeItem
    pub there : slice_get items item ≡ Some code
    pub node_is : node ≡ node_of symbols section fields items code

  -- a node that is found is that of an item
  of_item : (item : ℕ) (node : Node) (found : Option CodeItem) → slice_get items item ≡ found → option_map (node_of symbols section fields items) found ≡ Some node → OfItem item node
  of_item item node None found_is is = absurd (cc)
  of_item item node (Some code) found_is is = record { code = code; there = found_is; node_is = cc }

  pub node_of_item : (item : ℕ) (node : Node) → slice_get (nodes_of symbols section fields items) item ≡ Some node → OfItem item node
  node_of_item item node is = of_item item node (slice_get items item) refl (sym (node_there item) ∙ is)

  -- each successor is an item
  pub nodes_inside : IsInside (nodes_of symbols section fields items)
  unfolding successors
  nodes_inside item other found =
      elim (reached_at (slice_get (nodes_of symbols section fields items) item) (length (nodes_of symbols section fields items)) item other found) [
        | inl target ↦
            let it = node_of_item item target.0 target.1 in
            let reached = target_by (flow_by it.code.effect.role) (item_target symbols section fields items it.code) other
            (ap (λ (node : Node). node.target) (sym it.node_is) ∙ target.2) in
            let inside : IsTargetIn (length items) (Inside other reached.1) =
            subst (IsTargetIn (length items)) reached.3 (target_in section items symbols fields it.code) in
            subst (λ (n : ℕ). other < n) (sym nodes_long) inside
        | inr next ↦ omega (arith, next.0, next.1)
      ]
