-- Where control goes from each kind of item.
use Rattle.std.proofs.Common.{◌≡◌, ◌≢◌, ℕ, ◌+◌, Bool, true, false, ◌==◌, ◌&&◌, not, List, ◌∷◌, length, Option, Some, sym, ap, ◌∙◌, subst, inl, inr, ◌⊎◌, arith}
use Rattle.std.specs.Prelude.{slice_get, option_map, Contains}
use Rattle.std.proofs.lemmas.Bool.Decides.{nat_tests}
use Rattle.asm_frags.specs.declared.fields.Field.{Field}
use Rattle.asm_symbols.specs.SymbolMap.{SymbolMap}
use Rattle.insn_effects.specs.Flows.{Flow, onward, jumps, calls, through, returns, stops}
use Rattle.insn_effects.specs.Followed.{flow_by}
use Rattle.code_functions.specs.declared.items.CodeItem.{CodeItem}
use Rattle.flow_graph.specs.declared.nodes.Node.{Node}
use Rattle.flow_graph.specs.declared.targets.Target.{Target}
use Rattle.flow_graph.specs.declared.targets.Target.TheVariants.{Inside, Outside, Unknown}
use Rattle.flow_graph.specs.Nodes.{node_by, node_of, item_target, nodes_of}
use Rattle.flow_graph.specs.Walks.{next_of, successors_by, successors_at, successors}
use Rattle.flow_graph.specs.Rules.{Goes, GoesTo, next_item, ControlGoes, IsTold, TellsOf, AreItems}
use Rattle.flow_graph.proofs.NodeLemmas.{reached_at, target_by, node_there, nodes_long, node_of_item, nodes_inside}

-- tests of two numbers
no_equal : (a b : ℕ) → a ≢ b → (a == b) ≡ false
no_equal a b away = grind (arith, nat_tests)

equal_self : (a : ℕ) → (a == a) ≡ true
equal_self a = grind (arith, nat_tests)

module _ (symbols : SymbolMap) (section : ℕ) (fields : List Field) (items : List CodeItem) where
  -- the node of an item that goes so
  goes_node : (item : ℕ) (flow : Flow) (target : Target) → Goes symbols section fields items item flow target
      → slice_get (nodes_of symbols section fields items) item ≡ Some (node_by flow target)
  goes_node item flow target goes =
      node_there symbols section fields items item
      ∙ ap (option_map (node_of symbols section fields items)) goes.there
      ∙ ap (λ (f : Flow). Some (node_by f (item_target symbols section fields items goes.code))) goes.flow_is
      ∙ ap (λ (t : Target). Some (node_by flow t)) goes.target_is

  -- its successors, and whether it is an exit
  goes_to : (item : ℕ) (flow : Flow) (target : Target) → Goes symbols section fields items item flow target
      → GoesTo symbols section fields items item (successors_by (node_by flow target).target (node_by flow target).falls (length items) item) (node_by flow target).exits
  unfolding successors
  goes_to item flow target goes = record {
    others_are = ap (λ (o : Option Node). successors_at o (length (nodes_of symbols section fields items)) item) (goes_node item flow target goes)
        ∙ ap (λ (n : ℕ). successors_by (node_by flow target).target (node_by flow target).falls n item) (nodes_long symbols section fields items);
    exits_is = ap (option_map (λ node. node.exits)) (goes_node item flow target goes);
  }

  -- the same, where the target is another one
  goes_at : (item : ℕ) (flow : Flow) (target other : Target) → target ≡ other → Goes symbols section fields items item flow target
      → GoesTo symbols section fields items item (successors_by (node_by flow other).target (node_by flow other).falls (length items) item) (node_by flow other).exits
  goes_at item flow target other is goes =
      goes_to item flow other (subst (Goes symbols section fields items item flow) is goes)

  -- where control goes from each kind of item
  pub control : (item : ℕ) (target : Target) → ControlGoes symbols section fields items item target
  control item target = record {
    on = goes_to item onward target;
    called = λ goes. by_call target goes;
    returned = goes_to item returns target;
    stopped = goes_to item stops target;
    through_other = goes_to item through target;
    jumped = λ label preemptible is goes. goes_at item (jumps false) target (Inside label preemptible) is goes;
    branched = λ label preemptible is away goes.
        subst (λ (b : Bool). GoesTo symbols section fields items item (label ∷ next_of (true && not b) (length items) item) preemptible)
        (no_equal label (item + 1) away) (goes_at item (jumps true) target (Inside label preemptible) is goes);
    branched_on = λ preemptible is goes.
        subst (λ (b : Bool). GoesTo symbols section fields items item ((item + 1) ∷ next_of (true && not b) (length items) item) preemptible)
        (equal_self (item + 1)) (goes_at item (jumps true) target (Inside (item + 1) preemptible) is goes);
    jumped_out = λ is goes. goes_at item (jumps false) target Outside is goes;
    branched_out = λ is goes. goes_at item (jumps true) target Outside is goes;
    jumped_anywhere = λ falls is goes. goes_at item (jumps falls) target Unknown is goes;
  }
    where
      -- a call goes on, whatever it calls
      by_call : (target : Target) → Goes symbols section fields items item calls target
          → GoesTo symbols section fields items item (next_item symbols section fields items item) false
      by_call (Inside label preemptible) goes = goes_to item calls (Inside label preemptible) goes
      by_call Outside goes = goes_to item calls Outside goes
      by_call Unknown goes = goes_to item calls Unknown goes

  -- whether it is untraced, and calls inside
  told : (item : ℕ) (flow : Flow) (target : Target) → Goes symbols section fields items item flow target
      → IsTold symbols section fields items item (node_by flow target).untraced (node_by flow target).calls_inside
  told item flow target goes = record {
    untraced_is = ap (option_map (λ node. node.untraced)) (goes_node item flow target goes);
    calls_is = ap (option_map (λ node. node.calls_inside)) (goes_node item flow target goes);
  }

  -- the same, where the target is another one
  told_at : (item : ℕ) (flow : Flow) (target other : Target) → target ≡ other → Goes symbols section fields items item flow target
      → IsTold symbols section fields items item (node_by flow other).untraced (node_by flow other).calls_inside
  told_at item flow target other is goes = told item flow other (subst (Goes symbols section fields items item flow) is goes)

  -- what is told of each kind of item
  pub tells : (item : ℕ) (target : Target) → TellsOf symbols section fields items item target
  tells item target = record {
    through_other = told item through target;
    jumped_anywhere = λ falls is goes. told_at item (jumps falls) target Unknown is goes;
    called_anything = λ is goes. told_at item calls target Unknown is goes;
    called_inside = λ label preemptible is away goes.
        subst (λ (b : Bool). IsTold symbols section fields items item false (not b)) (no_equal label 0 away)
        (told_at item calls target (Inside label preemptible) is goes);
    called_start = λ preemptible is goes. told_at item calls target (Inside 0 preemptible) is goes;
    called_out = λ is goes. told_at item calls target Outside is goes;
    jumped = λ falls label preemptible is goes. told_at item (jumps falls) target (Inside label preemptible) is goes;
    jumped_out = λ falls is goes. told_at item (jumps falls) target Outside is goes;
    on = told item onward target;
    returned = told item returns target;
    stopped = told item stops target;
  }

  -- successors are the targets of jumps, and next items
  pub reached : AreItems symbols section fields items
  unfolding successors
  reached = record { inside = nodes_inside symbols section fields items; reached = each }
    where
      each : (item other : ℕ) → Contains (successors (nodes_of symbols section fields items) item) other
          → (other ≡ item + 1) ⊎ ((falls : Bool) × (preemptible : Bool) × Goes symbols section fields items item (jumps falls) (Inside other preemptible))
      each item other found =
          elim (reached_at (slice_get (nodes_of symbols section fields items) item) (length (nodes_of symbols section fields items)) item other found) [
            | inl target ↦
                let it = node_of_item symbols section fields items item target.0 target.1 in
                let jump = target_by (flow_by it.code.effect.role) (item_target symbols section fields items it.code) other
                (ap (λ (node : Node). node.target) (sym it.node_is) ∙ target.2) in
                inr (jump.0, jump.1, record { code = it.code; there = it.there; flow_is = jump.2; target_is = jump.3 })
            | inr next ↦ inl next.0
          ]
