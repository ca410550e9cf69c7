-- What obeys the instruction of an item does what the item may do.
use Rattle.std.proofs.Common.{◌≡◌, ℕ, ◌+◌, Bool, true, false, List, Option, option_map, refl, sym, ap, subst, inl, inr, ◌∙◌}
use Rattle.x86_insn.specs.Views.{View}
use Rattle.insn_effects.specs.Decoding.{action_of}
use Rattle.insn_effects.specs.Effects.{effect_of}
use Rattle.insn_effects.specs.Flows.{Flow, onward, jumps, calls, through, returns, stops, flow_of}
use Rattle.insn_effects.specs.Followed.{wrap, followed_by}
use Rattle.code_functions.specs.declared.items.CodeItem.{CodeItem}
use Rattle.flow_graph.specs.declared.nodes.Node.{Node}
use Rattle.flow_graph.specs.declared.targets.Target.{Target}
use Rattle.flow_graph.specs.declared.targets.Target.TheVariants.{Inside, Outside, Unknown}
use Rattle.flow_graph.specs.Nodes.{node_by}
use Rattle.x86_steps.specs.States.{State, IsRanged}
use Rattle.x86_steps.specs.Steps.{Does}
use Rattle.x86_steps.specs.Operands.{Is}
use Rattle.x86_steps.specs.Leading.{Leads}
use Rattle.x86_steps.specs.Readings.{Reading}
use Rattle.step_readings.specs.Obeying.{Obeys}
use Rattle.scfi_laws.specs.Performing.{Performs, EffectsAreFollowed}
use Rattle.scfi_laws.specs.Laid.{IsTarget, Arrives, IsTraced}
use Rattle.item_readings.specs.Items.{IsItemOf, LeadsTo, LeadsInside, InstructionsAreCovered}

-- where a jump leads to the target, control arrives
by_distance : (starts : ℕ → ℕ) (place reached : ℕ) (distance : Option ℕ) (node : Node) → LeadsTo starts place distance node
    → Is (option_map (λ n. wrap (place + n)) distance) reached → IsTarget starts node.target reached
by_distance starts place reached distance node to is =
    let there : reached ≡ wrap (place + to.by) = subst (λ d. Is (option_map (λ n. wrap (place + n)) d) reached) to.distance_is is in
    subst (λ target. IsTarget starts target reached) (sym to.target) (there ∙ to.there)

-- a jump that may go on has a node that does, where its target is known
jump_falls : (falls : Bool) (target : Target) (node : Node) → node ≡ node_by (jumps falls) target → node.untraced ≡ false → falls ≡ true → node.falls ≡ true
jump_falls falls (Inside item preemptible) node is known goes = ap (λ n. n.falls) is ∙ goes
jump_falls falls Outside node is known goes = ap (λ n. n.falls) is ∙ goes
jump_falls falls Unknown node is known goes = absurd (clash (sym (ap (λ n. n.untraced) is) ∙ known))
  where
    clash : true ≡ false → ⊥
    clash e = cc

call_falls : (target : Target) → (node_by calls target).falls ≡ true
call_falls (Inside item preemptible) = refl
call_falls Outside = refl
call_falls Unknown = refl

arrives : (flow : Flow) (target : Target) (node : Node) (starts : ℕ → ℕ) (place next reached : ℕ) (distance : Option ℕ) → node ≡ node_by flow target
    → node.untraced ≡ false → LeadsInside flow starts place distance node → Leads flow distance place next reached → Arrives starts node next reached
arrives onward target node starts place next reached d is known inside led = inr (ap (λ n. n.falls) is, led)
arrives (jumps falls) target node starts place next reached d is known inside (inl far) = inl (by_distance starts place reached d node inside far)
arrives (jumps falls) target node starts place next reached d is known inside (inr near) = inr (jump_falls falls target node is known near.0, near.1)
arrives calls target node starts place next reached d is known inside led = inr (ap (λ n. n.falls) is ∙ call_falls target, led)
arrives through target node starts place next reached d is known inside led = absurd led
arrives returns target node starts place next reached d is known inside led = absurd led
arrives stops target node starts place next reached d is known inside led = absurd led

performs : EffectsAreFollowed → (insn : View) (item : CodeItem) (node : Node) (bytes : List ℕ) (d : Option ℕ) (r : Reading) → IsItemOf insn item node
    → Obeys insn bytes d r → (next : ℕ) (s t : State) → IsTraced item node → IsRanged s → Does (action_of r.insn) next s t
    → Performs (followed_by item.effect) s t
performs law insn item node bytes d r is obeys next s t traced range does =
    subst (λ e. Performs e s t) (sym is.shows.effect)
    (law (effect_of (action_of insn)) s t (obeys.acts next s t range (sym is.shows.supported ∙ traced.usage) does))

pub covers : EffectsAreFollowed → InstructionsAreCovered
covers law insn item node starts place bytes distance r is obeys = record {
  inside = λ inside. record {
    bytes = obeys.long;
    covers = λ s t traced here range does stays. record {
      arrives = arrives (flow_of insn) is.target node starts place (place + r.bytes) t.place distance is.node_is traced.target inside
          (subst (λ p. Leads (flow_of insn) distance p (place + r.bytes) t.place) here (obeys.leads (place + r.bytes) s t does));
      performs = performs law insn item node bytes distance r is obeys (place + r.bytes) s t traced range does;
    };
  };
  directed = record {
    bytes = obeys.long;
    covers = λ s t traced here range does stays. record {
      arrives = stays;
      performs = performs law insn item node bytes distance r is obeys (place + r.bytes) s t traced range does;
    };
  };
}
