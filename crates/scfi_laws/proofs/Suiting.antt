-- The nodes of a function's graph suit its items, and jumps that are no exits are plain.
use Rattle.std.proofs.Common.{◌≡◌, ℕ, true, false, None, slice_get, refl, sym, ap, ◌∙◌}
use Rattle.insn_effects.specs.declared.effects.Role.{Role}
use Rattle.insn_effects.specs.declared.effects.Role.TheVariants as role
use Rattle.insn_effects.specs.Flows.{onward, jumps, stops}
use Rattle.insn_effects.specs.Followed.{flow_by, calls_by, is_padding, is_data}
use Rattle.flow_graph.specs.declared.targets.Target.{Target}
use Rattle.flow_graph.specs.declared.targets.Target.TheVariants.{Inside, Outside, Unknown}
use Rattle.flow_graph.specs.Nodes.{call_node, node_by}
use Rattle.flow_graph.specs.Worked.{code_to}
use Rattle.scfi_laws.specs.Laid.{Kind, plain, directed, padding, inert, Fits}
use Rattle.scfi_laws.specs.LaidLaws.{NodesSuitItems, InnerJumpsArePlain, LoopsArePlain}

no_call : {A : Type 0} → false ≡ true → A
no_call e = absurd (let none : ⊥ = cc in none)

called_target : (target : Target) → (call_node target).target ≡ None
called_target (Inside item preemptible) = refl
called_target Outside = refl
called_target Unknown = refl

called_falls : (target : Target) → (call_node target).falls ≡ true
called_falls (Inside item preemptible) = refl
called_falls Outside = refl
called_falls Unknown = refl

targets : (own : Role) (target : Target) → calls_by own ≡ true → (node_by (flow_by own) target).target ≡ None
targets role.Call target is = called_target target
targets role.CallThrough target is = refl
targets own target is = no_call is

falls : (own : Role) (target : Target) → calls_by own ≡ true → (node_by (flow_by own) target).falls ≡ true
falls role.Call target is = called_falls target
falls role.CallThrough target is = refl
falls own target is = no_call is

pads : (own : Role) (target : Target) → is_padding own ≡ true → (node_by (flow_by own) target).falls ≡ true
pads role.Padding target is = refl
pads own target is = no_call is

pub nodes_suit_items : NodesSuitItems
nodes_suit_items item target = record {
  target = targets item.effect.role target;
  called = falls item.effect.role target;
  padded = pads item.effect.role target;
}

-- padding goes on, and data stop: neither jumps
padding_onward : (own : Role) → is_padding own ≡ true → flow_by own ≡ onward
padding_onward role.Padding is = refl
padding_onward own is = no_call is

data_stop : (own : Role) → is_data own ≡ true → flow_by own ≡ stops
data_stop role.Data is = refl
data_stop own is = no_call is

pub inner_jumps_are_plain : InnerJumpsArePlain
inner_jumps_are_plain a kinds starts code i item node falls laid there known jumps_there stays =
    by (kinds i) refl (laid.fits i item node there known)
  where
    by : (kind : Kind) → kinds i ≡ kind → Fits kind item node → (n : ℕ) × (kinds i ≡ plain n)
    by (plain n) is fits = (n, is)
    by (directed n) is fits = absurd (let out = fits.1.exits in let none : ⊥ = cc in none)
    by (padding lengths) is fits =
        absurd (let goes : onward ≡ jumps falls = sym (padding_onward item.effect.role fits.0) ∙ jumps_there in let none : ⊥ = cc in none)
    by (inert n) is fits =
        absurd (let goes : stops ≡ jumps falls = sym (data_stop item.effect.role fits) ∙ jumps_there in let none : ⊥ = cc in none)

pub loops_are_plain : LoopsArePlain
loops_are_plain a kinds starts code items nodes laid =
    inner_jumps_are_plain a kinds starts code 1 (code_to role.Jump 0 1 0) (node_by (jumps false) (Inside 0 false)) false laid
    (ap (λ x. slice_get x 1) items) (ap (λ x. slice_get x 1) nodes) refl refl
