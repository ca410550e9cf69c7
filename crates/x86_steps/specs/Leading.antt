-- Where control goes from an instruction by its flow, and that it goes nowhere else.
use Rattle.std.specs.Prelude.{◌≡◌, ◌+◌, ◌⊎◌, ℕ, true, Option, None, option_map}
use Rattle.x86_insn.specs.Views.{Seen, absent, register, immediate, memory, target, View}
use Rattle.insn_effects.specs.Decoding.{action_of}
use Rattle.insn_effects.specs.Flows.{Flow, onward, jumps, calls, through, returns, stops, flow_of}
use Rattle.insn_effects.specs.Followed.{wrap}
use Rattle.x86_steps.specs.States.{State}
use Rattle.x86_steps.specs.Operands.{Is}
use Rattle.x86_steps.specs.Steps.{Does}

-- how far the operand leads, where it is a branch target and that is known
abbrev pub distance_of : Seen → Option ℕ
distance_of absent = None
distance_of (register r) = None
distance_of (immediate n) = None
distance_of (memory a d) = None
distance_of (target d) = d

-- from a place control goes by a jump so far, or on to the next instruction; of a call what it does
-- until it returns is one step
abbrev pub Leads : Flow → Option ℕ → (place next reached : ℕ) → Type 0
Leads onward d place next reached = reached ≡ next
Leads (jumps falls) d place next reached = Is (option_map (λ n. wrap (place + n)) d) reached
    ⊎ ((falls ≡ true) × (reached ≡ next))
Leads calls d place next reached = reached ≡ next
Leads through d place next reached = ⊥
Leads returns d place next reached = ⊥
Leads stops d place next reached = ⊥

-- whatever an instruction does goes where its flow leads
abbrev pub FlowsHold : Type 0
FlowsHold = (v : View) (next : ℕ) (s t : State) → Does (action_of v) next s t
    → Leads (flow_of v) (distance_of v.first) s.place next t.place
