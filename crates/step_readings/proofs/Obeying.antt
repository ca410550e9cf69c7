-- Whatever is read where bytes of an instruction stand obeys it.
use Rattle.std.proofs.Common.{◌≡◌, ℕ, Bool, List, ◌++◌, drop, length, Option, refl, sym, ap, subst, ◌∙◌}
use Rattle.x86_insn.specs.declared.insns.Base.{Base}
use Rattle.x86_insn.specs.declared.insns.Base.TheVariants as base
use Rattle.x86_insn.specs.declared.insns.Insn.{Insn}
use Rattle.x86_insn.specs.declared.insns.Slot.{Slot}
use Rattle.x86_insn.specs.declared.insns.Slot.TheVariants as slot
use Rattle.x86_insn.specs.declared.amounts.Values.{Values}
use Rattle.x86_insn.specs.Views.{Seen, absent, register, immediate, memory, target, View, displaced, seen_at}
use Rattle.x86_table.specs.Reads.{Reads}
use Rattle.x86_encode.specs.Answers.{Fills as FillsCoding}
use Rattle.x86_parts.specs.Codes.{meant}
use Rattle.x86_encode.specs.EncodingLaws.{EncodingsFill}
use Rattle.x86_parts.specs.Filling.{filled}
use Rattle.insn_effects.specs.Decoding.{action_of}
use Rattle.insn_effects.specs.Flows.{flow_of}
use Rattle.x86_steps.specs.States.{State}
use Rattle.x86_steps.specs.Steps.{Does}
use Rattle.x86_steps.specs.Fillings.{Fills, FillsView}
use Rattle.x86_steps.specs.Leading.{distance_of, Leads}
use Rattle.x86_steps.specs.Readings.{Reading, HasReading}
use Rattle.step_readings.specs.Obeying.{Obeys, ReadBytesObey}
use Rattle.step_readings.specs.Filled.{IsNumber, IsPlain, IsPlainView, ViewsArePlain, FilledBytesObey, EncodingsObey}
use Rattle.step_readings.proofs.Given.{Given}
use Rattle.step_readings.proofs.Fillings.{valued_view, view_fills, filled_reads}
use Rattle.step_readings.proofs.Movabs.{meant_acts, meant_flow}

-- numbers change no flow
filled_flow : (wide : Bool) (v w : View) → w.name.0 ≡ v.name.0 → Fills wide v.first w.first → flow_of w ≡ flow_of v
filled_flow wide v w e f = by_first v.first w.first f ∙ ap (λ n. flow_of (with_first n v.first)) e
  where
    with_first : ℕ → Seen → View
    with_first n o = record { name = record { 0 = n }; size = 0; «prefix» = v.«prefix»; first = o; second = absent; third = absent }

    by_first : (o u : Seen) → Fills wide o u → flow_of (with_first w.name.0 u) ≡ flow_of (with_first w.name.0 o)
    by_first absent u f = ap (λ x. flow_of (with_first w.name.0 x)) f
    by_first (register r) u f = ap (λ x. flow_of (with_first w.name.0 x)) f
    by_first (immediate k) u f = ap (λ x. flow_of (with_first w.name.0 x)) f.1
    by_first (memory a k) u f = ap (λ x. flow_of (with_first w.name.0 x)) f.1
    by_first (target k) u f = ap (λ x. flow_of (with_first w.name.0 x)) f.1

-- what does no more than an instruction with some numbers obeys it
obeys : Given → (insn mid : View) (bytes : List ℕ) (r : Reading) → FillsView (meant insn) mid → r.bytes ≡ length bytes → flow_of r.insn ≡ flow_of mid
    → ((next : ℕ) (s t : State) → Does (action_of r.insn) next s t → Does (action_of mid) next s t) → Obeys insn bytes (distance_of mid.first) r
obeys laws insn mid bytes r fills long flow does =
    let mid_flow : flow_of mid ≡ flow_of insn = filled_flow _ (meant insn) mid fills.name fills.first ∙ meant_flow insn in
    record {
      long = long;
      acts = λ next s t range fine d. meant_acts laws insn next s t range fine (laws.covered (meant insn) mid next s t fills (does next s t d));
      flow = flow ∙ mid_flow;
      leads = λ next s t d. subst (λ flow. Leads flow (distance_of mid.first) s.place next t.place) mid_flow (laws.leads mid next s t (does next s t d));
    }

-- bytes that read as an instruction can be read where they stand
can_be_read : (bytes code rest : List ℕ) (place : ℕ) (read : View) → Reads bytes read → drop place code ≡ bytes ++ rest → HasReading code place
can_be_read bytes code rest place read reads stands =
    (record { bytes = length bytes; insn = read }, record { front = bytes; rest = rest; stands = stands; reads = reads; long = refl })

pub read_bytes : Given → ReadBytesObey
read_bytes laws insn read bytes code rest place fills reads stands = record {
  read = can_be_read bytes code rest place read reads stands;
  obeys = λ r h.
      let same = laws.one h.front bytes h.rest rest r.insn read h.reads reads (sym h.stands ∙ stands) in
      obeys laws insn read bytes r fills (sym h.long ∙ ap length same.1) (ap flow_of same.0) (λ next s t d. subst (λ x. Does (action_of x) next s t) same.0 d);
}

pub filled_bytes : Given → FilledBytesObey
filled_bytes laws insn bytes code rest long v w place plain range read stands =
    let named : IsPlainView (meant insn) = record { first = plain.first; second = plain.second; third = plain.third } in
    let found = filled_reads (meant insn) bytes long v w named range read in
    let valued = valued_view long v w (meant insn) in
    record {
      read = can_be_read bytes code rest place found.read found.reads stands;
      obeys = λ r h.
          let same = laws.one h.front bytes h.rest rest r.insn found.read h.reads found.reads (sym h.stands ∙ stands) in
          obeys laws insn valued bytes r (view_fills long v w (meant insn) named) (sym h.long ∙ ap length same.1)
          (ap flow_of same.0 ∙ filled_flow _ valued found.read found.fills.name found.fills.first)
          (λ next s t d. laws.covered valued found.read next s t found.fills (subst (λ x. Does (action_of x) next s t) same.0 d));
    }

pub encodings : Given → EncodingsFill → EncodingsObey
encodings laws fill shape values made code rest v w place plain range is held_v held_w stands =
    let read = subst (FillsCoding (meant (shape values))) is (fill shape values) in
    filled_bytes laws (shape values) (filled made.immediate w (filled made.displacement v made.bytes)) code rest (length made.bytes) v w place plain range
    (read.0, read.1, read.2 v w held_v held_w) stands

-- an address from rip is not known
displaced_again : (b : Base) (d : Option ℕ) → displaced b (displaced b d) ≡ displaced b d
displaced_again base.Absent d = refl
displaced_again base.Rip d = refl
displaced_again (base.Of n) d = refl

seen_plain : (insn : Insn) (values : Values) (o : Slot) → IsNumber values.immediate → IsPlain (seen_at insn values o)
seen_plain insn values slot.Absent n = tt
seen_plain insn values (slot.Register r) n = tt
seen_plain insn values slot.Immediate n = n
seen_plain insn values slot.Memory n = displaced_again insn.address.base values.displacement
seen_plain insn values slot.Target n = refl

pub plain : ViewsArePlain
plain insn values n = record { first = seen_plain insn values insn.first n; second = seen_plain insn values insn.second n; third = seen_plain insn values insn.third n }
