-- What `movabs` does is of the effect of the `mov` that is written as it.
use Rattle.std.proofs.Common.{◌≡◌, ℕ, ◌==◌, ◌&&◌, ◌||◌, Bool, true, false, cond, Some, None, refl, sym, ap, subst, arith}
use Rattle.std.proofs.lemmas.Bool.Decides.{nat_tests}
use Rattle.x86_insn.specs.declared.registers.Class.{Class}
use Rattle.x86_insn.specs.declared.registers.Class.TheVariants as class
use Rattle.x86_insn.specs.declared.insns.Prefix.{Prefix}
use Rattle.x86_insn.specs.Views.{Seen, absent, register, immediate, memory, target, View}
use Rattle.x86_lookup.specs.Writing.{is_repeat}
use Rattle.x86_table.specs.declared.mnemonics.integers.TheConstants.{MOV, MOVABS}
use Rattle.x86_table.specs.Rows.{the_rows}
use Rattle.x86_parts.specs.Codes.{class_number, is_quad, is_wide, meant}
use Rattle.insn_effects.specs.Actions.{Action, other, nowhere}
use Rattle.insn_effects.specs.Decoding.{action_of}
use Rattle.insn_effects.specs.Effects.{written_effect, effect_of}
use Rattle.insn_effects.specs.Flows.{flow_of, is_unsupported}
use Rattle.insn_effects.specs.Listed.{admits_head, writes_by_head}
use Rattle.x86_steps.specs.States.{State, IsRanged}
use Rattle.x86_steps.specs.Steps.{Does}
use Rattle.x86_steps.specs.Acts.{is_tracked, Acts}
use Rattle.step_readings.proofs.Given.{Given}

-- an instruction of these parts
abbrev made : ℕ → ℕ → Prefix → (first second third : Seen) → View
made name size p first second third = record { name = record { 0 = name }; size = size; «prefix» = p; first = first; second = second; third = third }

-- what it writes: its register, and rcx where it repeats
abbrev listed : Bool → ℕ → ℕ → Bool
listed repeats n q = (n == q) || (false || (false || (repeats && (q == 1))))

-- rcx where it repeats
abbrev repeated : Bool → ℕ → Bool
repeated repeats q = false || (false || (false || (repeats && (q == 1))))

-- an action that writes no tracked register but one, and stores nothing
acts_alone : (x : Action) (written : ℕ → Bool) (n next : ℕ) (s t : State) → x ≡ other written nowhere
    → ((q : ℕ) → is_tracked q ≡ true → (q == n) ≡ false → written q ≡ false) → Does x next s t → Acts (written_effect n) s t
acts_alone x written n next s t same none d =
    let f = subst (λ y. Does y next s t) same d in
    record { moves = tt; kept = λ q k h. f.changes.0 q (none q k h); loads = tt; stores = f.changes.1; saves = tt }

not_listed : (b : Bool) (n q : ℕ) → is_tracked q ≡ true → (q == n) ≡ false → listed b n q ≡ false
not_listed true n q k h = grind (arith, nat_tests)
not_listed false n q k h = grind (arith, nat_tests)

not_repeated : (b : Bool) (n q : ℕ) → is_tracked q ≡ true → (q == n) ≡ false → repeated b q ≡ false
not_repeated true n q k h = grind (arith, nat_tests)
not_repeated false n q k h = refl

-- what `movabs` writes, by its row: of other operands there is none
found : (p : Prefix) (n k : ℕ) → action_of (made MOVABS 64 p (register (record { class = class.Quad; number = n })) (immediate (Some k)) absent) ≡ other (listed (is_repeat p) n) nowhere
unfolding the_rows admits_head writes_by_head action_of
found p n k = refl

of_quad : (p : Prefix) (n k next : ℕ) (third : Seen) (s t : State) → Does (action_of (made MOVABS 64 p (register (record { class = class.Quad; number = n })) (immediate (Some k)) third)) next s t
    → Acts (written_effect n) s t
unfolding the_rows admits_head writes_by_head action_of
of_quad p n k next absent s t d = acts_alone _ (listed (is_repeat p) n) n next s t (found p n k) (not_listed (is_repeat p) n) d
of_quad p n k next (register r) s t d = acts_alone _ (λ q. false) n next s t refl (λ q a b. refl) d
of_quad p n k next (immediate m) s t d = acts_alone _ (λ q. false) n next s t refl (λ q a b. refl) d
of_quad p n k next (memory a m) s t d = acts_alone _ (λ q. false) n next s t refl (λ q a b. refl) d
of_quad p n k next (target m) s t d = acts_alone _ (λ q. false) n next s t refl (λ q a b. refl) d

of_class : (c : Class) (p : Prefix) (n k next : ℕ) (third : Seen) (s t : State) → (class_number c == 4) ≡ true
    → Does (action_of (made MOVABS 64 p (register (record { class = c; number = n })) (immediate (Some k)) third)) next s t → Acts (written_effect n) s t
of_class class.Byte p n k next third s t e d = cc
of_class class.High p n k next third s t e d = cc
of_class class.Word p n k next third s t e d = cc
of_class class.Long p n k next third s t e d = cc
of_class class.Quad p n k next third s t e d = of_quad p n k next third s t d
of_class class.Xmm p n k next third s t e d = cc

both : (a b : Bool) → (a && b) ≡ true → (a ≡ true) × (b ≡ true)
both true b h = (refl, h)
both false b h = cc

same_of : (a b : ℕ) → (a == b) ≡ true → a ≡ b
same_of a b h = grind (arith, nat_tests)

-- the two actions of a `mov` that is written as `movabs`
of_operands : (p : Prefix) (next : ℕ) (first second third : Seen) (s t : State) → (is_quad first && is_wide second) ≡ true
    → Does (action_of (made MOVABS 64 p first second third)) next s t → Acts (effect_of (action_of (made MOV 64 p first second third))) s t
unfolding action_of
of_operands p next absent second third s t e d = cc
of_operands p next (immediate n) second third s t e d = cc
of_operands p next (memory a n) second third s t e d = cc
of_operands p next (target n) second third s t e d = cc
of_operands p next (register r) absent third s t e d = let h = (both (is_quad (register r)) false e).1 in cc
of_operands p next (register r) (register q) third s t e d = let h = (both (is_quad (register r)) false e).1 in cc
of_operands p next (register r) (memory a n) third s t e d = let h = (both (is_quad (register r)) false e).1 in cc
of_operands p next (register r) (target n) third s t e d = let h = (both (is_quad (register r)) false e).1 in cc
of_operands p next (register r) (immediate None) third s t e d = let h = (both (is_quad (register r)) false e).1 in cc
of_operands p next (register r) (immediate (Some k)) third s t e d =
    of_class r.class p r.number k next third s t (both (is_quad (register r)) (is_wide (immediate (Some k))) e).0 d

-- what an instruction does as it is written is of its own effect
pub meant_acts : Given → (insn : View) (next : ℕ) (s t : State) → IsRanged s → is_unsupported insn ≡ false → Does (action_of (meant insn)) next s t
    → Acts (effect_of (action_of insn)) s t
meant_acts laws insn next s t range fine d = by_test (insn.name.0 == MOV) (insn.size == 64) (is_quad insn.first && is_wide insn.second) refl refl refl d
  where
    by_test : (a b c : Bool) → (insn.name.0 == MOV) ≡ a → (insn.size == 64) ≡ b → (is_quad insn.first && is_wide insn.second) ≡ c
        → Does (action_of (made (cond (a && (b && c)) MOVABS insn.name.0) insn.size insn.«prefix» insn.first insn.second insn.third)) next s t
        → Acts (effect_of (action_of insn)) s t
    by_test false b c e f g d = laws.holds (action_of insn) s t range (laws.supported insn fine) d.changes
    by_test true false c e f g d = laws.holds (action_of insn) s t range (laws.supported insn fine) d.changes
    by_test true true false e f g d = laws.holds (action_of insn) s t range (laws.supported insn fine) d.changes
    by_test true true true e f g d =
        subst (λ n. Acts (effect_of (action_of (made n insn.size insn.«prefix» insn.first insn.second insn.third))) s t) (sym (same_of insn.name.0 MOV e))
        (subst (λ n. Acts (effect_of (action_of (made MOV n insn.«prefix» insn.first insn.second insn.third))) s t) (sym (same_of insn.size 64 f))
        (of_operands insn.«prefix» next insn.first insn.second insn.third s t g
        (subst (λ n. Does (action_of (made MOVABS n insn.«prefix» insn.first insn.second insn.third)) next s t) (same_of insn.size 64 f) d)))

-- and its flow is its own
pub meant_flow : (insn : View) → flow_of (meant insn) ≡ flow_of insn
meant_flow insn = by_test (insn.name.0 == MOV) ((insn.size == 64) && (is_quad insn.first && is_wide insn.second)) refl
  where
    by_test : (a b : Bool) → (insn.name.0 == MOV) ≡ a
        → flow_of (made (cond (a && b) MOVABS insn.name.0) insn.size insn.«prefix» insn.first insn.second insn.third) ≡ flow_of insn
    by_test false b e = refl
    by_test true false e = refl
    by_test true true e = sym (ap (λ n. flow_of (made n insn.size insn.«prefix» insn.first insn.second insn.third)) (same_of insn.name.0 MOV e))
