-- Behind a mnemonic that names it, an instruction's operands are read as just this instruction, and only after such a one.
use Rattle.std.proofs.Common.{◌≡◌, ℕ, ◌==◌, ◌&&◌, ◌||◌, not, Bool, true, false, cond, List, [], ◌∷◌, Result, Ok, Err, refl, sym, ap, ◌∙◌}
use Rattle.std.proofs.lemmas.Bool.{and_parts, eqb-true, eq-eqb}
use Rattle.x86_insn.specs.declared.registers.Class.{Class}
use Rattle.x86_insn.specs.declared.registers.Class.TheVariants as class
use Rattle.x86_insn.specs.declared.registers.Reg.{Reg}
use Rattle.x86_insn.specs.declared.insns.Mnemonic.{Mnemonic}
use Rattle.x86_insn.specs.declared.insns.Prefix.{Prefix}
use Rattle.x86_insn.specs.declared.insns.Address.{Address}
use Rattle.x86_insn.specs.declared.insns.Slot.{Slot}
use Rattle.x86_insn.specs.declared.insns.Slot.TheVariants as slot
use Rattle.x86_lookup.specs.declared.names.Named.{Named}
use Rattle.x86_lookup.specs.declared.names.Rule.{Rule}
use Rattle.x86_lookup.specs.declared.names.Rule.TheVariants as rule
use Rattle.att_operands.specs.declared.faults.OperandCause.{OperandCause}
use Rattle.att_operands.specs.Values.{ValueText}
use Rattle.att_operands.specs.OperandTexts.{OperandText}
use Rattle.att_operands.specs.OperandTexts as operand
use Rattle.att_insns.specs.InsnTexts.{InsnText, with_operand, with_operands}
use Rattle.att_insns.specs.Slots.{is_absent, is_register, is_immediate, is_memory}
use Rattle.att_insns.specs.Rules.{ruled, is_accumulator, is_xmm0, is_quad, is_xmm, has, number_text, no_name}
use Rattle.att_insns.specs.Spells.{with_size}
use Rattle.att_texts.proofs.FoundSizes.{size_has}
use Rattle.att_texts.specs.AttTexts.{same_class, same_slot, same_insn, is_insn, read_after, may_name, names_it}

-- the same name and size from the beginning
pub with_head : (operands : List OperandText) (insn : InsnText) (name : Mnemonic) (size : ℕ) → with_operands operands (record insn { name = name; size = size }) ≡ record (with_operands operands insn) { name = name; size = size }
with_head [] insn name size = refl
with_head (operand.register reg ∷ others) insn name size = with_head others (with_operand (operand.register reg) insn) name size
with_head (operand.immediate held ∷ others) insn name size = with_head others (with_operand (operand.immediate held) insn) name size
with_head (operand.memory place held ∷ others) insn name size = with_head others (with_operand (operand.memory place held) insn) name size
with_head (operand.target held ∷ others) insn name size = with_head others (with_operand (operand.target held) insn) name size

-- what no rule changes
pub record Keeps (one other : InsnText) : Type 0 where
  pub «prefix» : one.«prefix» ≡ other.«prefix»
  pub address : one.address ≡ other.address
  pub displacement : one.displacement ≡ other.displacement

kept : (b : Bool) (one other insn : InsnText) → Keeps one insn → Keeps other insn → Keeps (cond b one other) insn
kept true one other insn this that = this
kept false one other insn this that = that

same : (insn : InsnText) → Keeps insn insn
same insn = record { «prefix» = refl; address = refl; displacement = refl }

plainly : (one insn : InsnText) → one.«prefix» ≡ insn.«prefix» → one.address ≡ insn.address → one.displacement ≡ insn.displacement → Keeps one insn
plainly one insn a b c = record { «prefix» = a; address = b; displacement = c }

pub rules_keep : (r : Rule) (insn : InsnText) → Keeps (ruled r insn) insn
rules_keep rule.Plain insn = same insn
rules_keep (rule.Predicate value) insn = kept (is_absent insn.third) _ _ insn (plainly _ insn refl refl refl) (plainly _ insn refl refl refl)
rules_keep rule.ByOne insn = kept (is_absent insn.second && not (is_absent insn.first)) _ _ insn (plainly _ insn refl refl refl) (same insn)
rules_keep rule.ByCl insn = kept (is_absent insn.third && not (is_absent insn.second)) _ _ insn (plainly _ insn refl refl refl) (same insn)
rules_keep rule.OneForTwo insn = kept (is_register insn.first && (is_immediate insn.second && is_absent insn.third)) _ _ insn (plainly _ insn refl refl refl) (same insn)
rules_keep rule.MemoryFirst insn = kept (is_register insn.first && is_memory insn.second) _ _ insn (plainly _ insn refl refl refl) (same insn)
rules_keep rule.AccumulatorFirst insn = kept (is_register insn.first && (is_memory insn.second || is_accumulator insn.second)) _ _ insn (plainly _ insn refl refl refl) (same insn)
rules_keep rule.WithXmm0 insn = kept (is_xmm0 insn.third) _ _ insn (plainly _ insn refl refl refl) (same insn)
rules_keep rule.Branch insn = same insn
rules_keep rule.QuadIsMovq insn = kept (has is_quad insn) _ _ insn (plainly _ insn refl refl refl) (same insn)
rules_keep rule.LongMemory insn = kept (has is_memory insn && (insn.size == 0)) _ _ insn (plainly _ insn refl refl refl) (same insn)
rules_keep rule.OrMove insn = kept (has is_xmm insn || not (insn.size == 0)) _ _ insn (same insn) (plainly _ insn refl refl refl)
rules_keep rule.BySource insn = same insn
rules_keep (rule.OrString name) insn = same insn

-- an immediate that a rule adds is where none was
put_none : (own : Slot) → is_absent own ≡ true → same_slot slot.Immediate own ≡ true → ⊥
put_none slot.Absent absent is = cc
put_none (slot.Register reg) absent is = cc
put_none slot.Immediate absent is = cc
put_none slot.Memory absent is = cc
put_none slot.Target absent is = cc

held_by : (b : Bool) (one other insn : InsnText) → (b ≡ true → same_slot (cond b one other).second insn.second ≡ true → same_slot (cond b one other).third insn.third ≡ true → one.immediate ≡ insn.immediate) → other.immediate ≡ insn.immediate
    → same_slot (cond b one other).second insn.second ≡ true → same_slot (cond b one other).third insn.third ≡ true → (cond b one other).immediate ≡ insn.immediate
held_by true one other insn this that second third = this refl second third
held_by false one other insn this that second third = that

pub immediate_kept : (r : Rule) (insn : InsnText) → same_slot (ruled r insn).second insn.second ≡ true → same_slot (ruled r insn).third insn.third ≡ true → (ruled r insn).immediate ≡ insn.immediate
immediate_kept rule.Plain insn a b = refl
immediate_kept (rule.Predicate value) insn a b = by (is_absent insn.third) refl a b
  where
    ruled_by : Bool → InsnText
    ruled_by t = cond t (record insn { third = slot.Immediate; immediate = number_text value }) (record insn { name = no_name })

    by : (t : Bool) → is_absent insn.third ≡ t → same_slot (ruled_by t).second insn.second ≡ true → same_slot (ruled_by t).third insn.third ≡ true → (ruled_by t).immediate ≡ insn.immediate
    by true t a b = absurd (put_none insn.third t b)
    by false t a b = refl
immediate_kept rule.ByOne insn a b = by (is_absent insn.second && not (is_absent insn.first)) refl a b
  where
    ruled_by : Bool → InsnText
    ruled_by t = cond t (record insn { second = slot.Immediate; immediate = number_text 1 }) insn

    by : (t : Bool) → (is_absent insn.second && not (is_absent insn.first)) ≡ t → same_slot (ruled_by t).second insn.second ≡ true → same_slot (ruled_by t).third insn.third ≡ true → (ruled_by t).immediate ≡ insn.immediate
    by true t a b = absurd (put_none insn.second (and_parts (is_absent insn.second) (not (is_absent insn.first)) t).0 a)
    by false t a b = refl
immediate_kept rule.ByCl insn a b = held_by (is_absent insn.third && not (is_absent insn.second)) _ _ insn (λ t a b. refl) refl a b
immediate_kept rule.OneForTwo insn a b = held_by (is_register insn.first && (is_immediate insn.second && is_absent insn.third)) _ _ insn (λ t a b. refl) refl a b
immediate_kept rule.MemoryFirst insn a b = held_by (is_register insn.first && is_memory insn.second) _ _ insn (λ t a b. refl) refl a b
immediate_kept rule.AccumulatorFirst insn a b = held_by (is_register insn.first && (is_memory insn.second || is_accumulator insn.second)) _ _ insn (λ t a b. refl) refl a b
immediate_kept rule.WithXmm0 insn a b = held_by (is_xmm0 insn.third) _ _ insn (λ t a b. refl) refl a b
immediate_kept rule.Branch insn a b = refl
immediate_kept rule.QuadIsMovq insn a b = held_by (has is_quad insn) _ _ insn (λ t a b. refl) refl a b
immediate_kept rule.LongMemory insn a b = held_by (has is_memory insn && (insn.size == 0)) _ _ insn (λ t a b. refl) refl a b
immediate_kept rule.OrMove insn a b = held_by (has is_xmm insn || not (insn.size == 0)) _ _ insn (λ t a b. refl) refl a b
immediate_kept rule.BySource insn a b = refl
immediate_kept (rule.OrString name) insn a b = refl

-- slots and classes that are one
class_is : (one other : Class) → same_class one other ≡ true → one ≡ other
class_is class.Byte class.Byte is = refl
class_is class.Byte class.High is = cc
class_is class.Byte class.Word is = cc
class_is class.Byte class.Long is = cc
class_is class.Byte class.Quad is = cc
class_is class.Byte class.Xmm is = cc
class_is class.High class.Byte is = cc
class_is class.High class.High is = refl
class_is class.High class.Word is = cc
class_is class.High class.Long is = cc
class_is class.High class.Quad is = cc
class_is class.High class.Xmm is = cc
class_is class.Word class.Byte is = cc
class_is class.Word class.High is = cc
class_is class.Word class.Word is = refl
class_is class.Word class.Long is = cc
class_is class.Word class.Quad is = cc
class_is class.Word class.Xmm is = cc
class_is class.Long class.Byte is = cc
class_is class.Long class.High is = cc
class_is class.Long class.Word is = cc
class_is class.Long class.Long is = refl
class_is class.Long class.Quad is = cc
class_is class.Long class.Xmm is = cc
class_is class.Quad class.Byte is = cc
class_is class.Quad class.High is = cc
class_is class.Quad class.Word is = cc
class_is class.Quad class.Long is = cc
class_is class.Quad class.Quad is = refl
class_is class.Quad class.Xmm is = cc
class_is class.Xmm class.Byte is = cc
class_is class.Xmm class.High is = cc
class_is class.Xmm class.Word is = cc
class_is class.Xmm class.Long is = cc
class_is class.Xmm class.Quad is = cc
class_is class.Xmm class.Xmm is = refl

abbrev reg_of : Class → ℕ → Reg
reg_of of_class number = record { class = of_class; number = number }

register_is : (one other : Reg) → (same_class one.class other.class && (one.number == other.number)) ≡ true → one ≡ other
register_is one other is =
    let parts = and_parts (same_class one.class other.class) (one.number == other.number) is in
    ap (λ (c : Class). reg_of c one.number) (class_is one.class other.class parts.0) ∙ ap (reg_of other.class) (eqb-true one.number other.number parts.1)

slot_is : (one other : Slot) → same_slot one other ≡ true → one ≡ other
slot_is slot.Absent slot.Absent is = refl
slot_is slot.Absent (slot.Register own) is = cc
slot_is slot.Absent slot.Immediate is = cc
slot_is slot.Absent slot.Memory is = cc
slot_is slot.Absent slot.Target is = cc
slot_is (slot.Register reg) slot.Absent is = cc
slot_is (slot.Register reg) (slot.Register own) is = ap slot.Register (register_is reg own is)
slot_is (slot.Register reg) slot.Immediate is = cc
slot_is (slot.Register reg) slot.Memory is = cc
slot_is (slot.Register reg) slot.Target is = cc
slot_is slot.Immediate slot.Absent is = cc
slot_is slot.Immediate (slot.Register own) is = cc
slot_is slot.Immediate slot.Immediate is = refl
slot_is slot.Immediate slot.Memory is = cc
slot_is slot.Immediate slot.Target is = cc
slot_is slot.Memory slot.Absent is = cc
slot_is slot.Memory (slot.Register own) is = cc
slot_is slot.Memory slot.Immediate is = cc
slot_is slot.Memory slot.Memory is = refl
slot_is slot.Memory slot.Target is = cc
slot_is slot.Target slot.Absent is = cc
slot_is slot.Target (slot.Register own) is = cc
slot_is slot.Target slot.Immediate is = cc
slot_is slot.Target slot.Memory is = cc
slot_is slot.Target slot.Target is = refl

-- an instruction of these parts
abbrev of_parts : ℕ → ℕ → Prefix → Slot → Slot → Slot → Address → ValueText → ValueText → InsnText
of_parts name size lead first second third address immediate displacement = record {
  name = record { 0 = name };
  size = size;
  «prefix» = lead;
  first = first;
  second = second;
  third = third;
  address = address;
  immediate = immediate;
  displacement = displacement;
}

-- instructions of the same parts are one
parts_are : (one other : InsnText) → one.name.0 ≡ other.name.0 → one.size ≡ other.size → one.first ≡ other.first → one.second ≡ other.second → one.third ≡ other.third
    → Keeps one other → one.immediate ≡ other.immediate → one ≡ other
parts_are one other n s f g h k i =
    ap (λ x. of_parts x one.size one.«prefix» one.first one.second one.third one.address one.immediate one.displacement) n
    ∙ ap (λ x. of_parts other.name.0 x one.«prefix» one.first one.second one.third one.address one.immediate one.displacement) s
    ∙ ap (λ x. of_parts other.name.0 other.size x one.first one.second one.third one.address one.immediate one.displacement) k.«prefix»
    ∙ ap (λ x. of_parts other.name.0 other.size other.«prefix» x one.second one.third one.address one.immediate one.displacement) f
    ∙ ap (λ x. of_parts other.name.0 other.size other.«prefix» other.first x one.third one.address one.immediate one.displacement) g
    ∙ ap (λ x. of_parts other.name.0 other.size other.«prefix» other.first other.second x one.address one.immediate one.displacement) h
    ∙ ap (λ x. of_parts other.name.0 other.size other.«prefix» other.first other.second other.third x one.immediate one.displacement) k.address
    ∙ ap (λ x. of_parts other.name.0 other.size other.«prefix» other.first other.second other.third other.address x one.displacement) i
    ∙ ap (λ x. of_parts other.name.0 other.size other.«prefix» other.first other.second other.third other.address other.immediate x) k.displacement

-- what is read after a mnemonic of this number, size and rule
abbrev pub headed : InsnText → Named → InsnText
headed insn named = record insn { name = named.name; size = named.size }

same_by : (insn made : InsnText) (named : Named) (size : ℕ) → made ≡ with_size (ruled named.rule (headed insn named)) size → same_insn made insn ≡ true → made ≡ insn
same_by insn made named size is tests =
    let a = and_parts (made.name.0 == insn.name.0) _ tests in
    let b = and_parts (made.size == insn.size) _ a.1 in
    let c = and_parts (same_slot made.first insn.first) _ b.1 in
    let d = and_parts (same_slot made.second insn.second) _ c.1 in
    let keeps = rules_keep named.rule (headed insn named) in
    let second = ap (λ (i : InsnText). same_slot i.second insn.second) (sym is) ∙ d.0 in
    let third = ap (λ (i : InsnText). same_slot i.third insn.third) (sym is) ∙ d.1 in
    parts_are made insn (eqb-true made.name.0 insn.name.0 a.0) (eqb-true made.size insn.size b.0) (slot_is made.first insn.first c.0) (slot_is made.second insn.second d.0) (slot_is made.third insn.third d.1)
    (record {
      «prefix» = ap (λ (i : InsnText). i.«prefix») is ∙ keeps.«prefix»;
      address = ap (λ (i : InsnText). i.address) is ∙ keeps.address;
      displacement = ap (λ (i : InsnText). i.displacement) is ∙ keeps.displacement;
    })
    (ap (λ (i : InsnText). i.immediate) is ∙ immediate_kept named.rule (headed insn named) second third)

-- the mnemonic passes: the operands after it are read as the instruction
pub decided : (insn : InsnText) (named : Named) → names_it insn named ≡ true → read_after insn named ≡ Ok insn
unfolding names_it
decided insn named passes = by (read_after insn named) refl (and_parts (may_name insn.name.0 named) (is_insn insn (read_after insn named)) passes).1
  where
    by : (read : Result InsnText OperandCause) → read_after insn named ≡ read → is_insn insn read ≡ true → read ≡ Ok insn
    by (Err cause) is tests = cc
    by (Ok made) is tests =
        let found = size_has (ruled named.rule (headed insn named)) made is in
        ap Ok (same_by insn made named found.size found.is tests)

-- and where they are read as it, the mnemonic passes, if it may name the rows
class_same : (c : Class) → same_class c c ≡ true
class_same class.Byte = refl
class_same class.High = refl
class_same class.Word = refl
class_same class.Long = refl
class_same class.Quad = refl
class_same class.Xmm = refl

slot_same : (s : Slot) → same_slot s s ≡ true
slot_same slot.Absent = refl
slot_same (slot.Register reg) = let own = class_same reg.class in let number = eq-eqb reg.number reg.number refl in rw (own, number) refl
slot_same slot.Immediate = refl
slot_same slot.Memory = refl
slot_same slot.Target = refl

insn_same : (insn : InsnText) → same_insn insn insn ≡ true
insn_same insn =
    let a = eq-eqb insn.name.0 insn.name.0 refl in
    let b = eq-eqb insn.size insn.size refl in
    let c = slot_same insn.first in
    let d = slot_same insn.second in
    let e = slot_same insn.third in
    rw (a, b, c, d, e) refl

pub passes_if_read : (insn : InsnText) (named : Named) → may_name insn.name.0 named ≡ true → read_after insn named ≡ Ok insn → names_it insn named ≡ true
unfolding names_it
passes_if_read insn named may is = let own = insn_same insn in rw (may, is, own) refl
