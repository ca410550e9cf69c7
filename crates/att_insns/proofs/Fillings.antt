-- An instruction by its fields, and what an operand makes of it.
use Rattle.std.proofs.Common.{◌≡◌, Bool, refl, subst}
use Rattle.x86_insn.specs.declared.registers.Reg.{Reg}
use Rattle.x86_insn.specs.declared.amounts.Value.{Value}
use Rattle.x86_insn.specs.declared.insns.Address.{Address}
use Rattle.x86_insn.specs.declared.insns.Slot.TheVariants as slot
use Rattle.x86_insn.specs.declared.insns.Insn.{Insn}
use Rattle.att_operands.specs.declared.operands.ReadOperand.TheVariants.{Register, Immediate, Memory, Target}
use Rattle.att_operands.specs.Values.{ValueText, IsValueOf, beside}
use Rattle.att_operands.specs.OperandTexts.{OperandText, IsOperandOf}
use Rattle.att_operands.specs.OperandTexts as operand
use Rattle.att_insns.specs.InsnTexts.{InsnText, has_immediate, has_displacement, with_operand, IsInsnOf, text_of, HasTexts}

as_text : (held : Insn) (due : InsnText) → IsInsnOf held due → text_of held due.immediate due.displacement ≡ due
as_text held due is =
    let a = is.name in
    let b = is.size in
    let c = is.«prefix» in
    let d = is.first in
    let e = is.second in
    let f = is.third in
    let g = is.address in
    rw (a, b, c, d, e, f, g) refl

-- what holds of the instruction's fields with any texts of its values holds of its text
pub by_fields : (P : InsnText → Type 0) (held : Insn) (due : InsnText) → IsInsnOf held due → ((i d : ValueText) → HasTexts held i d → P (text_of held i d)) → P due
by_fields P held due is all = subst P (as_text held due is) (all due.immediate due.displacement (record { immediate = is.immediate; displacement = is.displacement }))

-- an instruction that loses its size keeps the texts of its values
pub unsized_texts : (held : Insn) (i d : ValueText) → HasTexts held i d → HasTexts (record held { size = 0 }) i d
unsized_texts held i d has = record { immediate = has.immediate; displacement = has.displacement }

-- a register is put in front
pub register_put : (old : Insn) (reg : Reg) (i d : ValueText) (text : OperandText) → HasTexts old i d → IsOperandOf (Register reg) text
    → IsInsnOf (record old { first = slot.Register reg; second = old.first; third = old.second }) (with_operand text (text_of old i d))
register_put old reg i d (operand.register due) has is = subst
    (λ (r : Reg). IsInsnOf (record old { first = slot.Register reg; second = old.first; third = old.second }) (with_operand (operand.register r) (text_of old i d))) is
    (record { name = refl; size = refl; «prefix» = refl; first = refl; second = refl; third = refl; address = refl; immediate = has.immediate; displacement = has.displacement })
register_put old reg i d (operand.immediate held) has is = absurd is
register_put old reg i d (operand.memory place held) has is = absurd is
register_put old reg i d (operand.target held) has is = absurd is

-- a value takes in another one, if one of its kind is there
abbrev pub Holds : (there : Bool) → (before more after : Value) → Type 0
Holds there before more after = (one other : ValueText) → IsValueOf before one → IsValueOf more other → IsValueOf after (beside there one other)

-- an immediate is put in front
pub immediate_put : (old : Insn) (value made : Value) (there : Bool) (i d : ValueText) (text : OperandText) → there ≡ has_immediate old.first old.second → Holds there old.immediate value made
    → HasTexts old i d → IsOperandOf (Immediate value) text
    → IsInsnOf (record old { first = slot.Immediate; second = old.first; third = old.second; immediate = made }) (with_operand text (text_of old i d))
immediate_put old value made there i d (operand.register due) same holds has is = absurd is
immediate_put old value made there i d (operand.immediate held) same holds has is = record {
  name = refl;
  size = refl;
  «prefix» = refl;
  first = refl;
  second = refl;
  third = refl;
  address = refl;
  immediate = subst (λ (b : Bool). IsValueOf made (beside b i held)) same (holds i held has.immediate is);
  displacement = has.displacement;
}
immediate_put old value made there i d (operand.memory place held) same holds has is = absurd is
immediate_put old value made there i d (operand.target held) same holds has is = absurd is

-- memory is put in front
pub memory_put : (old : Insn) (address : Address) (value made : Value) (there : Bool) (i d : ValueText) (text : OperandText) → there ≡ has_displacement old.first old.second
    → Holds there old.displacement value made → HasTexts old i d → IsOperandOf (Memory address value) text
    → IsInsnOf (record old { first = slot.Memory; second = old.first; third = old.second; address = address; displacement = made }) (with_operand text (text_of old i d))
memory_put old address value made there i d (operand.register due) same holds has is = absurd is
memory_put old address value made there i d (operand.immediate held) same holds has is = absurd is
memory_put old address value made there i d (operand.memory place held) same holds has is = record {
  name = refl;
  size = refl;
  «prefix» = refl;
  first = refl;
  second = refl;
  third = refl;
  address = is.address;
  immediate = has.immediate;
  displacement = subst (λ (b : Bool). IsValueOf made (beside b d held)) same (holds d held has.displacement is.value);
}
memory_put old address value made there i d (operand.target held) same holds has is = absurd is

-- a branch target is put in front
pub target_put : (old : Insn) (value made : Value) (there : Bool) (i d : ValueText) (text : OperandText) → there ≡ has_displacement old.first old.second → Holds there old.displacement value made
    → HasTexts old i d → IsOperandOf (Target value) text
    → IsInsnOf (record old { first = slot.Target; second = old.first; third = old.second; displacement = made }) (with_operand text (text_of old i d))
target_put old value made there i d (operand.register due) same holds has is = absurd is
target_put old value made there i d (operand.immediate held) same holds has is = absurd is
target_put old value made there i d (operand.memory place held) same holds has is = absurd is
target_put old value made there i d (operand.target held) same holds has is = record {
  name = refl;
  size = refl;
  «prefix» = refl;
  first = refl;
  second = refl;
  third = refl;
  address = refl;
  immediate = has.immediate;
  displacement = subst (λ (b : Bool). IsValueOf made (beside b d held)) same (holds d held has.displacement is);
}
