-- An instruction as its text: as the program's, with the texts of its values.
use Rattle.std.specs.Prelude.{◌≡◌, ◌||◌, ℕ, Bool, List, [], ◌∷◌, None}
use Rattle.x86_insn.specs.declared.insns.Mnemonic.{Mnemonic}
use Rattle.x86_insn.specs.declared.insns.Prefix.{Prefix}
use Rattle.x86_insn.specs.declared.insns.Address.{Address}
use Rattle.x86_insn.specs.declared.insns.Base.TheVariants as base
use Rattle.x86_insn.specs.declared.insns.Index.TheVariants as index
use Rattle.x86_insn.specs.declared.insns.Slot.{Slot}
use Rattle.x86_insn.specs.declared.insns.Slot.TheVariants as slot
use Rattle.x86_insn.specs.declared.insns.Insn.{Insn}
use Rattle.att_operands.specs.Values.{ValueText, IsValueOf, beside}
use Rattle.att_operands.specs.OperandTexts.{OperandText, no_displacement}
use Rattle.att_operands.specs.OperandTexts as operand
use Rattle.att_operands.specs.Spells.{in_segment}
use Rattle.att_insns.specs.Slots.{is_immediate, is_memory, is_target}

-- an instruction, whose values are texts
pub record InsnText : Type 0 where
  pub name : Mnemonic
  pub size : ℕ
  pub «prefix» : Prefix
  pub first : Slot
  pub second : Slot
  pub third : Slot
  pub address : Address
  pub immediate : ValueText
  pub displacement : ValueText

-- an address of nothing
abbrev pub no_address : Address
no_address = in_segment None base.Absent index.Absent

-- an instruction without operands: its values are the number 0
abbrev pub blank : Mnemonic → ℕ → Prefix → InsnText
blank name size word = record {
  name = name;
  size = size;
  «prefix» = word;
  first = slot.Absent;
  second = slot.Absent;
  third = slot.Absent;
  address = no_address;
  immediate = no_displacement;
  displacement = no_displacement;
}

-- the operands move one place on, and another stands first
abbrev pub led_by : Slot → InsnText → InsnText
led_by first insn = record insn { first = first; second = insn.first; third = insn.second }

-- an immediate stands in one of the two slots
abbrev pub has_immediate : (first second : Slot) → Bool
has_immediate first second = is_immediate first || is_immediate second

-- memory or a target stands in one of the two slots
abbrev pub has_displacement : (first second : Slot) → Bool
has_displacement first second = (is_memory first || is_target first) || (is_memory second || is_target second)

-- an operand more, which stands before those that are written before it. Of several in memory the last address counts, and of several
-- immediates or displacements the sum: no row of the table takes two
abbrev pub with_operand : OperandText → InsnText → InsnText
with_operand (operand.register reg) insn = led_by (slot.Register reg) insn
with_operand (operand.immediate held) insn =
    record (led_by slot.Immediate insn) { immediate = beside (has_immediate insn.first insn.second) insn.immediate held }
with_operand (operand.memory place held) insn =
    record (led_by slot.Memory insn) { address = place; displacement = beside (has_displacement insn.first insn.second) insn.displacement held }
with_operand (operand.target held) insn =
    record (led_by slot.Target insn) { displacement = beside (has_displacement insn.first insn.second) insn.displacement held }

-- all operands, in the order in which they are written: sources first
abbrev pub with_operands : List OperandText → InsnText → InsnText
with_operands [] insn = insn
with_operands (one ∷ others) insn = with_operands others (with_operand one insn)

-- the instruction has this text
pub record IsInsnOf (held : Insn) (text : InsnText) : Type 0 where
  pub name : held.name ≡ text.name
  pub size : held.size ≡ text.size
  pub «prefix» : held.«prefix» ≡ text.«prefix»
  pub first : held.first ≡ text.first
  pub second : held.second ≡ text.second
  pub third : held.third ≡ text.third
  pub address : held.address ≡ text.address
  pub immediate : IsValueOf held.immediate text.immediate
  pub displacement : IsValueOf held.displacement text.displacement

-- the instruction with texts in place of its values
abbrev pub text_of : Insn → ValueText → ValueText → InsnText
text_of held immediate displacement = record {
  name = held.name;
  size = held.size;
  «prefix» = held.«prefix»;
  first = held.first;
  second = held.second;
  third = held.third;
  address = held.address;
  immediate = immediate;
  displacement = displacement;
}

-- its values have these texts
pub record HasTexts (held : Insn) (own moved : ValueText) : Type 0 where
  pub immediate : IsValueOf held.immediate own
  pub displacement : IsValueOf held.displacement moved
