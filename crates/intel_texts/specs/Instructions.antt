-- The instruction that a text spells: its values are expressions, an immediate as a number with its sign, of as many bits as the row gives it.
use Rattle.std.specs.Prelude.{ℕ, None}
use Rattle.asm_expr.specs.Trees.{Tree}
use Rattle.x86_insn.specs.declared.insns.Slot.{Slot}
use Rattle.x86_insn.specs.declared.insns.Slot.TheVariants as slot
use Rattle.x86_insn.specs.declared.insns.Base.{Base}
use Rattle.x86_insn.specs.declared.insns.Base.TheVariants as base
use Rattle.x86_insn.specs.declared.insns.Address.{Address}
use Rattle.x86_insn.specs.Views.{Seen, absent, register, immediate, memory, target, View}
use Rattle.att_operands.specs.Values.{ValueText}
use Rattle.att_operands.specs.OperandTexts.{no_displacement}
use Rattle.att_insns.specs.InsnTexts.{InsnText, no_address}
use Rattle.att_texts.specs.Numbers.{number_tree, place_tree, value_of}

-- where an operand is
abbrev pub slot_of : Seen → Slot
slot_of absent = slot.Absent
slot_of (register reg) = slot.Register reg
slot_of (immediate value) = slot.Immediate
slot_of (memory place value) = slot.Memory
slot_of (target value) = slot.Target

-- a value without a suffix
abbrev pub bare : Tree → ValueText
bare tree = record { tree = tree; suffix = None }

-- a displacement: a place with rip, and else a number
abbrev pub moved_text : Base → ℕ → ValueText
moved_text base.Absent value = bare (number_tree 64 value)
moved_text base.Rip value = bare (place_tree value)
moved_text (base.Of number) value = bare (number_tree 64 value)

-- the address of an operand in memory, or else this one
abbrev pub address_in : Seen → Address → Address
address_in (memory place value) others = place
address_in absent others = others
address_in (register reg) others = others
address_in (immediate value) others = others
address_in (target value) others = others

-- the value of an immediate of so many bits, or else this one
abbrev pub immediate_in : ℕ → Seen → ValueText → ValueText
immediate_in bits (immediate value) others = bare (number_tree bits (value_of value))
immediate_in bits absent others = others
immediate_in bits (register reg) others = others
immediate_in bits (memory place value) others = others
immediate_in bits (target value) others = others

-- the displacement of memory or of a branch, or else this one
abbrev pub displacement_in : Seen → ValueText → ValueText
displacement_in (memory place value) others = moved_text place.base (value_of value)
displacement_in (target value) others = bare (place_tree (value_of value))
displacement_in absent others = others
displacement_in (register reg) others = others
displacement_in (immediate value) others = others

-- the instruction, whose immediate has so many bits
abbrev pub insn_text : ℕ → View → InsnText
insn_text bits insn = record {
  name = insn.name;
  size = insn.size;
  «prefix» = insn.«prefix»;
  first = slot_of insn.first;
  second = slot_of insn.second;
  third = slot_of insn.third;
  address = address_in insn.first (address_in insn.second (address_in insn.third no_address));
  immediate = immediate_in bits insn.first (immediate_in bits insn.second (immediate_in bits insn.third no_displacement));
  displacement = displacement_in insn.first (displacement_in insn.second (displacement_in insn.third no_displacement));
}
