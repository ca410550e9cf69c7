-- An instruction as its text, while its operands are put: the destination first.
use Rattle.std.specs.Prelude.{◌≡◌, ℕ, ◌==◌, List, [], ◌∷◌, if◌then◌else◌}
use Rattle.x86_insn.specs.declared.insns.Slot.{Slot}
use Rattle.x86_insn.specs.declared.insns.Slot.TheVariants as slot
use Rattle.x86_insn.specs.declared.insns.Insn.{Insn}
use Rattle.att_operands.specs.Values.{beside}
use Rattle.att_operands.specs.OperandTexts.{OperandText}
use Rattle.att_operands.specs.OperandTexts as operand
use Rattle.att_insns.specs.InsnTexts.{InsnText, IsInsnOf, has_immediate, has_displacement}
use Rattle.att_insns.specs.Slots.{is_absent}
use Rattle.intel_operands.specs.OperandTexts.{SizedText}

-- an instruction with the operands that were put, and how many bits of memory they say, or 0
pub record FilledText : Type 0 where
  pub insn : InsnText
  pub bits : ℕ

-- an operand behind the others
abbrev pub followed_by : Slot → InsnText → InsnText
followed_by last insn =
    if is_absent insn.first then record insn { first = last }
    else (if is_absent insn.second then record insn { second = last } else record insn { third = last })

-- an operand more, which stands behind those that are written before it. Of several in memory the last address counts, and of several
-- immediates or displacements the sum: no row of the table takes two
abbrev pub with_text : OperandText → InsnText → InsnText
with_text (operand.register reg) insn = followed_by (slot.Register reg) insn
with_text (operand.immediate held) insn =
    record (followed_by slot.Immediate insn) { immediate = beside (has_immediate insn.first insn.second) insn.immediate held }
with_text (operand.memory place held) insn =
    record (followed_by slot.Memory insn) { address = place; displacement = beside (has_displacement insn.first insn.second) insn.displacement held }
with_text (operand.target held) insn =
    record (followed_by slot.Target insn) { displacement = beside (has_displacement insn.first insn.second) insn.displacement held }

-- how many bits of memory are said where another operand says so many
abbrev pub bits_with : ℕ → ℕ → ℕ
bits_with more bits = if more == 0 then bits else more

-- an operand more, with the bits of memory that it says
abbrev pub with_operand : SizedText → FilledText → FilledText
with_operand sized filled = record { insn = with_text sized.operand filled.insn; bits = bits_with sized.bits filled.bits }

-- all operands, in the order in which they are written: the destination first
abbrev pub with_operands : List SizedText → FilledText → FilledText
with_operands [] filled = filled
with_operands (one ∷ others) filled = with_operands others (with_operand one filled)

-- the instruction and the bits are those of the text
pub record IsFilled (held : Insn) (bits : ℕ) (due : FilledText) : Type 0 where
  pub insn : IsInsnOf held due.insn
  pub bits_are : bits ≡ due.bits
