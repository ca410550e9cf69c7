-- What the slots of an instruction show.
use Rattle.std.specs.Prelude.{Option, Some, None, option_map}
use Rattle.x86_insn.specs.declared.registers.Reg.{Reg}
use Rattle.x86_insn.specs.declared.amounts.Value.{Value}
use Rattle.x86_insn.specs.declared.insns.Address.{Address}
use Rattle.x86_insn.specs.declared.insns.Slot.{Slot}
use Rattle.x86_insn.specs.declared.insns.Slot.TheVariants as slot
use Rattle.x86_insn.specs.declared.insns.Insn.{Insn}
use Rattle.x86_insn.specs.declared.operands.Operand.{Operand}
use Rattle.x86_insn.specs.declared.operands.Operand.TheVariants as operand

-- an operand with its value
pub data Shown : Type 0 where
  register : Reg → Shown
  immediate : Value → Shown
  memory : Address → Value → Shown
  target : Value → Shown

-- an operand of the program
abbrev pub shown_by : Operand → Shown
shown_by (operand.Register reg) = register reg
shown_by (operand.Immediate held) = immediate held.now
shown_by (operand.Memory place) = memory place.address place.displacement.now
shown_by (operand.Target held) = target held.now

-- an operand of the program, if there is one
abbrev pub seen : Option Operand → Option Shown
seen found = option_map shown_by found

-- what a slot of an instruction shows
abbrev pub operand_at : Insn → Slot → Option Shown
operand_at insn slot.Absent = None
operand_at insn (slot.Register reg) = Some (register reg)
operand_at insn slot.Immediate = Some (immediate insn.immediate)
operand_at insn slot.Memory = Some (memory insn.address insn.displacement)
operand_at insn slot.Target = Some (target insn.displacement)
