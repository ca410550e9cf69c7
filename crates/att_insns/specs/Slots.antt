-- What stands in the slots of an instruction.
use Rattle.std.specs.Prelude.{Bool, true, false}
use Rattle.x86_insn.specs.declared.insns.Slot.{Slot}
use Rattle.x86_insn.specs.declared.insns.Slot.TheVariants as slot

-- no operand stands there
abbrev pub is_absent : Slot → Bool
is_absent slot.Absent = true
is_absent (slot.Register reg) = false
is_absent slot.Immediate = false
is_absent slot.Memory = false
is_absent slot.Target = false

-- a register stands there
abbrev pub is_register : Slot → Bool
is_register slot.Absent = false
is_register (slot.Register reg) = true
is_register slot.Immediate = false
is_register slot.Memory = false
is_register slot.Target = false

-- an immediate stands there
abbrev pub is_immediate : Slot → Bool
is_immediate slot.Absent = false
is_immediate (slot.Register reg) = false
is_immediate slot.Immediate = true
is_immediate slot.Memory = false
is_immediate slot.Target = false

-- memory stands there
abbrev pub is_memory : Slot → Bool
is_memory slot.Absent = false
is_memory (slot.Register reg) = false
is_memory slot.Immediate = false
is_memory slot.Memory = true
is_memory slot.Target = false

-- a branch target stands there
abbrev pub is_target : Slot → Bool
is_target slot.Absent = false
is_target (slot.Register reg) = false
is_target slot.Immediate = false
is_target slot.Memory = false
is_target slot.Target = true
