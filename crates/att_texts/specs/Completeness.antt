-- Each form of the table has a mnemonic: of a row with registers, and of one with memory where it may show that.
use Rattle.std.specs.Prelude.{ℕ, ◌&&◌, Bool, true, false, is_some}
use Rattle.x86_insn.specs.declared.registers.Class.{Class}
use Rattle.x86_insn.specs.declared.registers.Class.TheVariants as class
use Rattle.x86_insn.specs.declared.insns.Prefix.TheVariants.{Absent}
use Rattle.x86_insn.specs.declared.insns.Slot.{Slot}
use Rattle.x86_insn.specs.declared.insns.Slot.TheVariants as slot
use Rattle.x86_table.specs.declared.forms.Pattern.{Pattern}
use Rattle.x86_table.specs.declared.forms.Pattern.TheVariants as pattern
use Rattle.x86_table.specs.declared.forms.Row.{Row}
use Rattle.att_insns.specs.InsnTexts.{InsnText, blank}
use Rattle.att_texts.specs.AttTexts.{mnemonic_for}

-- a register of this number
abbrev pub reg : Class → ℕ → Slot
reg of_class number = slot.Register (record { class = of_class; number = number })

-- an operand that the pattern shows: registers of this number, and memory where it is wanted
abbrev pub shows : Bool → ℕ → Pattern → Slot
shows m number pattern.Absent = slot.Absent
shows true number (pattern.RegMem c n) = slot.Memory
shows false number (pattern.RegMem c n) = reg c number
shows m number (pattern.Reg c) = reg c number
shows m number (pattern.Low c) = reg c number
shows m number (pattern.Accumulator c) = reg c 0
shows m number pattern.Cl = reg class.Byte 1
shows m number pattern.One = slot.Immediate
shows m number pattern.Immediate = slot.Immediate
shows m number pattern.Target = slot.Target

-- such an instruction of the row
abbrev pub shown_of : Bool → ℕ → Row → InsnText
shown_of m number r =
    record (blank r.name r.size Absent) { first = shows m number r.first; second = shows m number r.second; third = shows m number r.third }

-- each has a mnemonic
abbrev pub has_mnemonic : Row → Bool
has_mnemonic r = is_some (mnemonic_for (shown_of true 3 r)) && is_some (mnemonic_for (shown_of false 3 r))
