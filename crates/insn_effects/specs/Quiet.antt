-- Instructions that write none of the seven registers, by their names and operands alone.
use Rattle.std.specs.Prelude.{◌==◌, ◌&&◌, ◌||◌, ℕ, nat_le, Bool, true, false, not}
use Rattle.x86_insn.specs.declared.insns.Slot.{Slot}
use Rattle.x86_insn.specs.declared.insns.Slot.TheVariants as slot
use Rattle.x86_insn.specs.declared.insns.Insn.{Insn}
use Rattle.x86_table.specs.declared.forms.StoreKind.{StoreKind}
use Rattle.x86_table.specs.declared.forms.StoreKind.TheVariants as kind
use Rattle.x86_table.specs.declared.forms.Row.{Row}
use Rattle.x86_lookup.specs.Writing.{reg_in, part_is, has_general}
use Rattle.x86_table.specs.declared.mnemonics.integers.TheConstants.{CPUID, LEAVE, POPF, PUSH}
use Rattle.insn_effects.specs.Seven.{bits_of}

-- rows of the name write some of the seven that no operand names: `push`, `pop`, `pushf`, `popf`, `leave`, `cpuid`
abbrev pub implies_some : ℕ → Bool
implies_some name = (nat_le PUSH name && nat_le name POPF) || ((name == LEAVE) || (name == CPUID))

-- no operand that may be written is a part of one of the seven
abbrev pub is_quiet : Insn → Bool
is_quiet insn =
    (bits_of (part_is (reg_in insn.first)) == 0) && ((bits_of (part_is (reg_in insn.second)) == 0) && not (implies_some insn.name.0))

-- the operand is in memory
abbrev pub is_memory : Slot → Bool
is_memory slot.Absent = false
is_memory (slot.Register r) = false
is_memory slot.Immediate = false
is_memory slot.Memory = true
is_memory slot.Target = false

-- nothing is stored below the top of the stack
abbrev pub is_still : StoreKind → Bool
is_still kind.Absent = true
is_still kind.Operand = true
is_still kind.BitString = true
is_still kind.PushQuad = false
is_still kind.PushWord = false
is_still kind.Unfixed = true

-- the row says of none of the seven that it is written though no operand names it
abbrev pub is_quiet_row : Row → Bool
is_quiet_row r = (bits_of (has_general r.outputs.implied) == 0) && is_still r.outputs.store
