-- What an instruction of the program shows, `.` being its first byte: addresses from rip and branch targets are counted from there.
use Rattle.std.specs.Prelude.{ℕ, Option, Some, None}
use Rattle.asm_expr.specs.declared.trees.BinaryOp.TheVariants.{Add}
use Rattle.asm_expr.specs.Trees.{Tree, number, here, binary}
use Rattle.x86_insn.specs.declared.amounts.Suffix.{Suffix}
use Rattle.x86_insn.specs.declared.amounts.Value.{Value}
use Rattle.x86_insn.specs.declared.insns.Base.{Base}
use Rattle.x86_insn.specs.declared.insns.Base.TheVariants as base
use Rattle.x86_insn.specs.declared.insns.Slot.{Slot}
use Rattle.x86_insn.specs.declared.insns.Slot.TheVariants as slot
use Rattle.x86_insn.specs.declared.insns.Insn.{Insn}
use Rattle.x86_insn.specs.Amounts.{amount_tree}
use Rattle.x86_insn.specs.Views.{Seen, absent, register, immediate, memory, target, View}
use Rattle.x86_decode.specs.Decoding.{Front}

-- the number, where the expression is one
abbrev pub number_of : Tree → Option ℕ
number_of (number v) = Some v
number_of _ = None

-- the number that the expression adds to `.`
abbrev pub from_here : Tree → Option ℕ
from_here (binary Add here (number v)) = Some v
from_here _ = None

-- a value without suffix
abbrev pub unsuffixed : Option Suffix → Option ℕ → Option ℕ
unsuffixed None v = v
unsuffixed (Some s) v = None

-- the number that a value is
abbrev pub number_in : Value → Option ℕ
number_in held = unsuffixed held.suffix (number_of (amount_tree held.amount))

-- how far from the first byte a value is
abbrev pub offset_in : Value → Option ℕ
offset_in held = unsuffixed held.suffix (from_here (amount_tree held.amount))

-- the displacement of memory with this base
abbrev pub moved_in : Base → Value → Option ℕ
moved_in base.Absent held = number_in held
moved_in base.Rip held = offset_in held
moved_in (base.Of n) held = number_in held

-- what a slot shows
abbrev pub seen_in : Insn → Slot → Seen
seen_in insn slot.Absent = absent
seen_in insn (slot.Register reg) = register reg
seen_in insn slot.Immediate = immediate (number_in insn.immediate)
seen_in insn slot.Memory = memory insn.address (moved_in insn.address.base insn.displacement)
seen_in insn slot.Target = target (offset_in insn.displacement)

-- the instruction
abbrev pub shown_insn : Insn → View
shown_insn insn = record {
  name = insn.name;
  size = insn.size;
  «prefix» = insn.«prefix»;
  first = seen_in insn insn.first;
  second = seen_in insn insn.second;
  third = seen_in insn insn.third;
}

-- an instruction of the program, and how many bytes it has
abbrev pub shown_pair : Insn × ℕ → Front
shown_pair found = record { insn = shown_insn found.0; len = found.1 }
