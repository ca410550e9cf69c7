-- An instruction as it is looked at where bytes are read and written: its values are numbers, or not known (Intel SDM, volume 2,
-- section 2.1).
use Rattle.std.specs.Prelude.{ℕ, Option, None}
use Rattle.x86_insn.specs.declared.registers.Reg.{Reg}
use Rattle.x86_insn.specs.declared.insns.Mnemonic.{Mnemonic}
use Rattle.x86_insn.specs.declared.insns.Prefix.{Prefix}
use Rattle.x86_insn.specs.declared.insns.Base.{Base}
use Rattle.x86_insn.specs.declared.insns.Base.TheVariants as base
use Rattle.x86_insn.specs.declared.insns.Address.{Address}
use Rattle.x86_insn.specs.declared.insns.Slot.{Slot}
use Rattle.x86_insn.specs.declared.insns.Slot.TheVariants as slot
use Rattle.x86_insn.specs.declared.insns.Insn.{Insn}
use Rattle.x86_insn.specs.declared.amounts.Values.{Values}

-- an operand with its value, or none where that is not known
pub data Seen : Type 0 where
  absent : Seen
  register : Reg → Seen
  immediate : Option ℕ → Seen
  memory : Address → Option ℕ → Seen
  target : Option ℕ → Seen

-- an instruction with values that are known or not
pub record View : Type 0 where
  pub name : Mnemonic
  pub size : ℕ
  pub «prefix» : Prefix
  pub first : Seen
  pub second : Seen
  pub third : Seen

-- an address from rip counts as not known
abbrev pub displaced : Base → Option ℕ → Option ℕ
displaced base.Absent held = held
displaced base.Rip held = None
displaced (base.Of number) held = held

-- what a slot shows, with these values; a branch target counts as not known
abbrev pub seen_at : Insn → Values → Slot → Seen
seen_at insn values slot.Absent = absent
seen_at insn values (slot.Register reg) = register reg
seen_at insn values slot.Immediate = immediate values.immediate
seen_at insn values slot.Memory = memory insn.address (displaced insn.address.base values.displacement)
seen_at insn values slot.Target = target None

-- an instruction with these values
abbrev pub view_of : Insn → Values → View
view_of insn values = record {
  name = insn.name;
  size = insn.size;
  «prefix» = insn.«prefix»;
  first = seen_at insn values insn.first;
  second = seen_at insn values insn.second;
  third = seen_at insn values insn.third;
}
