-- What an instruction writes beside flags, by the first row of the table that admits it.
use Rattle.std.specs.Prelude.{◌≡◌, ◌==◌, ◌&&◌, ℕ, Bool, Option, None, Some}
use Rattle.std.specs.List.{find}
use Rattle.x86_insn.specs.declared.insns.Prefix.{Prefix}
use Rattle.x86_insn.specs.declared.insns.Slot.{Slot}
use Rattle.x86_insn.specs.declared.insns.Slot.TheVariants as slot
use Rattle.x86_insn.specs.declared.insns.Insn.{Insn}
use Rattle.x86_insn.specs.declared.amounts.Values.{Values}
use Rattle.x86_insn.specs.Views.{Seen, absent, register, immediate, memory, target, View, view_of}
use Rattle.x86_table.specs.declared.forms.Row.{Row}
use Rattle.x86_table.specs.Rows.{the_rows}
use Rattle.x86_lookup.specs.declared.writing.Writes.{Writes}
use Rattle.x86_lookup.specs.Writing.{kind_fits, first_written, second_written, is_repeat, stored, bytes_in_memory, no_writes, IsWritten}

-- the slot of an operand
abbrev pub slot_of : Seen → Slot
slot_of absent = slot.Absent
slot_of (register r) = slot.Register r
slot_of (immediate n) = slot.Immediate
slot_of (memory a d) = slot.Memory
slot_of (target d) = slot.Target

-- name, size, prefix and slots of an instruction: what it writes is by these alone
pub record Head : Type 0 where
  pub name : ℕ
  pub size : ℕ
  pub «prefix» : Prefix
  pub first : Slot
  pub second : Slot
  pub third : Slot

-- those of an instruction
abbrev pub head_of : View → Head
head_of v = record {
  name = v.name.0;
  size = v.size;
  «prefix» = v.«prefix»;
  first = slot_of v.first;
  second = slot_of v.second;
  third = slot_of v.third;
}

-- the row has the name, the size and the kinds of operands
unfoldable pub admits_head : Row → Head → Bool
admits_head r h = (r.name.0 == h.name) && ((r.size == h.size)
    && (kind_fits r.first h.first && (kind_fits r.second h.second && kind_fits r.third h.third)))

-- what the row says that is written
abbrev pub row_writes : Head → Row → Writes
row_writes h r = record {
  first = first_written r.outputs.destinations h.first;
  second = second_written r.outputs.destinations h.second;
  implied = r.outputs.implied;
  repeats = is_repeat h.«prefix»;
  store = stored h.first r.outputs.store (bytes_in_memory r.first);
}

-- the same of a row that was found, or nothing
abbrev pub writes_if : Head → Option Row → Writes
writes_if h None = no_writes
writes_if h (Some r) = row_writes h r

-- what the first row says that admits the instruction
unfoldable pub writes_by_head : Head → Writes
writes_by_head h = writes_if h (find (λ r. admits_head r h) the_rows)

-- what an instruction writes beside flags
abbrev pub writes_of : View → Writes
writes_of v = writes_by_head (head_of v)

-- what is looked up is what the first row says, whatever is known of the values
abbrev pub WritesAreListed : Type 0
WritesAreListed = (insn : Insn) (values : Values) (writes : Writes) → IsWritten insn writes → writes ≡ writes_of (view_of insn values)
