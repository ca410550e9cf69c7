-- The operand size of an instruction: what the mnemonic fixes, or else the size of all rows that take such operands.
use Rattle.std.specs.Prelude.{ℕ, ◌==◌, ◌||◌, Bool, not, Option, Some, None, Result, Ok, Err, if◌then◌else◌}
use Rattle.std.specs.List.{find, list_all}
use Rattle.x86_insn.specs.declared.insns.Slot.{Slot}
use Rattle.x86_table.specs.declared.forms.Row.{Row}
use Rattle.x86_table.specs.Rows.{the_rows}
use Rattle.x86_lookup.specs.Forms.{is_form}
use Rattle.att_operands.specs.declared.faults.OperandCause.{OperandCause}
use Rattle.att_operands.specs.declared.faults.OperandCause.TheVariants.{UnknownOperandSize}
use Rattle.att_insns.specs.InsnTexts.{InsnText}

-- the row is no form of these, or has this size
abbrev pub agrees : ℕ → Slot → Slot → Slot → ℕ → Row → Bool
agrees name first second third size r = not (is_form name first second third r) || (r.size == size)

-- the size of the rows that are forms, the first of which is this one
abbrev pub size_by : ℕ → Slot → Slot → Slot → Option Row → Result ℕ OperandCause
size_by name first second third None = Ok 0
size_by name first second third (Some r) =
    if list_all (agrees name first second third r.size) the_rows then Ok r.size else Err UnknownOperandSize

-- the size that the rows leave of a name and operands: 0 where no row takes them
unfoldable pub size_left : ℕ → Slot → Slot → Slot → Result ℕ OperandCause
size_left name first second third = size_by name first second third (find (is_form name first second third) the_rows)

-- the instruction of this size
abbrev pub of_size : InsnText → Result ℕ OperandCause → Result InsnText OperandCause
of_size insn (Ok size) = Ok (record insn { size = size })
of_size insn (Err cause) = Err cause

-- the instruction with its size
abbrev pub sized : InsnText → Result InsnText OperandCause
sized insn = if insn.size == 0 then of_size insn (size_left insn.name.0 insn.first insn.second insn.third) else Ok insn
