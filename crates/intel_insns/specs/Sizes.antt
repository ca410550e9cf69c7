-- The operand size of an instruction: what the mnemonic fixes, or else the size of all rows that take such operands, and memory of so many bits.
use Rattle.std.specs.Prelude.{ℕ, ◌==◌, ◌||◌, Bool, not, Option, Some, None, Result, Ok, Err, if◌then◌else◌}
use Rattle.std.specs.List.{find, list_all}
use Rattle.x86_table.specs.declared.forms.Row.{Row}
use Rattle.x86_table.specs.Rows.{the_rows}
use Rattle.x86_lookup.specs.Forms.{is_form_of}
use Rattle.att_operands.specs.declared.faults.OperandCause.{OperandCause}
use Rattle.att_operands.specs.declared.faults.OperandCause.TheVariants.{UnknownOperandSize}
use Rattle.att_insns.specs.InsnTexts.{InsnText}
use Rattle.att_insns.specs.Rules.{no_name}

-- the row is a form of the instruction with memory of so many bits
abbrev pub form_of : ℕ → InsnText → Row → Bool
form_of bits insn r = is_form_of bits insn.name.0 insn.first insn.second insn.third r

-- the row is no form of the instruction, or has this size
abbrev pub agrees : ℕ → InsnText → ℕ → Row → Bool
agrees bits insn size r = not (form_of bits insn r) || (r.size == size)

-- the instruction with the size of its forms, the first of which is this one; without a form it has no name either
abbrev pub sized_by : ℕ → InsnText → Option Row → Result InsnText OperandCause
sized_by bits insn None = Ok (record insn { name = no_name })
sized_by bits insn (Some r) =
    if list_all (agrees bits insn r.size) the_rows then Ok (record insn { size = r.size }) else Err UnknownOperandSize

-- the same of all forms
unfoldable pub size_left : ℕ → InsnText → Result InsnText OperandCause
size_left bits insn = sized_by bits insn (find (form_of bits insn) the_rows)

-- the instruction with its size
abbrev pub sized : ℕ → InsnText → Result InsnText OperandCause
sized bits insn = if insn.size == 0 then size_left bits insn else Ok insn
