-- The moves that extend a source of fewer bits, by how many it has (Intel SDM, volume 2, MOVSX and MOVZX; GNU as manual, "i386-Mnemonics").
use Rattle.std.specs.Prelude.{ℕ, ◌==◌, Option, Some, None, Result, Ok, Err, if◌then◌else◌}
use Rattle.std.specs.List.{find}
use Rattle.x86_insn.specs.declared.insns.Slot.{Slot}
use Rattle.x86_insn.specs.declared.insns.Slot.TheVariants as slot
use Rattle.x86_table.specs.declared.forms.Row.{Row}
use Rattle.x86_table.specs.declared.mnemonics.integers.TheConstants.{MOVZX_BYTE, MOVZX_WORD, MOVSX_BYTE, MOVSX_WORD, MOVSXD}
use Rattle.x86_table.specs.Rows.{the_rows}
use Rattle.x86_lookup.specs.declared.names.Rule.{Rule}
use Rattle.x86_lookup.specs.Mnemonics.{is_by_source}
use Rattle.att_operands.specs.declared.faults.OperandCause.{OperandCause}
use Rattle.att_operands.specs.declared.faults.OperandCause.TheVariants.{UnknownOperandSize}
use Rattle.att_insns.specs.InsnTexts.{InsnText}
use Rattle.att_insns.specs.Rules.{no_name, ruled}
use Rattle.x86_lookup.specs.Forms.{width, is_form}

-- the name of the move from 8 bits, from 16 bits
abbrev pub word_name : ℕ → ℕ
word_name name = if name == MOVZX_BYTE then MOVZX_WORD else (if name == MOVSX_BYTE then MOVSX_WORD else name)

-- and from 32 bits, which extends the sign alone
abbrev pub long_name : ℕ → ℕ
long_name name = if name == MOVSX_BYTE then MOVSXD else no_name.0

-- and from so many
abbrev pub source_name : ℕ → ℕ → ℕ
source_name bits name = if bits == 8 then name else (if bits == 16 then word_name name else (if bits == 32 then long_name name else no_name.0))

-- the instruction of this name
abbrev pub renamed : InsnText → ℕ → InsnText
renamed insn name = record insn { name = record { 0 = name } }

-- how many bits the source has, of which memory says so many, or 0 where none are said
abbrev pub source_bits : ℕ → Slot → ℕ
source_bits bits slot.Absent = 8
source_bits bits (slot.Register reg) = width reg.class
source_bits bits slot.Immediate = 8
source_bits bits slot.Memory = bits
source_bits bits slot.Target = 8

-- a form of the table that was found besides another one leaves the size open
abbrev pub unless_form : InsnText → Option Row → Result InsnText OperandCause
unless_form insn None = Ok insn
unless_form insn (Some r) = Err UnknownOperandSize

-- the source in memory says no size: it has 8 bits, if it can't have 16
unfoldable pub from_unsized : InsnText → Result InsnText OperandCause
from_unsized insn = unless_form insn (find (is_form (word_name insn.name.0) insn.first insn.second insn.third) the_rows)

-- the instruction by the bits of its source
abbrev pub by_bits : InsnText → ℕ → Result InsnText OperandCause
by_bits insn bits = if bits == 0 then from_unsized insn else Ok (renamed insn (source_name bits insn.name.0))

-- how many bits the source has, by the size that the letter of the mnemonic fixes or else by its register, or 0 where neither says it
abbrev pub said_bits : ℕ → Slot → ℕ
said_bits size source = if size == 0 then source_bits 0 source else size

-- the instruction by what says the bits of its source, which are not its operand size
abbrev pub by_source : InsnText → Result InsnText OperandCause
by_source insn = by_bits (record insn { size = 0 }) (said_bits insn.size insn.second)

-- the instruction that the operands mean by the rule of the mnemonic, if the bits of a source are known
abbrev pub meant_by : Rule → InsnText → Result InsnText OperandCause
meant_by rule insn = if is_by_source rule then by_source insn else Ok (ruled rule insn)
