-- What directives say of their registers and their offsets (GNU as manual, "CFI directives").
use Rattle.std.specs.Prelude.{ℕ, ℤ}
use Rattle.std.specs.Int.{w64, cast_signed}
use Rattle.cfi_directives.specs.declared.lines.RowDirective.{RowDirective}
use Rattle.cfi_directives.specs.declared.lines.RowDirective.TheVariants as row
use Rattle.cfi_directives.specs.declared.registers.DwarfRegister.{DwarfRegister}
use Rattle.asm_frames.specs.declared.words.OffsetWord.{OffsetWord}
use Rattle.asm_frames.specs.declared.words.OffsetWord.TheVariants as offset
use Rattle.asm_frames.specs.declared.words.RuleWord.{RuleWord}
use Rattle.asm_frames.specs.declared.words.RuleWord.TheVariants as rule
use Rattle.asm_frames.specs.declared.words.SlotWord.{SlotWord}
use Rattle.asm_frames.specs.declared.words.SlotWord.TheVariants as slot

-- the 64 bits of an offset are a number with a sign
abbrev pub signed : ℕ → ℤ
signed value = cast_signed w64 value

-- what a directive says of a register and an offset
abbrev pub slot_row : SlotWord → DwarfRegister → ℤ → RowDirective
slot_row slot.DefCfa register value = row.DefCfa register value
slot_row slot.Offset register value = row.Offset register value
slot_row slot.RelOffset register value = row.RelOffset register value
slot_row slot.ValOffset register value = row.ValOffset register value

-- what a directive says of an offset
abbrev pub offset_row : OffsetWord → ℤ → RowDirective
offset_row offset.DefCfaOffset value = row.DefCfaOffset value
offset_row offset.AdjustCfaOffset value = row.AdjustCfaOffset value

-- what a directive says of each of its registers
abbrev pub rule_row : RuleWord → DwarfRegister → RowDirective
rule_row rule.Restore register = row.Restore register
rule_row rule.Undefined register = row.Undefined register
rule_row rule.SameValue register = row.SameValue register
