-- What a directive says as an instruction (GNU as manual, "CFI directives").
use Rattle.std.specs.Prelude.{ℕ, ℤ, ◌+ℤ◌, ◌-ℤ◌, Option, Some, None, Result, Ok, Err, if◌then◌else◌}
use Rattle.cfi_rows.specs.declared.rows.CfiOp.{CfiOp}
use Rattle.cfi_rows.specs.declared.rows.CfiOp.TheVariants as op
use Rattle.cfi_rows.specs.declared.rows.Rule.TheVariants as rule
use Rattle.cfi_directives.specs.declared.faults.CfiCause.{CfiCause}
use Rattle.cfi_directives.specs.declared.faults.CfiCause.TheVariants.{OutOfRange, CfiOutsideProcedure}
use Rattle.cfi_directives.specs.declared.lines.RowDirective.{RowDirective}
use Rattle.cfi_directives.specs.declared.lines.RowDirective.TheVariants.{DefCfa, DefCfaRegister, DefCfaOffset, AdjustCfaOffset, Offset, RelOffset, ValOffset, Register, RememberState, RestoreState, Restore, Undefined, SameValue}
use Rattle.cfi_directives.specs.Writable.{is_writable}

-- the instruction, if it can be written
abbrev pub if_writable : CfiOp → Result CfiOp CfiCause
if_writable op = if is_writable op then Ok op else Err OutOfRange

-- what an adjustment by this says, where the CFA has this offset
abbrev pub adjusted : Option ℤ → ℤ → Result CfiOp CfiCause
adjusted None by = Err CfiOutsideProcedure
adjusted (Some cfa) by = if_writable (op.DefCfaOffset (cfa +ℤ by))

-- what a slot at this offset from the CFA's register says, where the CFA has this offset
abbrev pub relative : Option ℤ → ℕ → ℤ → Result CfiOp CfiCause
relative None number offset = Err CfiOutsideProcedure
relative (Some cfa) number offset = if_writable (op.Set number (rule.Offset (offset -ℤ cfa)))

-- what a directive says where the CFA has this offset, if a procedure is open
abbrev pub said : Option ℤ → RowDirective → Result CfiOp CfiCause
said cfa (DefCfa register offset) = if_writable (op.DefCfa register.number offset)
said cfa (DefCfaRegister register) = if_writable (op.DefCfaRegister register.number)
said cfa (DefCfaOffset offset) = if_writable (op.DefCfaOffset offset)
said cfa (AdjustCfaOffset by) = adjusted cfa by
said cfa (Offset register offset) = if_writable (op.Set register.number (rule.Offset offset))
said cfa (RelOffset register offset) = relative cfa register.number offset
said cfa (ValOffset register offset) = if_writable (op.Set register.number (rule.ValueOffset offset))
said cfa (Register register other) = if_writable (op.Set register.number (rule.Register other.number))
said cfa RememberState = if_writable op.Remember
said cfa RestoreState = if_writable op.RestoreState
said cfa (Restore register) = if_writable (op.Restore register.number)
said cfa (Undefined register) = if_writable (op.Set register.number rule.Undefined)
said cfa (SameValue register) = if_writable (op.Set register.number rule.SameValue)
