-- The texts of the messages, without the place.
use Rattle.std.specs.Prelude.{ℕ, List, ◌++◌, codes, Option, None, Some}
use Rattle.std.specs.Fmt.{signed_decimal}
use Rattle.asm_base.specs.declared.faults.StatementFault.{StatementFault}
use Rattle.asm_base.specs.declared.faults.StatementFault.TheVariants as statement
use Rattle.asm_base.specs.declared.faults.EndFault.{EndFault}
use Rattle.asm_base.specs.declared.faults.EndFault.TheVariants as end
use Rattle.asm_base.specs.declared.faults.SavedRegister.{SavedRegister}
use Rattle.asm_base.specs.declared.faults.SavedRegister.TheVariants.{Rbx, Rbp, R12, R13, R14, R15}
use Rattle.asm_base.specs.declared.faults.ScfiFault.{ScfiFault}
use Rattle.asm_base.specs.declared.faults.ScfiFault.TheVariants as scfi
use Rattle.asm_base.specs.declared.faults.Fault.{Fault}
use Rattle.asm_base.specs.declared.faults.Fault.TheVariants.{Statement, End, Scfi}
use Rattle.asm_base.specs.declared.faults.Note.{Note}
use Rattle.asm_base.specs.declared.faults.Note.TheVariants.{Written, CfiIgnored, ValueTruncated}

-- what `.error` says with its text, and `.err` without one
abbrev pub error_text : Option (List ℕ) → List ℕ
error_text None = codes ".err encountered"
error_text (Some text) = text

-- the text of a fault of a statement
abbrev pub statement_text : StatementFault → List ℕ
statement_text statement.NulByte = codes "NUL byte in source"
statement_text statement.UnclosedString = codes "string is not closed"
statement_text statement.UnclosedComment = codes "comment is not closed"
statement_text statement.StatementTooLong = codes "statement is too long"
statement_text statement.FileTooLarge = codes "source file is too large"
statement_text statement.BadExpression = codes "bad expression"
statement_text statement.NumberTooWide = codes "number is too wide"
statement_text statement.ExpressionTooDeep = codes "expression is nested too deeply"
statement_text statement.DivisionByZero = codes "division by zero"
statement_text statement.ValueNotKnown = codes "value is not known here"
statement_text statement.NotASumOfSymbols = codes "expression is not a sum of symbols"
statement_text statement.BadMacroLine = codes "bad macro line"
statement_text statement.MissingArgument = codes "missing macro argument"
statement_text statement.UnclosedBlock = codes "block is not closed"
statement_text statement.EndWithoutBeginning = codes "end without a beginning"
statement_text statement.NestedTooDeeply = codes "nested too deeply"
statement_text statement.ExpansionTooLong = codes "expansion is too long"
statement_text statement.MacroAlreadyDefined = codes "macro is already defined"
statement_text (statement.ErrorDirective text) = error_text text
statement_text statement.UnknownMnemonic = codes "unknown mnemonic"
statement_text statement.UnknownDirective = codes "unknown directive"
statement_text statement.BadOperand = codes "bad operand"
statement_text statement.NoSuchForm = codes "no form with these operands"
statement_text statement.UnknownOperandSize = codes "operand size is not known"
statement_text statement.OutOfRange = codes "value out of range"
statement_text statement.BadSection = codes "bad section"
statement_text statement.SymbolAlreadyDefined = codes "symbol is already defined"
statement_text statement.BadSymbolUse = codes "bad use of symbol"
statement_text statement.CfiOutsideProcedure = codes "CFI directive outside a procedure"
statement_text statement.UnbalancedCfiState = codes "CFI states do not balance"
statement_text statement.FunctionSplit = codes "function is split over sections"
statement_text statement.BadFileName = codes "bad file name"
statement_text statement.UnassignedFileNumber = codes "file number is not assigned"
statement_text statement.FileNumberInUse = codes "file number is already in use"

-- the text of a fault that shows at the end of the source
abbrev pub end_text : EndFault → List ℕ
end_text end.UndefinedLocalSymbol = codes "undefined local symbol"
end_text end.NoRelocation = codes "no relocation for this value"
end_text end.DistanceOutOfRange = codes "distance out of range"
end_text end.OrgMovesBackwards = codes ".org moves backwards"
end_text end.SectionTooLarge = codes "section is too large"
end_text end.UnclosedProcedure = codes "CFI procedure is not closed"
end_text end.WarningsAreErrors = codes "warnings are treated as errors"

-- the name of a register that calls keep (psABI for AMD64, section 3.2.1)
abbrev pub register_name : SavedRegister → List ℕ
register_name Rbx = codes "rbx"
register_name Rbp = codes "rbp"
register_name R12 = codes "r12"
register_name R13 = codes "r13"
register_name R14 = codes "r14"
register_name R15 = codes "r15"

-- the text of a fault of the synthesis of frame tables
abbrev pub scfi_text : ScfiFault → List ℕ
scfi_text scfi.FrameLost = codes "SCFI: frame is lost"
scfi_text (scfi.RegisterLost register) =
    codes "SCFI: %" ++ register_name register ++ codes " is lost"
scfi_text scfi.ReturnAddressOverwritten = codes "SCFI: return address is overwritten"
scfi_text (scfi.StackNotRestored None) = codes "SCFI: stack is not restored: unknown"
scfi_text (scfi.StackNotRestored (Some distance)) =
    codes "SCFI: stack is not restored: " ++ signed_decimal distance
scfi_text (scfi.RegisterNotRestored register) =
    codes "SCFI: %" ++ register_name register ++ codes " is not restored"
scfi_text scfi.UntraceableJump = codes "SCFI: jump cannot be traced"
scfi_text scfi.CallIntoFunction = codes "SCFI: call into the function"
scfi_text scfi.NotInstructions = codes "SCFI: code is not instructions"
scfi_text scfi.RunsPastEnd = codes "SCFI: function runs past its end"
scfi_text scfi.UnsupportedStackUse = codes "SCFI: unsupported stack use"
scfi_text scfi.OffsetTooLarge = codes "SCFI: offset is too large"

-- the text of any fault
abbrev pub fault_text : Fault → List ℕ
fault_text (Statement fault) = statement_text fault
fault_text (End fault) = end_text fault
fault_text (Scfi fault) = scfi_text fault

-- the text of a warning
abbrev pub note_text : Note → List ℕ
note_text (Written text) = text
note_text CfiIgnored = codes "CFI directives are ignored under synthesis"
note_text ValueTruncated = codes "value is truncated"
