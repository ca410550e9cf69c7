-- The faults of placing as faults of statements, and the fault that only the reading of a file has.
use Rattle.std.specs.Prelude.{Bool, true, false, List}
use Rattle.asm_base.specs.Tokens.{SpelledToken}
use Rattle.asm_base.specs.declared.faults.StatementFault.{StatementFault}
use Rattle.asm_base.specs.declared.faults.StatementFault.TheVariants as statement
use Rattle.asm_base.specs.declared.faults.Fault.{Fault}
use Rattle.asm_base.specs.declared.faults.Fault.TheVariants.{Statement, End, Scfi}
use Rattle.asm_operands.specs.declared.place_faults.PlaceCause.{PlaceCause}
use Rattle.asm_operands.specs.declared.place_faults.PlaceCause.TheVariants.{BadExpression, NumberTooWide, ExpressionTooDeep, DivisionByZero, ValueNotKnown, NotASumOfSymbols, ErrorDirective, UnknownMnemonic, UnknownDirective, BadOperand, NoSuchForm, UnknownOperandSize, OutOfRange, BadSection, SymbolAlreadyDefined, BadSymbolUse, CfiOutsideProcedure, UnbalancedCfiState, UnassignedFileNumber, FileNumberInUse}
use Rattle.asm_place.specs.Remarks.{last_string}

-- the fault that placing answers, as one of the statement with these tokens
abbrev pub statement_fault : List SpelledToken → PlaceCause → StatementFault
statement_fault tokens BadExpression = statement.BadExpression
statement_fault tokens NumberTooWide = statement.NumberTooWide
statement_fault tokens ExpressionTooDeep = statement.ExpressionTooDeep
statement_fault tokens DivisionByZero = statement.DivisionByZero
statement_fault tokens ValueNotKnown = statement.ValueNotKnown
statement_fault tokens NotASumOfSymbols = statement.NotASumOfSymbols
statement_fault tokens ErrorDirective = statement.ErrorDirective (last_string tokens)
statement_fault tokens UnknownMnemonic = statement.UnknownMnemonic
statement_fault tokens UnknownDirective = statement.UnknownDirective
statement_fault tokens BadOperand = statement.BadOperand
statement_fault tokens NoSuchForm = statement.NoSuchForm
statement_fault tokens UnknownOperandSize = statement.UnknownOperandSize
statement_fault tokens OutOfRange = statement.OutOfRange
statement_fault tokens BadSection = statement.BadSection
statement_fault tokens SymbolAlreadyDefined = statement.SymbolAlreadyDefined
statement_fault tokens BadSymbolUse = statement.BadSymbolUse
statement_fault tokens CfiOutsideProcedure = statement.CfiOutsideProcedure
statement_fault tokens UnbalancedCfiState = statement.UnbalancedCfiState
statement_fault tokens UnassignedFileNumber = statement.UnassignedFileNumber
statement_fault tokens FileNumberInUse = statement.FileNumberInUse

-- a fault of a statement that says that a file is too large
abbrev pub is_too_large : StatementFault → Bool
is_too_large statement.FileTooLarge = true
is_too_large _ = false

-- a fault that says so
abbrev pub is_file_too_large : Fault → Bool
is_file_too_large (Statement fault) = is_too_large fault
is_file_too_large (End fault) = false
is_file_too_large (Scfi fault) = false
