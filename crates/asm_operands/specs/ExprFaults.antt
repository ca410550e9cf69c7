-- The faults of expressions, as faults of a statement.
use Rattle.std.specs.Prelude.{Result, Ok, Err}
use Rattle.asm_operands.specs.declared.place_faults.PlaceCause.{PlaceCause}
use Rattle.asm_operands.specs.declared.place_faults.PlaceCause.TheVariants as placing
use Rattle.asm_expr.specs.declared.faults.ExprCause.{ExprCause}
use Rattle.asm_expr.specs.declared.faults.ExprCause.TheVariants.{BadExpression, NumberTooWide, ExpressionTooDeep, DivisionByZero, ValueNotKnown, NotASumOfSymbols}

-- the fault of the statement
abbrev pub stated : ExprCause → PlaceCause
stated BadExpression = placing.BadExpression
stated NumberTooWide = placing.NumberTooWide
stated ExpressionTooDeep = placing.ExpressionTooDeep
stated DivisionByZero = placing.DivisionByZero
stated ValueNotKnown = placing.ValueNotKnown
stated NotASumOfSymbols = placing.NotASumOfSymbols

-- what an expression gives, as a statement has it
abbrev pub in_statement : {A : Type 0} → Result A ExprCause → Result A PlaceCause
in_statement (Ok made) = Ok made
in_statement (Err fault) = Err (stated fault)
