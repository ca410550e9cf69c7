-- Placing the statements of a source one after the other: what comes of it, by the statements of the source.
use Rattle.std.specs.Prelude.{◌≡◌, List, fold, Option, Some, None, Result, Ok, Err}
use Rattle.asm_lines.specs.declared.faults.LineCause.{LineCause}
use Rattle.asm_lines.specs.Statements.{StatementAt}
use Rattle.asm_lines.specs.NextStatements.{TokenStatement}

-- one statement more, unless an earlier one has a fault
abbrev pub placed_next : {S F : Type 0} → (S → TokenStatement → Result S F) → Result S F → TokenStatement → Result S F
placed_next placed (Ok state) statement = placed state statement
placed_next placed (Err fault) statement = Err fault

-- the statements in order, up to the first that has a fault
unfoldable pub placed_in_order : {S F : Type 0} → (S → TokenStatement → Result S F) → S → List TokenStatement → Result S F
placed_in_order placed state statements = fold (placed_next placed) (Ok state) statements

-- the fault of the lines, if they have one
abbrev pub IsFaultOfLines : Option LineCause → Result (List StatementAt) LineCause → Type 0
IsFaultOfLines (Some cause) due = due ≡ Err cause
IsFaultOfLines None due = (statements : List StatementAt) × (due ≡ Ok statements)
