-- By the lemmas on the order of rows.
use Rattle.row_plans.proofs.RowOrder.{shifts_in_row, only_shifts}
use Rattle.row_plans.proofs.laws.rows_stand_in_row.Goals as goal

pub returns-clause-stand : goal.returns-clause-stand
returns-clause-stand c = shifts_in_row

pub returns-clause-only : goal.returns-clause-only
returns-clause-only c = only_shifts
