-- What the types of the program stand for.
use Rattle.item_rows.specs.declared.rows.RowsIn.{RowsIn as TheRows}
use Rattle.item_rows.specs.ItemRows.{RowsIn}

-- what distances are told by
abbrev pub told_rows : TheRows → RowsIn
told_rows rows = record { map = rows.symbols.now; starts = rows.starts.now; count = rows.count }
