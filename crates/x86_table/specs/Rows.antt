-- The rows of the instruction table.
use Rattle.std.specs.Prelude.{List}
use Rattle.x86_table.specs.declared.table.TheConstants.{ROWS}
use Rattle.x86_table.specs.declared.forms.Row.{Row}

-- all rows, in order
unfoldable pub the_rows : List Row
the_rows = ROWS
