-- What `.loc`, and `.file` with a number, change: the line table, and of the symbols what naming their expressions does.
use Rattle.std.specs.Prelude.{◌≡◌, false, List, All, slice_get, IsSomeAnd, Ok}
use Rattle.asm_base.specs.declared.positions.Pos.{Pos}
use Rattle.asm_expr.specs.Trees.{Tree}
use Rattle.asm_frags.specs.Writing.{takes_zeros_alone}
use Rattle.asm_uses.specs.Tables.{naming_of, allowed}
use Rattle.asm_values.specs.State.{Placed, with_names, here}
use Rattle.line_directives.specs.Order.{IsInRange}
use Rattle.line_directives.specs.Taking.{LineTable, LineDirective, numbered_file, loc, taken_from}
use Rattle.asm_line_tables.specs.Placing.{with_lines}

-- a row is at the place where the next statement puts, in a section that is there and takes more than zeros
abbrev pub StandsHere : Placed → LineDirective → Type 0
StandsHere placed (numbered_file pos number directory name) = Unit {0}
StandsHere placed (loc line at) =
    (at ≡ (here placed).place) × IsSomeAnd (slice_get placed.sections placed.current) (λ held. takes_zeros_alone held ≡ false)

-- the numbers of a directive are in their ranges, its paths have no zero byte, and a row is where the statement stands
abbrev pub FitsHere : Placed → LineDirective → Type 0
FitsHere placed directive = IsInRange directive × StandsHere placed directive

-- each name of some expressions got a symbol and was allowed, directives of line tables were taken at the place where the statement stands, and all
-- else is what it was
pub record OnlyLines (pos : Pos) (before after : Placed) : Type 0 where
  pub trees : List Tree
  pub directives : List LineDirective
  pub lines : LineTable
  pub names : let table = (with_names pos trees before).table in allowed (naming_of trees before.table) table ≡ Ok table
  pub fit : All (FitsHere before) directives
  pub taken : taken_from before.lines directives ≡ Ok lines
  pub is : after ≡ with_lines (with_names pos trees before) lines
