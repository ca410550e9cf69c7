-- What a `.cfi_` directive changes: the procedures, and of the symbols what naming its expressions does.
use Rattle.std.specs.Prelude.{◌≡◌, Bool, List, map, Ok}
use Rattle.asm_base.specs.declared.positions.Pos.{Pos}
use Rattle.asm_expr.specs.Trees.{Tree}
use Rattle.asm_uses.specs.Places.{end_naming}
use Rattle.asm_uses.specs.Tables.{Table, naming_of}
use Rattle.asm_values.specs.State.{Placed, with_names, with_table, here}
use Rattle.cfi_directives.specs.declared.lines.CfiLine.{CfiLine}
use Rattle.cfi_directives.specs.Procedures.{Procedures}
use Rattle.cfi_directives.specs.Taking.{PlacedLine, taken_from}
use Rattle.asm_frames.specs.Placing.{with_procedures}

-- a directive of a procedure, at the place where the next statement puts
abbrev pub line_here : Placed → CfiLine → PlacedLine
line_here placed line = record { line = line; at = (here placed).place }

-- each name of some expressions got a symbol and was allowed, the place where the statement stands may have got one too, directives of procedures were taken
-- there, and all else is what it was
pub record OnlyNames (pos : Pos) (before after : Placed) : Type 0 where
  pub trees : List Tree
  pub lines : List CfiLine
  pub procedures : Procedures
  pub keeps : Bool
  pub table : Table
  pub names : let named = with_names pos trees before in end_naming pos (naming_of trees before.table) (here named) keeps named.table ≡ Ok table
  pub taken : taken_from before.procedures (map (line_here before) lines) ≡ Ok procedures
  pub is : after ≡ with_procedures (with_table (with_names pos trees before) table) procedures
