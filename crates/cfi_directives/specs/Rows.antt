-- The row in force behind instructions of a procedure.
use Rattle.std.specs.Prelude.{ℕ, List, map, Option}
use Rattle.cfi_rows.specs.Rows.{Rows, start_rows, common_row, ops_after}
use Rattle.cfi_entries.specs.Places.{Placed}
use Rattle.cfi_directives.specs.declared.frames.PlacedOp.{PlacedOp}
use Rattle.asm_base.specs.declared.places.Place.{Place}

-- the row and the remembered ones behind the instructions of a procedure, which begins with the row of the common entry; none where they can't be run
abbrev pub rows_after : List PlacedOp → Option Rows
rows_after ops = ops_after common_row (map (λ placed. placed.op) ops) (start_rows common_row)

-- the instructions at the addresses that their places get
abbrev pub at_addresses : (Place → ℕ) → List PlacedOp → List Placed
at_addresses address ops = map (λ placed. (address placed.place, placed.op)) ops
