-- Instructions at the addresses of their places.
use Rattle.std.proofs.Common.{◌≡◌, ℕ, List, [], ◌∷◌, map, Option, None, Some, refl}
use Rattle.std.specs.Option.{option_and_then}
use Rattle.cfi_entries.specs.Places as placing
use Rattle.cfi_rows.specs.Rows.{Rows, common_row, changed, start_rows, ops_after}
use Rattle.cfi_directives.specs.declared.frames.PlacedOp.{PlacedOp}
use Rattle.asm_base.specs.declared.places.Place.{Place}
use Rattle.cfi_directives.specs.Rows.{rows_after, at_addresses}

-- the rows behind one instruction and the others
behind : (address : Place → ℕ) (ops : List PlacedOp)
    → ((rows : Rows) → placing.rows_after common_row (at_addresses address ops) rows ≡ ops_after common_row (map (λ placed. placed.op) ops) rows)
    → (due : Option Rows)
    → option_and_then (placing.rows_after common_row (at_addresses address ops)) due
    ≡ option_and_then (ops_after common_row (map (λ placed. placed.op) ops)) due
behind address ops below None = refl
behind address ops below (Some rows) = below rows

addressed : (address : Place → ℕ) (ops : List PlacedOp) (rows : Rows)
    → placing.rows_after common_row (at_addresses address ops) rows ≡ ops_after common_row (map (λ placed. placed.op) ops) rows
addressed address [] rows = refl
addressed address (placed ∷ ops) rows = behind address ops (addressed address ops) (changed common_row placed.op rows)

pub addressed_rows : (address : Place → ℕ) (ops : List PlacedOp)
    → placing.rows_after common_row (at_addresses address ops) (start_rows common_row) ≡ rows_after ops
addressed_rows address ops = addressed address ops (start_rows common_row)
