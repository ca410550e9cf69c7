-- Rows at their places, and instructions that lead from each to the next.
use Rattle.std.specs.Prelude.{◌≡◌, ℕ, ◌≤◌, List, [], ◌∷◌, ◌++◌, Some, map, nat_le, if◌then◌else◌}
use Rattle.cfi_rows.specs.declared.rows.CfaRow.{CfaRow}
use Rattle.cfi_rows.specs.declared.rows.CfiOp.{CfiOp}
use Rattle.cfi_rows.specs.Rows.{rows_of, ops_after}
use Rattle.cfi_entries.specs.Places.{Placed}

-- a place, and the row from there on
abbrev pub RowPlace : Type 0
RowPlace = ℕ × CfaRow

-- no place is before the one before it
abbrev pub AreRising : ℕ → List RowPlace → Type 0
AreRising here [] = Unit {0}
AreRising here (next ∷ rows) = (here ≤ next.0) × AreRising next.0 rows

-- the last row that stands at or before a place
abbrev pub row_at_place : ℕ → CfaRow → List RowPlace → CfaRow
row_at_place at from [] = from
row_at_place at from (next ∷ rows) = if nat_le next.0 at then row_at_place at next.1 rows else from

-- instructions at one place
abbrev pub at_place : ℕ → List CfiOp → List Placed
at_place place ops = map (λ op. (place, op)) ops

-- the instructions give each row at its place
abbrev pub Leads : CfaRow → CfaRow → List RowPlace → List Placed → Type 0
Leads initial from [] ops = ops ≡ []
Leads initial from (next ∷ rows) ops =
    (here : List CfiOp) × (rest : List Placed) × (ops ≡ at_place next.0 here ++ rest)
    × ((saved : List CfaRow) → ops_after initial here (rows_of from saved) ≡ Some (rows_of next.1 saved))
    × Leads initial next.1 rows rest
