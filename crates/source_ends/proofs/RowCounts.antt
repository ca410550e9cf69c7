-- How many rows the items of a function have.
use Rattle.std.proofs.Common.{◌≡◌, ℕ, ◌+◌, List, [], ◌∷◌, length, arith}
use Rattle.scfi_pass.specs.declared.rows.StackRow.{StackRow}
use Rattle.scfi_pass.specs.Tables.{Analyzed, AreRowsFrom}

-- there are as many rows as items are left
pub rows_count : (a : Analyzed) (j : ℕ) (before : StackRow) (rows : List StackRow) → AreRowsFrom a j before rows → j + length rows ≡ length a.items
rows_count a j before [] is = omega (arith, is)
rows_count a j before (row ∷ rows) is =
    let rest = rows_count a (j + 1) row rows is.1 in
    omega (arith, rest)
