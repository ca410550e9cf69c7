-- The instructions of a frame table are told at items of the function, in order.
use Rattle.std.proofs.Common.{◌≡◌, ℕ, ◌+◌, ◌<◌, List, [], ◌∷◌, length, All, sym, subst, arith}
use Rattle.std.proofs.lemmas.List.Elements.{All-nil, All-cons, All-append}
use Rattle.cfi_rows.specs.declared.rows.CfiOp.{CfiOp}
use Rattle.cfi_rows.specs.Differences.{differences}
use Rattle.code_functions.specs.declared.items.CodeItem.{CodeItem}
use Rattle.scfi_pass.specs.declared.item_ops.ItemOp.{ItemOp}
use Rattle.scfi_pass.specs.declared.rows.StackRow.{StackRow}
use Rattle.scfi_pass.specs.Changing.{told}
use Rattle.scfi_pass.specs.Rows.{whole_row}
use Rattle.scfi_pass.specs.Tables.{Analyzed, AreRowsFrom, ops_from, entry_row}
use Rattle.synthesis_laws.specs.WrittenTables.{TablesAreOfItems}

-- there are as many rows as items are left
rows_count : (a : Analyzed) (j : ℕ) (before : StackRow) (rows : List StackRow) → AreRowsFrom a j before rows → j + length rows ≡ length a.items
rows_count a j before [] is = omega (arith, is)
rows_count a j before (row ∷ rows) is =
    let rest = rows_count a (j + 1) row rows is.1 in
    omega (arith, rest)

-- what is told at an item is told there
told_there : (limit item : ℕ) (ops : List CfiOp) → item < limit → All (λ (op : ItemOp). op.item < limit) (told item ops)
told_there limit item [] low = All-nil _
told_there limit item (op ∷ ops) low = All-cons (λ (op : ItemOp). op.item < limit) (record { item = item; op = op }) (told item ops) low (told_there limit item ops low)

ops_within : (a : Analyzed) (j : ℕ) (before : StackRow) (rows : List StackRow) → AreRowsFrom a j before rows → All (λ (op : ItemOp). op.item < length a.items) (ops_from j before rows)
ops_within a j before [] is = All-nil _
ops_within a j before (row ∷ rows) is =
    let count = rows_count a j before (row ∷ rows) is in
    All-append (λ (op : ItemOp). op.item < length a.items) (told j (differences (whole_row before) (whole_row row))) (ops_from (j + 1) row rows)
    (told_there (length a.items) j (differences (whole_row before) (whole_row row)) (omega (arith, count)))
    (ops_within a (j + 1) row rows is.1)

-- each instruction of a frame table is told at an item of the function
pub tables_are_of_items : TablesAreOfItems
tables_are_of_items items nodes old new ops is =
    let a = is.0 in
    let rows = is.2.1 in
    let within = ops_within a 0 entry_row rows.0 rows.1 in
    subst (λ (all : List ItemOp). All (λ (op : ItemOp). op.item < length items) all) (sym rows.2)
    (subst (λ (held : List CodeItem). All (λ (op : ItemOp). op.item < length held) (ops_from 0 entry_row rows.0)) is.1.same_items within)
