-- The rows that the instructions of a frame table give at the places of their items.
use Rattle.std.specs.Prelude.{◌≡◌, ◌<◌, ◌≤◌, ℕ, List, map, length, Some, slice_get}
use Rattle.cfi_rows.specs.Rows.{common_row, start_rows}
use Rattle.cfi_entries.specs.Places.{Placed, row_after}
use Rattle.code_functions.specs.declared.items.CodeItem.{CodeItem}
use Rattle.flow_graph.specs.declared.nodes.Node.{Node}
use Rattle.scfi_pass.specs.declared.rows.StackRow.{StackRow}
use Rattle.scfi_pass.specs.declared.item_ops.ItemOp.{ItemOp}
use Rattle.scfi_pass.specs.Rows.{whole_row}
use Rattle.scfi_pass.specs.Tables.{Analyzed, AreRowsFrom, entry_row}
use Rattle.scfi_pass.specs.Synthesis.{Analyzes, IsTableOf}

-- each instruction at the address of its item
abbrev pub at_items : (ℕ → ℕ) → List ItemOp → List Placed
at_items address ops = map (λ held. (address held.item, held.op)) ops

-- of so many items none stands behind a later one
abbrev pub AreRising : (ℕ → ℕ) → ℕ → Type 0
AreRising address count = (i j : ℕ) → i ≤ j → j < count → address i ≤ address j

-- of so many items this is the last one that stands at or before an address
pub record IsLastUpTo (address : ℕ → ℕ) (count at item : ℕ) : Type 0 where
  pub before : address item ≤ at
  pub behind : (later : ℕ) → item < later → later < count → at < address later

-- wherever the items stand, the instructions give at an address the row of the last item up to it
abbrev pub GiveRows : ℕ → List StackRow → List ItemOp → Type 0
GiveRows count rows ops = (address : ℕ → ℕ) (at item : ℕ) (row : StackRow) → AreRising address count
    → IsLastUpTo address count at item → slice_get rows item ≡ Some row
    → row_after common_row at (at_items address ops) (start_rows common_row) ≡ Some (whole_row row)

-- the rows of the items of an analyzed function, which its frame table gives
pub record HasRows (items : List CodeItem) (nodes : List Node) (old new : ℕ)
    (ops : List ItemOp) : Type 0 where
  pub function : Analyzed
  pub rows : List StackRow
  pub analyzes : Analyzes function items nodes old new
  pub are : AreRowsFrom function 0 entry_row rows
  pub given : GiveRows (length items) rows ops

-- a frame table gives at the places of each item the row of that item
abbrev pub TablesGiveRows : Type 0
TablesGiveRows = (items : List CodeItem) (nodes : List Node) (old new : ℕ) (ops : List ItemOp)
    → IsTableOf items nodes old new ops → HasRows items nodes old new ops
