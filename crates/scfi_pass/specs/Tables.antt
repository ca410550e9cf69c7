-- The frame table of a function, or its first fault.
use Rattle.std.specs.Prelude.{◌≡◌, ◌+◌, ◌<◌, ◌==◌, ℕ, Bool, true, false, Option, None, Some, List, [], ◌∷◌, ◌++◌, length, slice_get}
use Rattle.cfi_rows.specs.Differences.{differences}
use Rattle.code_functions.specs.declared.items.CodeItem.{CodeItem}
use Rattle.flow_graph.specs.declared.nodes.Node.{Node}
use Rattle.asm_base.specs.declared.faults.ScfiFault.{ScfiFault}
use Rattle.stack_depths.specs.Distances.{Distances, AreDistances, AreReached}
use Rattle.stack_facts.specs.Facts.{Fact, AreFacts}
use Rattle.scfi_pass.specs.declared.rows.StackRow.{StackRow}
use Rattle.scfi_pass.specs.declared.item_ops.ItemOp.{ItemOp}
use Rattle.scfi_pass.specs.Rows.{IsRow, AreRules, whole_row}
use Rattle.scfi_pass.specs.Changing.{told}
use Rattle.scfi_pass.specs.Faults.{Situation, IsSound, IsFirst, at_exit}

-- the items of a function, its graph, and what is known and stands at each item
pub record Analyzed : Type 0 where
  pub items : List CodeItem
  pub nodes : List Node
  pub distances : ℕ → Distances
  pub reached : ℕ → Bool
  pub facts : ℕ → Fact → Bool

-- what is known and stands is what all walks agree on
pub record IsAnalyzed (a : Analyzed) : Type 0 where
  pub distances : AreDistances a.nodes a.items a.distances
  pub reached : AreReached a.nodes a.reached
  pub facts : AreFacts a.nodes a.items a.distances a.facts

-- the situation at an item
abbrev pub situation : Analyzed → ℕ → CodeItem → Node → Situation
situation a j item node = record {
  item = item;
  node = node;
  last = j + 1 == length a.items;
  known = a.distances j;
  stands = a.facts j;
}

-- no fault is told at an item to which a walk leads
abbrev pub IsSoundAt : Analyzed → ℕ → Type 0
IsSoundAt a j = a.reached j ≡ true → (item : CodeItem) (node : Node) → slice_get a.items j ≡ Some item → slice_get a.nodes j ≡ Some node
    → IsSound (situation a j item node)

-- a walk leads to the item, and this is its first fault
pub record IsFaultAt (a : Analyzed) (j : ℕ) (fault : ScfiFault) : Type 0 where
  pub reached : a.reached j ≡ true
  pub item : CodeItem
  pub node : Node
  pub item_there : slice_get a.items j ≡ Some item
  pub node_there : slice_get a.nodes j ≡ Some node
  pub first : IsFirst (situation a j item node) fault

-- the first fault of a function: that of the least item with a walk that has one
pub record IsFirstFault (a : Analyzed) (j : ℕ) (fault : ScfiFault) : Type 0 where
  pub here : IsFaultAt a j fault
  pub sound : (i : ℕ) → i < j → IsSoundAt a i

-- the row of an item behind this row: that of its own, or, where no walk leads to it, the same
abbrev pub IsNextRow : Analyzed → ℕ → StackRow → StackRow → Type 0
IsNextRow a j before row = (a.reached j ≡ true → IsRow (a.distances j) (a.facts j) row) × (a.reached j ≡ false → row ≡ before)

-- the row is that of an item by what is known and stands there
abbrev pub IsOwnRow : Analyzed → ℕ → StackRow → Type 0
IsOwnRow a j row = IsRow (a.distances j) (a.facts j) row × AreRules (a.facts j) row

-- another row, or the one before
abbrev pub row_by : StackRow → Option StackRow → StackRow
row_by before None = before
row_by before (Some row) = row

-- a row has the rules of the six by what stands at an item, if there is one
abbrev pub IsHeld : Analyzed → ℕ → StackRow → Type 0
IsHeld a last row = last < length a.items → AreRules (a.facts last) row

-- the rows of the items from this one on, behind a row
abbrev pub AreRowsFrom : Analyzed → ℕ → StackRow → List StackRow → Type 0
AreRowsFrom a j before [] = j ≡ length a.items
AreRowsFrom a j before (row ∷ rows) = IsNextRow a j before row × AreRowsFrom a (j + 1) row rows

-- the instructions that lead from row to row, each with its item
abbrev pub ops_from : ℕ → StackRow → List StackRow → List ItemOp
ops_from j before [] = []
ops_from j before (row ∷ rows) = told j (differences (whole_row before) (whole_row row)) ++ ops_from (j + 1) row rows

-- the row at entry: the frame address is rsp + 8, and all six have their entry values
abbrev pub entry_row : StackRow
entry_row = record { cfa = record { register = 0; distance = at_exit }; rbx = None; rbp = None; r12 = None; r13 = None; r14 = None; r15 = None }

-- the frame table of a function without a fault: no fault is told at any item, and the instructions lead from row to row
abbrev pub IsFrameTable : Analyzed → List ItemOp → Type 0
IsFrameTable a ops = ((j : ℕ) → j < length a.items → IsSoundAt a j)
    × ((rows : List StackRow) × AreRowsFrom a 0 entry_row rows × (ops ≡ ops_from 0 entry_row rows))
