-- What the check of a written frame table answers.
use Rattle.std.specs.Prelude.{◌≡◌, ◌≤◌, ◌<◌, ◌+◌, ◌*◌, ℕ, true, Some, List, Result, Ok, Err, slice_get}
use Rattle.asm_base.specs.declared.refusals.Refusal.{Refusal}
use Rattle.asm_base.specs.declared.refusals.Refusal.TheVariants.{Fault, NoMemory}
use Rattle.code_functions.specs.declared.items.CodeItem.{CodeItem}
use Rattle.flow_graph.specs.declared.nodes.Node.{Node}
use Rattle.stack_depths.specs.Distances.{AreDistances, AreReached, edges}
use Rattle.stack_facts.specs.Facts.{AreKeptFacts, saves}
use Rattle.scfi_pass.specs.Tables.{Analyzed, situation}
use Rattle.cfi_checks.specs.declared.rows.RowFrom.{RowFrom}
use Rattle.cfi_checks.specs.declared.faults.CheckFault.{CheckFault}
use Rattle.cfi_checks.specs.declared.faults.CheckedFault.{CheckedFault}
use Rattle.cfi_checks.specs.Rows.{row_at}
use Rattle.cfi_checks.specs.Faults.{IsShown, IsFirst}

-- a function with these items and this graph is analyzed between these counts of steps
pub record Analyzes (a : Analyzed) (items : List CodeItem) (nodes : List Node) (old new : ℕ) : Type 0 where
  pub same_items : a.items ≡ items
  pub same_nodes : a.nodes ≡ nodes
  -- what is known and stands is what all walks agree on, of kept facts
  pub distances : AreDistances nodes items a.distances
  pub reached : AreReached nodes a.reached
  pub facts : AreKeptFacts nodes items a.distances a.facts
  -- within the bounds of both analyses
  pub cost : new ≤ old + (8 * edges nodes + 1) + ((saves items a.distances + 7) * edges nodes + 1)

-- the row in force at an item is right, if a walk leads there
abbrev pub IsShownAt : Analyzed → List RowFrom → ℕ → Type 0
IsShownAt a rows j = a.reached j ≡ true → (item : CodeItem) (node : Node) → slice_get a.items j ≡ Some item → slice_get a.nodes j ≡ Some node
    → IsShown (situation a j item node) (row_at rows j)

-- a walk leads to the item, and this is its first fault
pub record IsFaultAt (a : Analyzed) (rows : List RowFrom) (j : ℕ) (fault : CheckFault) : Type 0 where
  pub reached : a.reached j ≡ true
  pub item : CodeItem
  pub node : Node
  pub item_there : slice_get a.items j ≡ Some item
  pub node_there : slice_get a.nodes j ≡ Some node
  pub first : IsFirst (situation a j item node) (row_at rows j) fault

-- the first fault of a table: that of the least item with a walk that has one
pub record IsFirstFault (a : Analyzed) (rows : List RowFrom) (j : ℕ) (fault : CheckFault) : Type 0 where
  pub here : IsFaultAt a rows j fault
  pub shown : (i : ℕ) → i < j → IsShownAt a rows i

-- the rows are right at each item to which a walk leads
abbrev pub IsRight : List CodeItem → List Node → List RowFrom → (old new : ℕ) → Type 0
IsRight items nodes rows old new = (a : Analyzed) × Analyzes a items nodes old new × ((j : ℕ) → IsShownAt a rows j)

-- a fault is the first one of the table
abbrev pub IsFaultOf : {A : Type 0} → List CodeItem → List Node → List RowFrom → (old new : ℕ) → Result A (Refusal CheckedFault) → Type 0
IsFaultOf items nodes rows old new (Ok made) = Unit {0}
IsFaultOf items nodes rows old new (Err NoMemory) = Unit {0}
IsFaultOf items nodes rows old new (Err (Fault f)) = (a : Analyzed) × Analyzes a items nodes old new × IsFirstFault a rows f.item f.fault
