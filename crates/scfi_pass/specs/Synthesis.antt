-- What the synthesis of a frame table answers.
use Rattle.std.specs.Prelude.{◌≡◌, ◌≤◌, ◌+◌, ◌*◌, ◌++◌, ℕ, Result, Ok, Err, List}
use Rattle.asm_base.specs.declared.refusals.Refusal.{Refusal}
use Rattle.asm_base.specs.declared.refusals.Refusal.TheVariants.{Fault, NoMemory}
use Rattle.code_functions.specs.declared.items.CodeItem.{CodeItem}
use Rattle.flow_graph.specs.declared.nodes.Node.{Node}
use Rattle.stack_depths.specs.Distances.{edges}
use Rattle.stack_facts.specs.Facts.{saves}
use Rattle.stack_depths.specs.States.{distances_in, reached_in}
use Rattle.stack_facts.specs.States.{facts_in}
use Rattle.scfi_pass.specs.declared.rows.StackRow.{StackRow}
use Rattle.scfi_pass.specs.declared.item_ops.ItemOp.{ItemOp}
use Rattle.scfi_pass.specs.declared.walked.Walked.{Walked}
use Rattle.scfi_pass.specs.declared.walked.ItemFault.{ItemFault}
use Rattle.scfi_pass.specs.Tables.{Analyzed, IsAnalyzed, IsFrameTable, IsFaultAt, IsFirstFault, AreRowsFrom, ops_from, entry_row}

-- what the code has of a function
abbrev pub analyzed : Walked → Analyzed
analyzed w = record {
  items = w.items.now;
  nodes = w.graph.now;
  distances = distances_in w.depths.now;
  reached = reached_in w.depths.now;
  facts = facts_in w.facts.now;
}

-- a fault is that of this item
abbrev pub RefusesAt : {A : Type 0} → Analyzed → ℕ → Result A (Refusal ItemFault) → Type 0
RefusesAt a j (Ok made) = Unit {0}
RefusesAt a j (Err NoMemory) = Unit {0}
RefusesAt a j (Err (Fault f)) = (f.item ≡ j) × IsFaultAt a j f.fault

-- a fault is the first one of the function
abbrev pub Refuses : {A : Type 0} → Analyzed → Result A (Refusal ItemFault) → Type 0
Refuses a (Ok made) = Unit {0}
Refuses a (Err NoMemory) = Unit {0}
Refuses a (Err (Fault f)) = IsFirstFault a f.item f.fault

-- instructions and a row up to an item lead on to all instructions, whatever rows follow
abbrev pub LeadsOn : Analyzed → ℕ → StackRow → List ItemOp → Type 0
LeadsOn a k row ops = (rest : List StackRow) → AreRowsFrom a k row rest
    → (rows : List StackRow) × AreRowsFrom a 0 entry_row rows × (ops ++ ops_from k row rest ≡ ops_from 0 entry_row rows)

-- a function with these items and this graph is analyzed between these counts of steps
pub record Analyzes (a : Analyzed) (items : List CodeItem) (nodes : List Node) (old new : ℕ) : Type 0 where
  pub same_items : a.items ≡ items
  pub same_nodes : a.nodes ≡ nodes
  pub analyzed : IsAnalyzed a
  -- within the bounds of both analyses
  pub cost : new ≤ old + (8 * edges nodes + 1) + ((saves items a.distances + 7) * edges nodes + 1)

-- these instructions are the frame table of the function
abbrev pub IsTableOf : List CodeItem → List Node → (old new : ℕ) → List ItemOp → Type 0
IsTableOf items nodes old new ops = (a : Analyzed) × Analyzes a items nodes old new × IsFrameTable a ops

-- a fault is the first one of the function
abbrev pub IsFaultOf : {A : Type 0} → List CodeItem → List Node → (old new : ℕ) → Result A (Refusal ItemFault) → Type 0
IsFaultOf items nodes old new (Ok made) = Unit {0}
IsFaultOf items nodes old new (Err NoMemory) = Unit {0}
IsFaultOf items nodes old new (Err (Fault f)) = (a : Analyzed) × Analyzes a items nodes old new × IsFirstFault a f.item f.fault
