-- What synthesis answers of a function's items and nodes is one answer.
use Rattle.std.specs.Prelude.{◌≡◌, ◌≢◌, ℕ, List, Result, Err, IfOk}
use Rattle.asm_base.specs.declared.refusals.Refusal.{Refusal}
use Rattle.asm_base.specs.declared.refusals.Refusal.TheVariants.{Fault, NoMemory}
use Rattle.code_functions.specs.declared.items.CodeItem.{CodeItem}
use Rattle.flow_graph.specs.declared.nodes.Node.{Node}
use Rattle.scfi_pass.specs.declared.rows.StackRow.{StackRow}
use Rattle.scfi_pass.specs.declared.item_ops.ItemOp.{ItemOp}
use Rattle.scfi_pass.specs.declared.walked.ItemFault.{ItemFault}
use Rattle.scfi_pass.specs.Tables.{Analyzed, IsAnalyzed, AreRowsFrom, entry_row}
use Rattle.scfi_pass.specs.Synthesis.{IsTableOf, IsFaultOf}

-- two analyses of the same items and nodes are one: they know the same distances, reach the same
-- items, and the same facts stand there
abbrev pub AnalysesAreOne : Type 0
AnalysesAreOne = (one other : Analyzed) → one.items ≡ other.items → one.nodes ≡ other.nodes
    → IsAnalyzed one → IsAnalyzed other → one ≡ other

-- an analyzed function has one list of rows
abbrev pub RowsAreOne : Type 0
RowsAreOne = (a : Analyzed) (one other : List StackRow) → IsAnalyzed a
    → AreRowsFrom a 0 entry_row one → AreRowsFrom a 0 entry_row other → one ≡ other

-- the fault of a function, between these counts of steps
abbrev pub IsFaultHere : List CodeItem → List Node → (old new : ℕ) → ItemFault → Type 0
IsFaultHere items nodes old new fault =
    IsFaultOf {A = List ItemOp} items nodes old new (Err (Fault fault))

-- two frame tables of a function are one, whatever the counts of steps
abbrev pub TablesAreOne : Type 0
TablesAreOne = (items : List CodeItem) (nodes : List Node) (old new old_again new_again : ℕ)
    (one other : List ItemOp) → IsTableOf items nodes old new one
    → IsTableOf items nodes old_again new_again other → one ≡ other

-- so are two faults
abbrev pub FaultsAreOne : Type 0
FaultsAreOne = (items : List CodeItem) (nodes : List Node) (old new old_again new_again : ℕ)
    (one other : ItemFault) → IsFaultHere items nodes old new one
    → IsFaultHere items nodes old_again new_again other → one ≡ other

-- a function that has a table has no fault
abbrev pub TablesHaveNoFault : Type 0
TablesHaveNoFault = (items : List CodeItem) (nodes : List Node) (old new old_again new_again : ℕ)
    (ops : List ItemOp) (fault : ItemFault) → IsTableOf items nodes old new ops
    → IsFaultHere items nodes old_again new_again fault → ⊥

-- what `synthesize` answers of a function: its frame table, its first fault, or want of memory
abbrev pub Answer : Type 0
Answer = Result (List ItemOp) (Refusal ItemFault)

-- what it promises of its answer
abbrev pub IsAnswer : List CodeItem → List Node → (old new : ℕ) → Answer → Type 0
IsAnswer items nodes old new answer =
    IfOk answer (λ ops. IsTableOf items nodes old new ops) × IsFaultOf items nodes old new answer

-- two answers are one, but for want of memory
abbrev pub AnswersAreOne : Type 0
AnswersAreOne = (items : List CodeItem) (nodes : List Node) (old new old_again new_again : ℕ)
    (one other : Answer) → IsAnswer items nodes old new one
    → IsAnswer items nodes old_again new_again other → one ≢ Err NoMemory → other ≢ Err NoMemory
    → one ≡ other
