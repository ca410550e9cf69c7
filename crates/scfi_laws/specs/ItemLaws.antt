-- What holds along executions from item to item.
use Rattle.std.specs.Prelude.{◌≡◌, ◌+◌, ℕ, true, false, List, map, Some, slice_get}
use Rattle.cfi_rows.specs.declared.rows.CfaRow.{CfaRow}
use Rattle.insn_effects.specs.Effects.{none, StackEffect}
use Rattle.insn_effects.specs.Followed.{wrap, followed}
use Rattle.flow_graph.specs.declared.nodes.Node.{Node}
use Rattle.flow_graph.specs.Walks.{IsWalk}
use Rattle.stack_facts.specs.Facts.{Fact, entry, slot}
use Rattle.scfi_pass.specs.Faults.{at_exit}
use Rattle.scfi_pass.specs.Rows.{IsRow, whole_row}
use Rattle.scfi_pass.specs.declared.rows.StackRow.{StackRow}
use Rattle.scfi_pass.specs.Tables.{Analyzed, IsAnalyzed}
use Rattle.x86_steps.specs.Memory.{word_at}
use Rattle.x86_steps.specs.States.{State}
use Rattle.x86_steps.specs.Acts.{Acts}
use Rattle.scfi_laws.specs.Performing.{held}
use Rattle.scfi_laws.specs.Executions.{frame_address, framed_word, Keeps, IsStart, KeptExecution}
use Rattle.scfi_laws.specs.Functions.{IsFunction, KeepsReturn, AreRestored}
use Rattle.scfi_laws.specs.Recovering.{Recovers, IsAsAtEntry, IsSupported}

-- the numbers of the items that are passed
abbrev pub passed : List State → List ℕ
passed earlier = map (λ (s : State). s.place) earlier

-- a fact is true of a state: the register holds, or the slot has, the register's entry value
abbrev pub IsTrueOf : (start now : State) → Fact → Type 0
IsTrueOf start now (entry r) = held now r ≡ held start r
IsTrueOf start now (slot n r) = framed_word start now n ≡ held start r

-- what is known and stands at an item is true of a state there
pub record IsTrueHere (a : Analyzed) (start now : State) : Type 0 where
  pub distances : (q k : ℕ) → a.distances now.place q ≡ Some k
      → held now q ≡ wrap (frame_address start + k)
  pub facts : (f : Fact) → a.facts now.place f ≡ true → IsTrueOf start now f

-- something holds of each kept execution of an analyzed function that begins at its first item
abbrev pub Along : (Analyzed → State → List State → State → Type 0) → Type 0
Along Holds = (a : Analyzed) (start : State) (earlier : List State) (now : State)
    → IsAnalyzed a → IsStart a start → KeptExecution a start earlier now
    → Holds a start earlier now

-- the items that are passed are a walk
abbrev pub ExecutionsAreWalks : Type 0
ExecutionsAreWalks = Along (λ a start earlier now. IsWalk a.nodes (passed earlier) now.place)

-- what is known and stands at the last item is true of the last state
abbrev pub KnownIsTrue : Type 0
KnownIsTrue = Along (λ a start earlier now. IsTrueHere a start now)

-- the 8 bytes below the frame address are those to which rsp pointed at entry
abbrev pub HasReturnAddress : (start now : State) → Type 0
HasReturnAddress start now =
    framed_word start now at_exit ≡ word_at start.memory (start.registers 4)

-- where nothing overwrites it, the return address stands
abbrev pub ReturnAddressStands : Type 0
ReturnAddressStands =
    Along (λ a start earlier now. KeepsReturn a → HasReturnAddress start now)

-- there each row that is supported at the last item recovers the caller
abbrev pub RowsRecover : Type 0
RowsRecover = Along (λ a start earlier now. KeepsReturn a → (row : CfaRow)
    → IsSupported (a.distances now.place) (a.facts now.place) row → Recovers row now start)

-- at an exit the seven registers are as at entry, if no exit has the fault that they are not
abbrev pub ExitsRestore : Type 0
ExitsRestore = Along (λ a start earlier now. IsFunction a → AreRestored a
    → (node : Node) → slice_get a.nodes now.place ≡ Some node → node.exits ≡ true
    → IsAsAtEntry now start)

-- the row that synthesis gives an item is supported there
abbrev pub RowsAreSupported : Type 0
RowsAreSupported = (a : Analyzed) (j : ℕ) (row : StackRow) → IsAnalyzed a
    → IsRow (a.distances j) (a.facts j) row
    → IsSupported (a.distances j) (a.facts j) (whole_row row)

-- a step of an effect that stores nowhere, and is no call, keeps what is asked of it: what is asked
-- beside the steps themselves is asked of stores and calls alone
abbrev pub QuietStepsKeep : Type 0
QuietStepsKeep = (a : Analyzed) (e : StackEffect) (start s t : State) → e.stores ≡ none
    → e.calls ≡ false → Acts e s t → Keeps (followed e) a start s t
