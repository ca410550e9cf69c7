-- What holds along executions over bytes.
use Rattle.std.specs.Prelude.{◌≡◌, ℕ, true, List, Some, length, slice_get}
use Rattle.cfi_rows.specs.declared.rows.CfaRow.{CfaRow}
use Rattle.flow_graph.specs.declared.nodes.Node.{Node}
use Rattle.scfi_pass.specs.Tables.{Analyzed}
use Rattle.x86_steps.specs.States.{State}
use Rattle.scfi_laws.specs.Functions.{IsFunction, AreTraced, KeepsReturn, AreRestored}
use Rattle.scfi_laws.specs.Recovering.{Recovers, IsAsAtEntry, IsSupported}
use Rattle.scfi_laws.specs.ItemLaws.{IsTrueHere, HasReturnAddress}
use Rattle.scfi_laws.specs.Laid.{Kind, Holds, IsLaid}
use Rattle.scfi_laws.specs.ByteExecutions.{at, KeptByBytes, IsEntry, Stands}

-- something holds of each kept execution over the bytes of a laid function that can be traced
abbrev pub AlongBytes : (Analyzed → (starts : ℕ → ℕ) → (start now : State) → Type 0) → Type 0
AlongBytes Holding = (a : Analyzed) (kinds : ℕ → Kind) (starts : ℕ → ℕ) (code : List ℕ)
    (start : State) (earlier : List State) (now : State) → IsFunction a → AreTraced a
    → IsLaid a kinds starts code → IsEntry a starts start
    → KeptByBytes a kinds starts code start earlier now → Holding a starts start now

-- it is an execution from item to item
abbrev pub BytesAreItems : Type 0
BytesAreItems = AlongBytes (λ a starts start now. Stands a starts start now)

-- what is known and stands at the item that holds the place is true of the state there
abbrev pub KnownIsTrueInBytes : Type 0
KnownIsTrueInBytes = AlongBytes (λ a starts start now. (i : ℕ)
    → Holds starts (length a.items) i now.place → IsTrueHere a start (at i now))

-- where nothing overwrites it, the return address stands
abbrev pub ReturnAddressStandsInBytes : Type 0
ReturnAddressStandsInBytes =
    AlongBytes (λ a starts start now. KeepsReturn a → HasReturnAddress start now)

-- a row that is supported at the item that holds the place recovers the caller, where nothing
-- overwrites the return address
abbrev pub RowsRecoverInBytes : Type 0
RowsRecoverInBytes = AlongBytes (λ a starts start now. KeepsReturn a → (row : CfaRow)
    → ((i : ℕ) → Holds starts (length a.items) i now.place
    → IsSupported (a.distances i) (a.facts i) row)
    → Recovers row now start)

-- where an exit holds the place the seven registers are as at entry, if no exit has the fault that
-- they are not
abbrev pub ExitsRestoreInBytes : Type 0
ExitsRestoreInBytes = AlongBytes (λ a starts start now. AreRestored a
    → (i : ℕ) (node : Node) → Holds starts (length a.items) i now.place
    → slice_get a.nodes i ≡ Some node → node.exits ≡ true → IsAsAtEntry now start)
