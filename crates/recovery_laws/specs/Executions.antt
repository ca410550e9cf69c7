-- Executions of a function over the bytes of its section, and what rows recover along them.
use Rattle.std.specs.Prelude.{◌≡◌, ◌-◌, ℕ, true, List, length, Option, Some, slice_get, IsSomeAnd}
use Rattle.cfi_rows.specs.declared.rows.CfaRow.{CfaRow}
use Rattle.flow_graph.specs.declared.nodes.Node.{Node}
use Rattle.scfi_pass.specs.Tables.{Analyzed}
use Rattle.x86_steps.specs.States.{State}
use Rattle.scfi_laws.specs.Recovering.{Recovers, IsAsAtEntry}
use Rattle.scfi_laws.specs.Laid.{Kind, Holds, IsLaid}
use Rattle.scfi_laws.specs.ByteExecutions.{KeptByBytes, IsEntry}

-- of a function of which this is known, and whose items begin at these places of the bytes
module _ (a : Analyzed) (starts : ℕ → ℕ) (code : List ℕ) where
  -- an execution over the bytes has come to a state. It began where the function does, with any
  -- registers and memory; each step did what is read where it was, and left the function nowhere.
  -- It kept what is asked of calls, and of stores whose place is not followed: they leave alone
  -- the return address and the slots that stand, and calls the registers that they keep. `kinds`
  -- says what each item is in bytes. The execution ends at returns. At a jump out of the function,
  -- or one whose field a linker fills in, it goes on at the label inside that the jump names, or
  -- behind the jump if that has a condition, or ends
  pub record Execution (kinds : ℕ → Kind) : Type 0 where
    pub start : State
    pub earlier : List State
    pub now : State
    pub entered : IsEntry a starts start
    pub kept : KeptByBytes a kinds starts code start earlier now

  -- an exit of the function holds the place of the state: a return, a jump out, or one to a label
  -- inside in whose place another object may put its own
  pub record IsAtExit (now : State) : Type 0 where
    pub number : ℕ
    pub node : Node
    pub holds : Holds starts (length a.items) number now.place
    pub there : slice_get a.nodes number ≡ Some node
    pub exits : node.exits ≡ true

  -- the items of the function lie in the bytes. Wherever an execution over these has come, the row
  -- that is given so far from where the function begins recovers the caller: its frame address,
  -- the return address and the registers that calls keep; and at exits these registers are as at
  -- entry
  pub record RowsRecover (row_at : ℕ → Option CfaRow) : Type 0 where
    pub kinds : ℕ → Kind
    pub lies : IsLaid a kinds starts code
    pub recovers : (run : Execution kinds)
        → IsSomeAnd (row_at (run.now.place - starts 0)) (λ row. Recovers row run.now run.start)
    pub restores : (run : Execution kinds) → IsAtExit run.now → IsAsAtEntry run.now run.start
