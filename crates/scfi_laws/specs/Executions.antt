-- Executions of a function from item to item, the first of which is item 0 in any state.
use Rattle.std.specs.Prelude.{◌≡◌, ◌+◌, ◌<◌, ℕ, Bool, true, false, Option, None, Some, List, [], ◌∷◌, length, Contains, slice_get}
use Rattle.insn_effects.specs.Followed.{wrap, Followed, followed_by}
use Rattle.code_functions.specs.declared.items.CodeItem.{CodeItem}
use Rattle.flow_graph.specs.Walks.{successors}
use Rattle.stack_facts.specs.declared.values.Span.{Span}
use Rattle.stack_facts.specs.Places.{stored_by}
use Rattle.stack_facts.specs.Facts.{Fact, slot}
use Rattle.scfi_pass.specs.Faults.{at_exit}
use Rattle.scfi_pass.specs.Tables.{Analyzed}
use Rattle.x86_steps.specs.Memory.{word_at}
use Rattle.x86_steps.specs.States.{State, IsRanged}
use Rattle.scfi_laws.specs.Performing.{held, Performs}

-- the frame address of an execution that began in this state: rsp at entry, and 8 more (DWARF 5,
-- section 6.4; psABI for AMD64, section 3.2.2)
abbrev pub frame_address : State → ℕ
frame_address start = wrap (start.registers 4 + 8)

-- the 8 bytes at a distance from it
abbrev pub framed_word : (start now : State) → (distance : ℕ) → ℕ
framed_word start now n = word_at now.memory (frame_address start + n)

-- the 8 bytes of the return address stay
abbrev pub ReturnStays : (start s t : State) → Type 0
ReturnStays start s t = framed_word start t at_exit ≡ framed_word start s at_exit

-- they do, and so do the slots that stand
pub record LeavesAlone (stands : Fact → Bool) (start s t : State) : Type 0 where
  pub return_address : ReturnStays start s t
  pub slots : (n r : ℕ) → stands (slot n r) ≡ true → framed_word start t n ≡ framed_word start s n

-- a step without a store at a fixed address leaves alone the return address and the slots that
-- stand before it; where it stores nothing it does so anyway
abbrev pub KeepsUnless : Option Span → (stands : Fact → Bool) → (start s t : State) → Type 0
KeepsUnless None stands start s t = LeavesAlone stands start s t
KeepsUnless (Some span) stands start s t = Unit {0}

-- a call leaves alone the seven registers, the return address and the slots that stand after it
pub record KeepsCall (stands : Fact → Bool) (start s t : State) : Type 0 where
  pub registers : (q : ℕ) → q < 7 → held t q ≡ held s q
  pub memory : LeavesAlone stands start s t

-- what a step from item to item keeps, which may be a call; the items' numbers are places here
abbrev pub KeepsAt : (calls : Bool) → Followed → Analyzed → (start s t : State) → Type 0
KeepsAt true e a start s t = KeepsCall (a.facts t.place) start s t
KeepsAt false e a start s t =
    KeepsUnless (stored_by e.stores (a.distances s.place)) (a.facts s.place) start s t

-- the same of an item of which this is followed
abbrev pub Keeps : Followed → Analyzed → (start s t : State) → Type 0
Keeps e a start s t = KeepsAt e.calls e a start s t

-- a step from an item to one of its successors
pub record KeptStep (a : Analyzed) (start s t : State) : Type 0 where
  pub item : CodeItem
  pub there : slice_get a.items s.place ≡ Some item
  pub next : Contains (successors a.nodes s.place) t.place
  pub performs : Performs (followed_by item.effect) s t
  pub range : IsRanged t
  pub keeps : Keeps (followed_by item.effect) a start s t

-- from a state through earlier states, the last one first, to this one
abbrev pub KeptExecution : Analyzed → (start : State) → List State → (now : State) → Type 0
KeptExecution a start [] now = now ≡ start
KeptExecution a start (s ∷ earlier) now = KeptExecution a start earlier s × KeptStep a start s now

-- the execution begins at the first item, if there is one, with any registers and memory
pub record IsStart (a : Analyzed) (start : State) : Type 0 where
  pub place : start.place ≡ 0
  pub some : 0 < length a.nodes
  pub range : IsRanged start
