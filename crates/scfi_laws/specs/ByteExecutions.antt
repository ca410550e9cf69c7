-- Executions of a function over the bytes of its section.
use Rattle.std.specs.Prelude.{◌≡◌, ◌+◌, ◌<◌, ℕ, List, [], ◌∷◌, length, Some, slice_get}
use Rattle.insn_effects.specs.Decoding.{action_of}
use Rattle.insn_effects.specs.Followed.{followed_by}
use Rattle.code_functions.specs.declared.items.CodeItem.{CodeItem}
use Rattle.flow_graph.specs.declared.nodes.Node.{Node}
use Rattle.scfi_pass.specs.Tables.{Analyzed}
use Rattle.x86_steps.specs.States.{State, IsRanged}
use Rattle.x86_steps.specs.Steps.{Does}
use Rattle.x86_steps.specs.Readings.{Reading, IsReading}
use Rattle.scfi_laws.specs.Performing.{SameFollowed}
use Rattle.scfi_laws.specs.Executions.{Keeps, KeptExecution}
use Rattle.scfi_laws.specs.Laid.{Kind, Holds, Stays}

-- a step by the bytes of the section, from a place of the function to one of its places
pub record ByteStep (a : Analyzed) (kinds : ℕ → Kind) (starts : ℕ → ℕ) (code : List ℕ)
    (s t : State) : Type 0 where
  pub reading : Reading
  pub reads : IsReading code s.place reading
  pub does : Does (action_of reading.insn) (s.place + reading.bytes) s t
  pub stays : (i : ℕ) (node : Node) → Holds starts (length a.items) i s.place
      → slice_get a.nodes i ≡ Some node
      → Stays starts (kinds i) node (s.place + reading.bytes) t.place
  pub inside : t.place < starts (length a.items)
  pub range : IsRanged t

-- the same registers and memory at another place
abbrev pub at : ℕ → State → State
at place s = record { place = place; registers = s.registers; memory = s.memory }

-- a step keeps what a step of the item keeps that holds its place; after a call the item numbered
-- next comes
abbrev pub KeepsHeld : Analyzed → (starts : ℕ → ℕ) → (start s t : State) → Type 0
KeepsHeld a starts start s t =
    (i : ℕ) (item : CodeItem) → Holds starts (length a.items) i s.place
    → slice_get a.items i ≡ Some item
    → Keeps (followed_by item.effect) a (at 0 start) (at i s) (at (i + 1) t)

-- from a state through earlier states, the last one first, to this one
abbrev pub KeptByBytes : Analyzed → (ℕ → Kind) → (starts : ℕ → ℕ) → (code : List ℕ)
    → (start : State) → List State → (now : State) → Type 0
KeptByBytes a kinds starts code start [] now = now ≡ start
KeptByBytes a kinds starts code start (s ∷ earlier) now =
    KeptByBytes a kinds starts code start earlier s
    × ByteStep a kinds starts code s now × KeepsHeld a starts start s now

-- the execution begins where the function does, with any registers and memory
pub record IsEntry (a : Analyzed) (starts : ℕ → ℕ) (start : State) : Type 0 where
  pub place : start.place ≡ starts 0
  pub inside : start.place < starts (length a.items)
  pub range : IsRanged start

-- an item holds the place, and an execution from item to item has come to it, with the same seven
-- registers and memory. No other item holds the place: they lie one after another, and one of no
-- bytes holds none
pub record Stands (a : Analyzed) (starts : ℕ → ℕ) (start now : State) : Type 0 where
  pub number : ℕ
  pub holds : Holds starts (length a.items) number now.place
  pub core : State
  pub earlier : List State
  pub execution : KeptExecution a (at 0 start) earlier (at number core)
  pub same : SameFollowed core now
