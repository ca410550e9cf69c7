-- The statements that are handed out, placed in order, up to the first that has a fault.
use Rattle.std.specs.Prelude.{◌≡◌, ℕ, List, [], ◌∷◌, Result, Ok, Err}
use Rattle.asm_base.specs.Refusals.{◌>>=◌}
use Rattle.asm_base.specs.declared.faults.Fault.{Fault}
use Rattle.asm_base.specs.declared.faults.Fault.TheVariants.{Statement}
use Rattle.asm_base.specs.declared.notes.Noted.{Noted}
use Rattle.asm_base.specs.declared.positions.Pos.{Pos}
use Rattle.asm_base.specs.declared.refusals.Refusal.{Refusal}
use Rattle.asm_base.specs.declared.refusals.Refusal.TheVariants as refusal
use Rattle.asm_lines.specs.NextStatements.{TokenStatement}
use Rattle.asm_place.specs.declared.place_faults.FaultAt.{FaultAt}
use Rattle.asm_operands.specs.declared.place_faults.PlaceCause.{PlaceCause}
use Rattle.asm_place.specs.Faults.{statement_fault}
use Rattle.asm_values.specs.State.{Placed}
use Rattle.asm_place.specs.Placing.{place_tokens}

-- a line of a file
abbrev pub pos_at : ℕ → ℕ → Pos
pos_at file line = record { file = file; line = line }

-- a fault at a place, behind these notes
abbrev pub fault_at : Fault → Pos → List Noted → FaultAt
fault_at fault pos notes = record { fault = fault; pos = pos; notes = notes }

-- a fault of a statement, behind these notes
abbrev pub statement_fault_at : TokenStatement → List Noted → PlaceCause → FaultAt
statement_fault_at s notes cause = fault_at (Statement (statement_fault s.tokens cause)) (pos_at s.file s.line) notes

-- the refusal of a statement, behind these notes; want of memory may take its place
abbrev pub IsRefusalAt : TokenStatement → List Noted → Refusal PlaceCause → Refusal FaultAt → Type 0
IsRefusalAt s notes cause refusal.NoMemory = Unit {0}
IsRefusalAt s notes (refusal.Fault cause) (refusal.Fault fault) = fault ≡ statement_fault_at s notes cause
IsRefusalAt s notes refusal.NoMemory (refusal.Fault fault) = ⊥

-- a fault of a statement, with the notes of those before it
abbrev pub located : TokenStatement → List Noted → Result Placed PlaceCause → Result Placed FaultAt
located s notes (Ok more) = Ok more
located s notes (Err cause) = Err (statement_fault_at s notes cause)

-- a statement that is handed out, placed; one that has a fault makes no note
unfoldable pub place : TokenStatement → Placed → Result Placed FaultAt
place s placed = located s placed.notes (place_tokens (pos_at s.file s.line) s.tokens placed)

-- all statements in order, up to the first that has a fault
unfoldable pub place_all : List TokenStatement → Placed → Result Placed FaultAt
place_all [] placed = Ok placed
place_all (s ∷ later) placed = place s placed >>= place_all later
