-- The frames of a source that has an object are ready for a frame table.
use Rattle.std.proofs.Common.{◌≡◌, ℕ, Bool, List, length, All, Option, None, Some, Ok, Err, Result, refl}
use Rattle.std.specs.Prelude.{option_map}
use Rattle.asm_base.specs.declared.notes.Noted.{Noted}
use Rattle.asm_base.specs.declared.positions.Pos.{Pos}
use Rattle.asm_values.specs.State.{Placed}
use Rattle.asm_place.specs.declared.place_faults.FaultAt.{FaultAt}
use Rattle.cfi_directives.specs.declared.frames.Frame.{Frame}
use Rattle.cfi_directives.specs.Procedures.{frames_of}
use Rattle.asm_functions.specs.FollowedSource.{FollowedSource, notes_of}
use Rattle.asm_functions.specs.Standing.{StandsInOrder}
use Rattle.synthesis_laws.specs.WrittenTables.{TablesAreOfItems, TablesCanBeWritten}
use Rattle.readback_laws.specs.Origins.{FramesAreReady}
use Rattle.source_ends.specs.Synthesis.{Synthesis, IsMadeAt}
use Rattle.source_ends.specs.Ending.{Flags, unclosed, framed, framed_end, unless_open, finished, procedures_by, worked_out, unless_fault, followed_end}
use Rattle.source_ends.specs.declared.ending.NotedObject.{NotedObject}
use Rattle.source_ends.proofs.SynthesizedFrames.{functions_covered}

no_place : (place : Option Pos) (notes : List Noted) (answer : Result NotedObject FaultAt) (made : NotedObject) → unless_open place notes answer ≡ Ok made → place ≡ None
no_place None notes answer made e = refl
no_place (Some pos) notes answer made e = absurd cc

none_begun : (begun : Option Frame) → option_map (λ (frame : Frame). frame.pos) begun ≡ None → begun ≡ None
none_begun None is = refl
none_begun (Some frame) is = absurd cc

-- no procedure of an object is open
none_open : (fatal : Bool) (functions : ℕ) (whole : Placed) (notes : List Noted) (made : NotedObject)
    → finished fatal functions whole.sections whole.table whole.procedures whole.lines notes ≡ Ok made → whole.procedures.begun ≡ None
unfolding finished
none_open fatal functions whole notes made e =
    none_begun whole.procedures.begun
    (no_place (unclosed whole.procedures) notes (framed_end fatal functions whole.table (frames_of whole.procedures) whole.lines notes (framed whole)) made e)

-- and the frames of its functions, where they are worked out, cover places of their sections
pub are_ready : TablesCanBeWritten → TablesAreOfItems → (flags : Flags) (f : FollowedSource) (made : NotedObject) → All (StandsInOrder f.placed.sections) f.functions
    → IsMadeAt flags.scfi f → followed_end flags f ≡ Ok made → FramesAreReady (worked_out flags.scfi) f.placed
are_ready written of_items flags f made ordered = by_synthesis flags.scfi
  where
    by_synthesis : (scfi : Option Synthesis) → IsMadeAt scfi f
        → unless_fault scfi (notes_of f)
        (finished flags.fatal_warnings (length f.functions) f.placed.sections f.placed.table (procedures_by scfi f.placed.procedures) f.placed.lines (notes_of f)) ≡ Ok made
        → FramesAreReady (worked_out scfi) f.placed
    by_synthesis None is ends = none_open flags.fatal_warnings (length f.functions) f.placed (notes_of f) made ends
    by_synthesis (Some (Ok frames)) is ends = functions_covered written of_items f frames is ordered
    by_synthesis (Some (Err at)) is ends = absurd cc
