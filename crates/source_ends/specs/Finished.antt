-- What the object at the end of a source is made of.
use Rattle.std.specs.Prelude.{◌≡◌, ℕ, All, List, None, Ok}
use Rattle.asm_values.specs.State.{Placed}
use Rattle.asm_relax.specs.Settling.{LaidSections, layout_of}
use Rattle.table_pieces.specs.Pieces.{Tables}
use Rattle.line_table.specs.Placing as line_table
use Rattle.elf_object.specs.Faults.{object_fault}
use Rattle.elf_object.specs.Objects.{object_of}
use Rattle.elf_object.specs.Image.{image_of}
use Rattle.asm_functions.specs.FollowedSource.{FollowedSource}
use Rattle.asm_functions.specs.Standing.{StandsInOrder}
use Rattle.readback_laws.specs.Origins.{FramesAreReady}
use Rattle.source_ends.specs.Synthesis.{IsMadeAt}
use Rattle.source_ends.specs.Ending.{Flags, framed, worked_out, with_made, followed_end}
use Rattle.source_ends.specs.declared.ending.NotedObject.{NotedObject}

-- what was placed comes to this object: with a frame table, a line table, and a layout
pub record IsFinished (whole : Placed) (object : List ℕ) : Type 0 where
  pub framed_tables : Tables
  pub frames : framed whole ≡ Ok framed_tables
  pub tables : Tables
  pub lines : line_table.placed whole.lines framed_tables ≡ Ok tables
  pub laid : LaidSections
  pub settles : layout_of tables.symbols tables.sections ≡ Ok laid
  pub is_object : object_of tables.symbols laid ≡ Ok object
  pub faultless : object_fault tables.symbols laid ≡ None
  pub image : object ≡ image_of tables.symbols laid

-- so it is with each object, where the frames that were worked out stand in place of procedures
abbrev pub ObjectsAreFinished : Type 0
ObjectsAreFinished = (flags : Flags) (f : FollowedSource) (made : NotedObject) → followed_end flags f ≡ Ok made
    → IsFinished (with_made flags.scfi f.placed) made.object

-- the frames of a source that has an object are ready for a frame table, where its functions stand in order
abbrev pub EndingFramesAreReady : Type 0
EndingFramesAreReady = (flags : Flags) (f : FollowedSource) (made : NotedObject) → All (StandsInOrder f.placed.sections) f.functions
    → IsMadeAt flags.scfi f → followed_end flags f ≡ Ok made → FramesAreReady (worked_out flags.scfi) f.placed
