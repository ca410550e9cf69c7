-- What the object of statements is made of.
use Rattle.std.specs.Prelude.{◌≡◌, ℕ, Bool, List, ◌∷◌, ◌++◌, All, Option, None, Some, Result, Ok}
use Rattle.asm_base.specs.declared.causes.FragCause.{FragCause}
use Rattle.asm_lines.specs.NextStatements.{TokenStatement}
use Rattle.asm_relax.specs.Settling.{LaidSections, layout_of}
use Rattle.cfi_directives.specs.declared.frames.Frame.{Frame}
use Rattle.cfi_directives.specs.Procedures.{Procedures, frames_of}
use Rattle.table_pieces.specs.Pieces.{Tables, tables_of}
use Rattle.eh_frame.specs.Placing as frame_table
use Rattle.line_table.specs.Placing as line_table
use Rattle.table_pieces.specs.StandingPlaces.{GetsStanding}
use Rattle.frame_laws.specs.PlacedTables.{IsCovered}
use Rattle.section_laws.specs.Within.{AreWithin}
use Rattle.asm_values.specs.State.{Placed, nothing_placed}
use Rattle.asm_place.specs.Instructions.{Grows}
use Rattle.asm_place.specs.Sources.{place_all}
use Rattle.elf_object.specs.Faults.{object_fault}
use Rattle.elf_object.specs.Image.{image_of}

-- THE TABLES

-- frames that were worked out stand in place of procedures, and none is open
abbrev pub procedures_by : Option (List Frame) → Procedures → Procedures
procedures_by None procedures = procedures
procedures_by (Some frames) procedures = record { closed = frames; begun = None }

-- all that was placed, with these
abbrev pub with_worked_out : Option (List Frame) → Placed → Placed
with_worked_out worked_out placed = record placed { procedures = procedures_by worked_out placed.procedures }

-- the symbols and the sections with the frame table of all procedures, or the cause for which it is refused
abbrev pub framed_of : Placed → Result Tables FragCause
framed_of whole = frame_table.placed (frames_of whole.procedures) (tables_of whole.table.symbols whole.sections)

-- no procedure is open, or the frames in place of them cover places of their sections
abbrev pub FramesAreReady : Option (List Frame) → Placed → Type 0
FramesAreReady None whole = whole.procedures.begun ≡ None
FramesAreReady (Some frames) whole = All (IsCovered whole.sections) frames

-- what was placed, with its frame table and its line table: all sections and symbols are as they were, and more. Fields and items stand within the bytes of
-- their sections, and the symbols that come are labels that stand there
pub record IsContinuedBy (whole : Placed) (tables : Tables) : Type 0 where
  pub grows : Grows whole.sections tables.sections
  pub within : AreWithin tables.sections
  pub labels : GetsStanding tables.sections whole.table.symbols tables.symbols

-- THE OBJECT

-- what the object of the statements that are handed out is made of: they are all placed, the frame table of their procedures, or of the frames that were
-- worked out, comes to what they place, their line table behind that, all is laid out, and no field or symbol of it is at fault
pub record Origin (no_warn : Bool) (worked_out : Option (List Frame)) (handed : List TokenStatement) (object : List ℕ) : Type 0 where
  pub whole : Placed
  pub framed : Tables
  pub tables : Tables
  pub laid : LaidSections
  pub places : place_all handed (nothing_placed no_warn) ≡ Ok whole
  pub frames : framed_of (with_worked_out worked_out whole) ≡ Ok framed
  pub lines : line_table.placed whole.lines framed ≡ Ok tables
  pub settles : layout_of tables.symbols tables.sections ≡ Ok laid
  pub faultless : object_fault tables.symbols laid ≡ None
  pub image : object ≡ image_of tables.symbols laid

-- the statement is handed out, and those before it place this
pub record IsReached (no_warn : Bool) (handed : List TokenStatement) (s : TokenStatement) (placed : Placed) : Type 0 where
  pub before : List TokenStatement
  pub after : List TokenStatement
  pub all : handed ≡ before ++ s ∷ after
  pub places : place_all before (nothing_placed no_warn) ≡ Ok placed

-- each statement that is handed out is reached: those before it can be placed
abbrev pub AreReached : Bool → List TokenStatement → Type 0
AreReached no_warn handed =
    (before after : List TokenStatement) (s : TokenStatement) → handed ≡ before ++ s ∷ after → (placed : Placed) × IsReached no_warn handed s placed

-- in an object the tables continue what was placed, where frames are ready
abbrev pub TablesContinue : Type 0
TablesContinue = (no_warn : Bool) (worked_out : Option (List Frame)) (handed : List TokenStatement) (object : List ℕ)
    → (origin : Origin no_warn worked_out handed object) → FramesAreReady worked_out origin.whole → IsContinuedBy origin.whole origin.tables
