-- What was placed with its frame table, before the line table of an object is put behind it.
use Rattle.std.specs.Prelude.{ℕ, Bool, List, Option}
use Rattle.asm_lines.specs.NextStatements.{TokenStatement}
use Rattle.asm_relax.specs.Settling.{LaidSections}
use Rattle.cfi_directives.specs.declared.frames.Frame.{Frame}
use Rattle.table_pieces.specs.Pieces.{Tables}
use Rattle.line_laws.specs.PlacedLines.{TablesReady}
use Rattle.piece_laws.specs.LaidTables.{IsLow}
use Rattle.asm_values.specs.State.{Placed}
use Rattle.asm_place.specs.Instructions.{Grows}
use Rattle.readback_laws.specs.Origins.{FramesAreReady, Origin}

-- all sections are as they were placed, with more behind, and so they are in the object, where none is too large; what stands before the line table is ready
-- for one
pub record IsFramedReady (whole : Placed) (framed tables : Tables) (laid : LaidSections) : Type 0 where
  pub first : Grows whole.sections framed.sections
  pub later : Grows framed.sections tables.sections
  pub ready : TablesReady framed
  pub low : IsLow tables laid

-- so it is in each object of statements whose frames are ready
abbrev pub FramedTablesReady : Type 0
FramedTablesReady = (no_warn : Bool) (worked_out : Option (List Frame)) (handed : List TokenStatement) (object : List ℕ)
    → (origin : Origin no_warn worked_out handed object) → FramesAreReady worked_out origin.whole
    → IsFramedReady origin.whole origin.framed origin.tables origin.laid
