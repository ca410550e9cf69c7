-- What the directives of a source mean: procedures one behind the other, whose instructions are said by their directives.
use Rattle.std.specs.Prelude.{◌≡◌, ℕ, List, [], ◌∷◌, ◌++◌, map, Option, Some, None, Ok, IsSome}
use Rattle.std.specs.Option.{option_map}
use Rattle.asm_base.specs.declared.positions.Pos.{Pos}
use Rattle.cfi_directives.specs.declared.frames.Frame.{Frame}
use Rattle.cfi_directives.specs.declared.frames.PlacedOp.{PlacedOp}
use Rattle.cfi_directives.specs.declared.lines.CfiLine.TheVariants.{StartProc, EndProc, Row, Point}
use Rattle.cfi_directives.specs.declared.lines.PointerKind.{PointerKind}
use Rattle.cfi_directives.specs.declared.lines.PointerKind.TheVariants.{Personality, Lsda}
use Rattle.cfi_directives.specs.declared.frames.Pointer.{Pointer}
use Rattle.cfi_directives.specs.declared.lines.RowDirective.{RowDirective}
use Rattle.cfi_directives.specs.declared.lines.RowDirective.TheVariants.{Restore, Undefined, SameValue}
use Rattle.asm_base.specs.declared.places.Place.{Place}
use Rattle.cfi_directives.specs.Rows.{rows_after}
use Rattle.cfi_directives.specs.Saying.{said}
use Rattle.cfi_directives.specs.Taking.{PlacedLine}

-- a directive of a procedure, and its place: of the row, or of a pointer
pub data RowLine : Type 0 where
  of_row : RowDirective → Place → RowLine
  of_pointer : PointerKind → Option Pointer → Place → RowLine

-- the directive says the instruction in the row in force behind these, at the same place, and the instruction can be run there
pub record Says (before : List PlacedOp) (directive : RowDirective) (place : Place) (placed : PlacedOp) : Type 0 where
  pub there : placed.place ≡ place
  pub op : said (option_map (λ rows. rows.row.offset) (rows_after before)) directive ≡ Ok placed.op
  pub run : IsSome (rows_after (before ++ placed ∷ []))

-- each directive of the row says one instruction, behind all those before it, and one of a pointer says none
abbrev pub Mean : List PlacedOp → List RowLine → List PlacedOp → Type 0
Mean before [] [] = Unit {0}
Mean before [] (placed ∷ ops) = ⊥
Mean before (of_row directive place ∷ lines) [] = ⊥
Mean before (of_row directive place ∷ lines) (placed ∷ ops) = Says before directive place placed × Mean (before ++ placed ∷ []) lines ops
Mean before (of_pointer kind pointer place ∷ lines) ops = Mean before lines ops

-- the personality that directives say: the last one counts
abbrev pub last_personality : Option Pointer → List RowLine → Option Pointer
last_personality before [] = before
last_personality before (of_row directive place ∷ lines) = last_personality before lines
last_personality before (of_pointer Personality pointer place ∷ lines) = last_personality pointer lines
last_personality before (of_pointer Lsda pointer place ∷ lines) = last_personality before lines

-- the LSDA that directives say: the last one counts
abbrev pub last_lsda : Option Pointer → List RowLine → Option Pointer
last_lsda before [] = before
last_lsda before (of_row directive place ∷ lines) = last_lsda before lines
last_lsda before (of_pointer Personality pointer place ∷ lines) = last_lsda before lines
last_lsda before (of_pointer Lsda pointer place ∷ lines) = last_lsda pointer lines

-- the procedure has the instructions and the pointers that its directives say
pub record IsSaid (rows : List RowLine) (frame : Frame) : Type 0 where
  pub mean : Mean [] rows frame.ops
  pub personality : last_personality None rows ≡ frame.personality
  pub lsda : last_lsda None rows ≡ frame.lsda

-- a procedure begins in a section
abbrev pub start_line : Pos → ℕ → Place → PlacedLine
start_line pos section place = record { line = StartProc pos; at = record { section = section; place = place } }

-- a directive of a procedure in that section
abbrev pub row_line : ℕ → RowLine → PlacedLine
row_line section (of_row directive place) = record { line = Row directive; at = record { section = section; place = place } }
row_line section (of_pointer kind pointer place) = record { line = Point kind pointer; at = record { section = section; place = place } }

-- a procedure in that section ends
abbrev pub stop_line : ℕ → Place → PlacedLine
stop_line section place = record { line = EndProc; at = record { section = section; place = place } }

-- the lines are those of the procedures one behind the other: each begins, has in its section the directives that say its instructions and pointers, and ends, but for
-- the last, which may be open
abbrev pub AreOf : List PlacedLine → List Frame → Option Frame → Type 0
AreOf lines [] None = lines ≡ []
AreOf lines [] (Some frame) = (rows : List RowLine)
    × (lines ≡ start_line frame.pos frame.section frame.start ∷ map (row_line frame.section) rows)
    × (frame.stop ≡ None) × IsSaid rows frame
AreOf lines (frame ∷ frames) begun = (rows : List RowLine) × (stop : Place) × (rest : List PlacedLine)
    × (lines ≡ start_line frame.pos frame.section frame.start ∷ (map (row_line frame.section) rows ++ stop_line frame.section stop ∷ rest))
    × (frame.stop ≡ Some stop) × IsSaid rows frame × AreOf rest frames begun

-- the directives that may name several registers, each of which is a line of its own
abbrev pub IsOfRegister : RowDirective → Type 0
IsOfRegister (Restore register) = Unit {0}
IsOfRegister (Undefined register) = Unit {0}
IsOfRegister (SameValue register) = Unit {0}
IsOfRegister directive = ⊥
