-- The end of a source: the frame table of its procedures, or of its functions, its line table, the layout of what was placed with them, and its object, or
-- the first fault of these.
use Rattle.std.specs.Prelude.{ℕ, ◌-◌, ◌^◌, Bool, true, false, List, [], ◌∷◌, length, nat_lt, if◌then◌else◌, Option, None, Some, option_map, unwrap_or, slice_get, Result, Ok, Err}
use Rattle.asm_base.specs.declared.faults.EndFault.{EndFault}
use Rattle.asm_base.specs.declared.faults.EndFault.TheVariants as end
use Rattle.asm_base.specs.declared.faults.Fault.{Fault}
use Rattle.asm_base.specs.declared.faults.Fault.TheVariants.{End, Scfi, Statement}
use Rattle.asm_base.specs.declared.faults.StatementFault.TheVariants as statement
use Rattle.asm_base.specs.declared.notes.Noted.{Noted}
use Rattle.asm_base.specs.declared.positions.Pos.{Pos}
use Rattle.asm_symbols.specs.SymbolMap.{SymbolMap}
use Rattle.asm_relax.specs.Settling.{LaidSections, layout_of}
use Rattle.asm_relax.specs.declared.faults.LayoutFault.{LayoutFault}
use Rattle.asm_relax.specs.declared.faults.LayoutFault.TheVariants as layout
use Rattle.elf_object.specs.declared.faults.ObjectCause.{ObjectCause}
use Rattle.elf_object.specs.declared.faults.ObjectCause.TheVariants as object
use Rattle.elf_object.specs.Objects.{object_of}
use Rattle.cfi_directives.specs.declared.frames.Frame.{Frame}
use Rattle.cfi_directives.specs.Procedures.{Procedures, frames_of}
use Rattle.table_pieces.specs.Pieces.{Tables, tables_of}
use Rattle.eh_frame.specs.Placing.{placed}
use Rattle.line_directives.specs.Taking.{LineTable}
use Rattle.line_table.specs.Placing as line_table
use Rattle.asm_uses.specs.Tables.{Table, last_sized, with_map}
use Rattle.asm_base.specs.declared.causes.FragCause.{FragCause}
use Rattle.asm_base.specs.declared.causes.FragCause.TheVariants as frag
use Rattle.asm_frags.specs.Writing.{LooseSection}
use Rattle.asm_values.specs.State.{Placed}
use Rattle.asm_place.specs.Sources.{fault_at}
use Rattle.asm_place.specs.declared.place_faults.FaultAt.{FaultAt}
use Rattle.asm_functions.specs.FollowedSource.{FollowedSource, notes_of}
use Rattle.readback_laws.specs.Origins as origins
use Rattle.source_ends.specs.Synthesis.{Synthesis}
use Rattle.layout_counts.specs.Counted.{text_bytes, near_jumps, rounds_of}
use Rattle.source_ends.specs.declared.ending.Counts.{Counts}
use Rattle.source_ends.specs.declared.ending.Ended.{Ended}
use Rattle.source_ends.specs.declared.ending.NotedObject.{NotedObject}

-- the options that the assembly depends on; where frame tables are to be worked out, with what that comes to
pub record Flags : Type 0 where
  pub no_warn : Bool
  pub fatal_warnings : Bool
  pub scfi : Option Synthesis

-- a fault that is found at the end of a source, and its place
abbrev pub ended_at : EndFault → Pos → Ended
ended_at fault pos = record { fault = fault; pos = pos }

-- the fault of the layout
abbrev pub layout_end : LayoutFault → Ended
layout_end (layout.SectionTooLarge pos size) = ended_at end.SectionTooLarge pos
layout_end (layout.OrgMovesBackwards pos) = ended_at end.OrgMovesBackwards pos
layout_end (layout.DistanceOutOfRange pos distance) = ended_at end.DistanceOutOfRange pos

-- the first line of the source file
abbrev pub source_start : Pos
source_start = record { file = 0; line = 1 }

-- the place where a symbol is first named
abbrev pub named_at : List Pos → ℕ → Pos
named_at named index = unwrap_or (slice_get named index) source_start

-- the place of the last `.size` statement of a symbol; there are at most 2^24 symbols
abbrev pub sized_at : List (ℕ × Pos) → ℕ → Pos
sized_at sized index = if nat_lt index (2 ^ 32) then unwrap_or (last_sized index sized) source_start else source_start

-- the fault of the object: at the first statement that names the symbol, at that of the field, or where the size is said
abbrev pub object_end : Table → ObjectCause → Ended
object_end table (object.UndefinedLocalSymbol index) = ended_at end.UndefinedLocalSymbol (named_at table.named index)
object_end table (object.NoRelocation pos) = ended_at end.NoRelocation pos
object_end table (object.SizeNotKnown index) = ended_at end.NoRelocation (sized_at table.sized index)

-- the place of the first warning, where warnings are to refuse the run
abbrev pub first_warning : Bool → List Noted → Option Pos
first_warning false notes = None
first_warning true notes = option_map (λ noted. noted.pos) (slice_get notes 0)

-- the object, unless a warning refuses it
abbrev pub warned_end : Option Pos → List ℕ → Result (List ℕ) Ended
warned_end None object = Ok object
warned_end (Some pos) object = Err (ended_at end.WarningsAreErrors pos)

-- the object or its fault; a warning refuses it last
abbrev pub made_end : Bool → Table → List Noted → Result (List ℕ) ObjectCause → Result (List ℕ) Ended
made_end fatal table notes (Ok object) = warned_end (first_warning fatal notes) object
made_end fatal table notes (Err cause) = Err (object_end table cause)

-- the object of a layout, or the fault of the layout or of the object
abbrev pub laid_end : Bool → Table → List Noted → Result LaidSections LayoutFault → Result (List ℕ) Ended
laid_end fatal table notes (Ok sections) = made_end fatal table notes (object_of table.symbols sections)
laid_end fatal table notes (Err fault) = Err (layout_end fault)

-- the sections of a layout, if it has no fault
abbrev pub laid_of : Result LaidSections LayoutFault → LaidSections
laid_of (Ok sections) = sections
laid_of (Err fault) = []

-- what is counted of a source with so many functions and frames, whose sections are these with the tables
unfoldable pub counts_of : ℕ → ℕ → SymbolMap → List LooseSection → Counts
counts_of functions frames symbols sections = record {
  functions = functions;
  text_bytes = text_bytes (laid_of (layout_of symbols sections));
  near_jumps = near_jumps (laid_of (layout_of symbols sections));
  rounds = rounds_of symbols sections;
  frames = frames;
}

-- the object or the fault at the end, with what is counted and the notes
abbrev pub noted : Counts → List Noted → Result (List ℕ) Ended → Result NotedObject FaultAt
noted counts notes (Ok object) = Ok (record { object = object; notes = notes; counts = counts })
noted counts notes (Err ended) = Err (fault_at (End ended.fault) ended.pos notes)

-- where a procedure begins that is not closed
abbrev pub unclosed : Procedures → Option Pos
unclosed procedures = option_map (λ frame. frame.pos) procedures.begun

-- the line of the last procedure
abbrev pub last_line : List Frame → Option Pos
last_line frames = option_map (λ frame. frame.pos) (slice_get frames (length frames - 1))

-- the line of the first procedure
abbrev pub first_line : List Frame → Pos
first_line [] = source_start
first_line (frame ∷ frames) = frame.pos

-- the line of the first `.file` with a number
abbrev pub file_line : LineTable → Pos
file_line lines = unwrap_or lines.first source_start

-- the fault of a frame table, and of a line table
abbrev pub table_fault : FragCause → Fault
table_fault frag.BadSection = Statement statement.BadSection

-- the symbols and the sections with the frame table of these procedures, or the cause for which it is refused
abbrev pub with_frames : Procedures → SymbolMap → List LooseSection → Result Tables FragCause
with_frames procedures symbols sections = placed (frames_of procedures) (tables_of symbols sections)

-- those of what was placed
abbrev pub framed : Placed → Result Tables FragCause
framed whole = with_frames whole.procedures whole.table.symbols whole.sections

-- the line table behind a frame table, unless that is refused
abbrev pub lines_behind : LineTable → Result Tables FragCause → Result Tables FragCause
lines_behind lines (Ok tables) = line_table.placed lines tables
lines_behind lines (Err cause) = Err cause

-- the symbols and the sections with the frame table of these procedures and the line table behind it, or the cause for which the first of them is refused
-- that is
abbrev pub with_tables : Procedures → LineTable → SymbolMap → List LooseSection → Result Tables FragCause
with_tables procedures lines symbols sections = lines_behind lines (with_frames procedures symbols sections)

-- those of what was placed
abbrev pub tabled : Placed → Result Tables FragCause
tabled whole = with_tables whole.procedures whole.lines whole.table.symbols whole.sections

-- the object or the fault behind the line table, which is refused at the line of the first `.file` with a number; so many functions and frames are counted
abbrev pub lined_end : Bool → ℕ → ℕ → Table → LineTable → List Noted → Result Tables FragCause → Result NotedObject FaultAt
lined_end fatal functions frames table lines notes (Ok tables) =
    noted (counts_of functions frames tables.symbols tables.sections) notes
    (laid_end fatal (with_map table tables.symbols) notes (layout_of tables.symbols tables.sections))
lined_end fatal functions frames table lines notes (Err cause) = Err (fault_at (table_fault cause) (file_line lines) notes)

-- the object or the fault behind the frame table of these procedures, which is refused at the line of the first
abbrev pub framed_end : Bool → ℕ → Table → List Frame → LineTable → List Noted → Result Tables FragCause → Result NotedObject FaultAt
framed_end fatal functions table frames lines notes (Ok tables) =
    lined_end fatal functions (length frames) table lines notes (line_table.placed lines tables)
framed_end fatal functions table frames lines notes (Err cause) = Err (fault_at (table_fault cause) (first_line frames) notes)

-- the answer, unless a procedure is not closed
abbrev pub unless_open : Option Pos → List Noted → Result NotedObject FaultAt → Result NotedObject FaultAt
unless_open None notes answer = answer
unless_open (Some pos) notes answer = Err (fault_at (End end.UnclosedProcedure) pos notes)

-- the object at the end of a source with so many functions, or the first fault there: of a procedure that is not closed, of the frame table, of the line
-- table, of the layout with both, of the object, and warnings last
unfoldable pub finished : Bool → ℕ → List LooseSection → Table → Procedures → LineTable → List Noted → Result NotedObject FaultAt
finished fatal functions sections table procedures lines notes =
    unless_open (unclosed procedures) notes
    (framed_end fatal functions table (frames_of procedures) lines notes (with_frames procedures table.symbols sections))

-- FRAME TABLES THAT ARE WORKED OUT

-- the frames that were worked out of functions, where none of these has a fault
abbrev pub worked_out : Option Synthesis → Option (List Frame)
worked_out None = None
worked_out (Some (Ok frames)) = Some frames
worked_out (Some (Err at)) = None

-- these stand in place of procedures, and none is open
abbrev pub procedures_by : Option Synthesis → Procedures → Procedures
procedures_by made procedures = origins.procedures_by (worked_out made) procedures

-- all that was placed, with these
abbrev pub with_made : Option Synthesis → Placed → Placed
with_made made placed = record placed { procedures = procedures_by made placed.procedures }

-- unless synthesis has a fault
abbrev pub unless_fault : Option Synthesis → List Noted → Result NotedObject FaultAt → Result NotedObject FaultAt
unless_fault None notes answer = answer
unless_fault (Some (Ok frames)) notes answer = answer
unless_fault (Some (Err at)) notes answer = Err (fault_at (Scfi at.fault) at.pos notes)

-- the object of all that was placed and followed, or the first fault at the end: those of functions come before all others
abbrev pub followed_end : Flags → FollowedSource → Result NotedObject FaultAt
followed_end flags f =
    unless_fault flags.scfi (notes_of f)
    (finished flags.fatal_warnings (length f.functions) f.placed.sections f.placed.table (procedures_by flags.scfi f.placed.procedures) f.placed.lines
    (notes_of f))
