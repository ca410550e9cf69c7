-- What was placed comes to its object by a frame table, a line table and a layout.
use Rattle.std.proofs.Common.{◌≡◌, ℕ, Bool, List, Option, Some, None, Result, Ok, Err, length, refl, sym, ap}
use Rattle.asm_base.specs.declared.notes.Noted.{Noted}
use Rattle.asm_base.specs.declared.positions.Pos.{Pos}
use Rattle.asm_relax.specs.Settling.{LaidSections, unless, layout_of}
use Rattle.asm_relax.specs.declared.faults.LayoutFault.{LayoutFault}
use Rattle.asm_values.specs.State.{Placed}
use Rattle.asm_uses.specs.Tables.{Table, with_map}
use Rattle.cfi_directives.specs.declared.frames.Frame.{Frame}
use Rattle.cfi_directives.specs.Procedures.{frames_of}
use Rattle.line_directives.specs.Taking.{LineTable}
use Rattle.line_table.specs.Placing as line_table
use Rattle.table_pieces.specs.Pieces.{Tables}
use Rattle.asm_base.specs.declared.causes.FragCause.{FragCause}
use Rattle.asm_place.specs.declared.place_faults.FaultAt.{FaultAt}
use Rattle.elf_object.specs.declared.faults.ObjectCause.{ObjectCause}
use Rattle.elf_object.specs.Faults.{object_fault}
use Rattle.elf_object.specs.Objects.{object_of}
use Rattle.elf_object.specs.Image.{image_of}
use Rattle.asm_functions.specs.FollowedSource.{notes_of}
use Rattle.source_ends.specs.Synthesis.{Synthesis}
use Rattle.source_ends.specs.Ending.{first_warning, warned_end, made_end, laid_end, counts_of, noted, unclosed, framed, lined_end, framed_end, unless_open, finished, procedures_by, with_made, unless_fault}
use Rattle.source_ends.specs.Finished.{IsFinished, ObjectsAreFinished}
use Rattle.source_ends.specs.declared.ending.Counts.{Counts}
use Rattle.source_ends.specs.declared.ending.Ended.{Ended}
use Rattle.source_ends.specs.declared.ending.NotedObject.{NotedObject}

warned_is : (place : Option Pos) (object made : List ℕ) → warned_end place object ≡ Ok made → made ≡ object
warned_is None object made e = cc
warned_is (Some pos) object made e = absurd cc

-- no warning refuses an object that is made
made_is : (fatal : Bool) (table : Table) (notes : List Noted) (answer : Result (List ℕ) ObjectCause) (made : List ℕ) → made_end fatal table notes answer ≡ Ok made → answer ≡ Ok made
made_is fatal table notes (Ok object) made e = ap Ok (sym (warned_is (first_warning fatal notes) object made e))
made_is fatal table notes (Err cause) made e = absurd cc

-- an object is the image of its layout
image_is : (fault : Option ObjectCause) (image made : List ℕ) → unless fault image ≡ Ok made → made ≡ image
image_is None image made e = cc
image_is (Some fault) image made e = absurd cc

-- and no fault is found
no_fault : (fault : Option ObjectCause) (image made : List ℕ) → unless fault image ≡ Ok made → fault ≡ None
no_fault None image made e = refl
no_fault (Some fault) image made e = absurd cc

-- the layout of an object
laid_is : (fatal : Bool) (table : Table) (notes : List Noted) (answer : Result LaidSections LayoutFault) (made : List ℕ) → laid_end fatal table notes answer ≡ Ok made
    → (laid : LaidSections) × (answer ≡ Ok laid) × (object_of table.symbols laid ≡ Ok made)
laid_is fatal table notes (Ok sections) made e = (sections, refl, made_is fatal table notes (object_of table.symbols sections) made e)
laid_is fatal table notes (Err fault) made e = absurd cc

noted_is : (counts : Counts) (notes : List Noted) (answer : Result (List ℕ) Ended) (made : NotedObject) → noted counts notes answer ≡ Ok made → answer ≡ Ok made.object
noted_is counts notes (Ok object) made e = cc
noted_is counts notes (Err ended) made e = absurd cc

-- no procedure of an object is open
unless_open_is : (place : Option Pos) (notes : List Noted) (answer : Result NotedObject FaultAt) (made : NotedObject) → unless_open place notes answer ≡ Ok made → answer ≡ Ok made
unless_open_is None notes answer made e = e
unless_open_is (Some pos) notes answer made e = absurd cc

-- the frame table of an object
frames_are : (fatal : Bool) (functions : ℕ) (table : Table) (frames : List Frame) (lines : LineTable) (notes : List Noted) (answer : Result Tables FragCause) (made : NotedObject)
    → framed_end fatal functions table frames lines notes answer ≡ Ok made
    → (tables : Tables) × (answer ≡ Ok tables) × (lined_end fatal functions (length frames) table lines notes (line_table.placed lines tables) ≡ Ok made)
frames_are fatal functions table frames lines notes (Ok tables) made e = (tables, refl, e)
frames_are fatal functions table frames lines notes (Err cause) made e = absurd cc

-- and its line table
lines_are : (fatal : Bool) (functions frames : ℕ) (table : Table) (lines : LineTable) (notes : List Noted) (answer : Result Tables FragCause) (made : NotedObject)
    → lined_end fatal functions frames table lines notes answer ≡ Ok made
    → (tables : Tables) × (answer ≡ Ok tables)
    × (noted (counts_of functions frames tables.symbols tables.sections) notes
    (laid_end fatal (with_map table tables.symbols) notes (layout_of tables.symbols tables.sections)) ≡ Ok made)
lines_are fatal functions frames table lines notes (Ok tables) made e = (tables, refl, e)
lines_are fatal functions frames table lines notes (Err cause) made e = absurd cc

finished_is : (fatal : Bool) (functions : ℕ) (whole : Placed) (notes : List Noted) (made : NotedObject)
    → finished fatal functions whole.sections whole.table whole.procedures whole.lines notes ≡ Ok made → IsFinished whole made.object
unfolding finished
finished_is fatal functions whole notes made e =
    let frames = frames_of whole.procedures in
    let closed : framed_end fatal functions whole.table frames whole.lines notes (framed whole) ≡ Ok made =
    unless_open_is (unclosed whole.procedures) notes (framed_end fatal functions whole.table frames whole.lines notes (framed whole)) made e in
    let first = frames_are fatal functions whole.table frames whole.lines notes (framed whole) made closed in
    let table = lines_are fatal functions (length frames) whole.table whole.lines notes (line_table.placed whole.lines first.0) made first.2 in
    let counts = counts_of functions (length frames) table.0.symbols table.0.sections in
    let answer = layout_of table.0.symbols table.0.sections in
    let full = with_map whole.table table.0.symbols in
    let laid = laid_is fatal full notes answer made.object (noted_is counts notes (laid_end fatal full notes answer) made table.2) in
    record {
      framed_tables = first.0;
      frames = first.1;
      tables = table.0;
      lines = table.1;
      laid = laid.0;
      settles = laid.1;
      is_object = laid.2;
      faultless = no_fault (object_fault table.0.symbols laid.0) (image_of table.0.symbols laid.0) made.object laid.2;
      image = image_is (object_fault table.0.symbols laid.0) (image_of table.0.symbols laid.0) made.object laid.2;
    }

-- an object has no fault of synthesis
unless_fault_is : (scfi : Option Synthesis) (notes : List Noted) (answer : Result NotedObject FaultAt) (made : NotedObject) → unless_fault scfi notes answer ≡ Ok made → answer ≡ Ok made
unless_fault_is None notes answer made is = is
unless_fault_is (Some (Ok frames)) notes answer made is = is
unless_fault_is (Some (Err at)) notes answer made is = absurd cc

pub objects_are_finished : ObjectsAreFinished
objects_are_finished flags f made ends =
    finished_is flags.fatal_warnings (length f.functions) (with_made flags.scfi f.placed) (notes_of f) made
    (unless_fault_is flags.scfi (notes_of f)
    (finished flags.fatal_warnings (length f.functions) f.placed.sections f.placed.table (procedures_by flags.scfi f.placed.procedures) f.placed.lines
    (notes_of f)) made ends)
