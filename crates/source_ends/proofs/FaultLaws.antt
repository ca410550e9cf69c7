-- No step but the reading of the file calls a file too large.
use Rattle.std.proofs.Common.{◌≡◌, ℕ, Bool, false, List, Option, None, Some, Result, Ok, Err, length, refl}
use Rattle.std.specs.Result.{IfErr}
use Rattle.std.proofs.lemmas.Result.{IfErr-at_err}
use Rattle.asm_base.specs.declared.notes.Noted.{Noted}
use Rattle.asm_relax.specs.Settling.{layout_of}
use Rattle.asm_place.specs.Faults.{is_file_too_large}
use Rattle.asm_base.specs.declared.positions.Pos.{Pos}
use Rattle.cfi_directives.specs.declared.frames.Frame.{Frame}
use Rattle.cfi_directives.specs.Procedures.{Procedures, frames_of}
use Rattle.table_pieces.specs.Pieces.{Tables}
use Rattle.asm_base.specs.declared.causes.FragCause.{FragCause}
use Rattle.asm_base.specs.declared.causes.FragCause.TheVariants.{BadSection}
use Rattle.line_directives.specs.Taking.{LineTable}
use Rattle.line_table.specs.Placing as line_table
use Rattle.asm_uses.specs.Tables.{Table, with_map}
use Rattle.asm_frags.specs.Writing.{LooseSection}
use Rattle.asm_functions.specs.FollowedSource.{FollowedSource, notes_of}
use Rattle.asm_place.specs.declared.place_faults.FaultAt.{FaultAt}
use Rattle.source_ends.specs.Synthesis.{Synthesis}
use Rattle.source_ends.specs.Ending.{Flags, counts_of, noted, laid_end, unclosed, with_frames, lined_end, framed_end, unless_open, finished, procedures_by, unless_fault, followed_end}
use Rattle.source_ends.specs.declared.ending.Counts.{Counts}
use Rattle.source_ends.specs.declared.ending.NotedObject.{NotedObject}
use Rattle.source_ends.specs.declared.ending.Ended.{Ended}

-- what is known of the fault, if there is one
record FaultIs {A E : Type 0} (P : E → Type 0) (result : Result A E) : Type 0 where
  holds : IfErr result P

-- no fault that says that a file is too large
abbrev NotTooLarge : {A : Type 0} → Result A FaultAt → Type 0
NotTooLarge = FaultIs (λ fault. is_file_too_large fault.fault ≡ false)

no_fault : {A E : Type 0} {P : E → Type 0} (x : A) → FaultIs {A = A} P (Ok x)
no_fault x = record { holds = tt }

a_fault : {A E : Type 0} {P : E → Type 0} (fault : E) → P fault → FaultIs {A = A} P (Err fault)
a_fault fault is = record { holds = is }

noted_fine : (counts : Counts) (notes : List Noted) (answer : Result (List ℕ) Ended) → NotTooLarge (noted counts notes answer)
noted_fine counts notes (Ok object) = no_fault _
noted_fine counts notes (Err ended) = a_fault _ refl

lined_fine : (fatal : Bool) (functions frames : ℕ) (table : Table) (lines : LineTable) (notes : List Noted) (answer : Result Tables FragCause)
    → NotTooLarge (lined_end fatal functions frames table lines notes answer)
lined_fine fatal functions frames table lines notes (Ok tables) =
    noted_fine (counts_of functions frames tables.symbols tables.sections) notes
    (laid_end fatal (with_map table tables.symbols) notes (layout_of tables.symbols tables.sections))
lined_fine fatal functions frames table lines notes (Err BadSection) = a_fault _ refl

framed_fine : (fatal : Bool) (functions : ℕ) (table : Table) (frames : List Frame) (lines : LineTable) (notes : List Noted) (answer : Result Tables FragCause)
    → NotTooLarge (framed_end fatal functions table frames lines notes answer)
framed_fine fatal functions table frames lines notes (Ok tables) =
    lined_fine fatal functions (length frames) table lines notes (line_table.placed lines tables)
framed_fine fatal functions table frames lines notes (Err BadSection) = a_fault _ refl

closed_fine : (place : Option Pos) (notes : List Noted) (answer : Result NotedObject FaultAt) → NotTooLarge answer → NotTooLarge (unless_open place notes answer)
closed_fine None notes answer fine = fine
closed_fine (Some pos) notes answer fine = a_fault _ refl

finished_fine : (fatal : Bool) (functions : ℕ) (sections : List LooseSection) (table : Table) (procedures : Procedures) (lines : LineTable) (notes : List Noted)
    → NotTooLarge (finished fatal functions sections table procedures lines notes)
unfolding finished
finished_fine fatal functions sections table procedures lines notes =
    closed_fine (unclosed procedures) notes _
    (framed_fine fatal functions table (frames_of procedures) lines notes (with_frames procedures table.symbols sections))

-- nor has synthesis such a fault
made_fine : (made : Option Synthesis) (notes : List Noted) (answer : Result NotedObject FaultAt) → NotTooLarge answer → NotTooLarge (unless_fault made notes answer)
made_fine None notes answer fine = fine
made_fine (Some (Ok frames)) notes answer fine = fine
made_fine (Some (Err at)) notes answer fine = a_fault _ refl

-- the end of a source is no reading of a file
pub end_is_no_reading : (flags : Flags) (f : FollowedSource) (fault : FaultAt) → followed_end flags f ≡ Err fault → is_file_too_large fault.fault ≡ false
end_is_no_reading flags f fault is =
    IfErr-at_err (λ at. is_file_too_large at.fault ≡ false) is
    (made_fine flags.scfi (notes_of f) _
    (finished_fine flags.fatal_warnings (length f.functions) f.placed.sections f.placed.table (procedures_by flags.scfi f.placed.procedures) f.placed.lines
    (notes_of f))).holds
