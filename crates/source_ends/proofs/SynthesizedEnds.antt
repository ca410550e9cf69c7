-- The end of a source by what synthesis comes to: frames in place of procedures.
use Rattle.std.proofs.Common.{◌≡◌, ℕ, Bool, List, None, Result, Ok, Err, refl, sym, ap, ◌∙◌, subst, append-nil}
use Rattle.std.specs.Prelude.{OnOk}
use Rattle.asm_base.specs.Refusals.{Returns}
use Rattle.asm_base.specs.declared.faults.Fault.TheVariants.{Scfi}
use Rattle.asm_base.specs.declared.notes.Noted.{Noted}
use Rattle.asm_base.specs.declared.refusals.Refusal.{Refusal}
use Rattle.asm_base.specs.declared.refusals.Refusal.TheVariants as refusal
use Rattle.asm_frags.specs.Writing.{LooseSection}
use Rattle.asm_place.specs.Sources.{fault_at}
use Rattle.asm_place.specs.declared.place_faults.FaultAt.{FaultAt}
use Rattle.asm_uses.specs.Tables.{Table}
use Rattle.cfi_directives.specs.declared.frames.Frame.{Frame}
use Rattle.code_functions.specs.declared.items.CodeItem.{CodeItem}
use Rattle.code_functions.specs.Recorded.{Recorded}
use Rattle.table_pieces.specs.Pieces.{tables_of}
use Rattle.eh_frame.specs.Placing.{placed}
use Rattle.line_directives.specs.Taking.{LineTable}
use Rattle.source_ends.specs.Synthesis.{AreFrames, IsFirstRefused}
use Rattle.source_ends.specs.declared.synthesizing.ItemFaultAt.{ItemFaultAt}
use Rattle.source_ends.specs.Ending.{lines_behind, with_tables, framed_end, finished}
use Rattle.source_ends.specs.Fitting.{TablesFit, AnswersWithFrames}
use Rattle.source_ends.specs.declared.ending.NotedObject.{NotedObject}

-- the end with frames in place of procedures is that with their table
finished_frames : (fatal : Bool) (count : ℕ) (sections : List LooseSection) (table : Table) (frames : List Frame) (lines : LineTable) (notes : List Noted)
    → finished fatal count sections table (record { closed = frames; begun = None }) lines notes
    ≡ framed_end fatal count table frames lines notes (placed frames (tables_of table.symbols sections))
unfolding finished
finished_frames fatal count sections table frames lines notes =
    ap (λ (all : List Frame). framed_end fatal count table all lines notes (placed all (tables_of table.symbols sections))) (append-nil frames)

tables_frames : (sections : List LooseSection) (table : Table) (frames : List Frame) (lines : LineTable)
    → TablesFit (lines_behind lines (placed frames (tables_of table.symbols sections)))
    → TablesFit (with_tables (record { closed = frames; begun = None }) lines table.symbols sections)
tables_frames sections table frames lines fit =
    subst (λ (all : List Frame). TablesFit (lines_behind lines (placed all (tables_of table.symbols sections)))) (sym (append-nil frames)) fit

-- all functions have frames
pub frames_made : (fatal : Bool) (count : ℕ) (sections : List LooseSection) (table : Table) (lines : LineTable) (functions : List (Recorded CodeItem)) (notes : List Noted)
    (frames : List Frame) (result : Result NotedObject (Refusal FaultAt)) → AreFrames table.symbols sections functions frames
    → Returns result (framed_end fatal count table frames lines notes (placed frames (tables_of table.symbols sections)))
    → OnOk result (TablesFit (lines_behind lines (placed frames (tables_of table.symbols sections))))
    → AnswersWithFrames fatal count sections table lines functions notes result
frames_made fatal count sections table lines functions notes frames (Ok made) are returns fits = record {
  made = Ok frames;
  comes = are;
  answers = finished_frames fatal count sections table frames lines notes ∙ returns;
  fits = tables_frames sections table frames lines fits;
}
frames_made fatal count sections table lines functions notes frames (Err (refusal.Fault at)) are returns fits = record {
  made = Ok frames;
  comes = are;
  answers = finished_frames fatal count sections table frames lines notes ∙ returns;
  fits = tt;
}
frames_made fatal count sections table lines functions notes frames (Err refusal.NoMemory) are returns fits = tt

-- a function has a fault
pub fault_made : (fatal : Bool) (count : ℕ) (sections : List LooseSection) (table : Table) (lines : LineTable) (functions : List (Recorded CodeItem)) (notes : List Noted)
    (at : ItemFaultAt) → IsFirstRefused table.symbols sections functions at
    → AnswersWithFrames fatal count sections table lines functions notes (Err (refusal.Fault (fault_at (Scfi at.fault) at.pos notes)))
fault_made fatal count sections table lines functions notes at is = record { made = Err at; comes = is; answers = refl; fits = tt }
