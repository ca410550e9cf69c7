-- What a directive makes of the procedures so far, in source order.
use Rattle.std.specs.Prelude.{◌≡◌, ℕ, ◌==◌, List, [], ◌∷◌, ◌++◌, Option, Some, None, is_some, Result, Ok, Err, if◌then◌else◌}
use Rattle.asm_base.specs.declared.refusals.Refusal.{Refusal}
use Rattle.asm_base.specs.declared.positions.Pos.{Pos}
use Rattle.asm_base.specs.Refusals.{◌>>=◌, FailsLast}
use Rattle.cfi_rows.specs.declared.rows.CfiOp.{CfiOp}
use Rattle.cfi_directives.specs.declared.faults.CfiCause.{CfiCause}
use Rattle.cfi_directives.specs.declared.faults.CfiCause.TheVariants.{CfiOutsideProcedure, UnbalancedCfiState}
use Rattle.cfi_directives.specs.declared.frames.Frame.{Frame}
use Rattle.cfi_directives.specs.declared.frames.PlacedOp.{PlacedOp}
use Rattle.cfi_directives.specs.declared.frames.Pointer.{Pointer}
use Rattle.cfi_directives.specs.declared.lines.CfiLine.{CfiLine}
use Rattle.cfi_directives.specs.declared.lines.CfiLine.TheVariants.{StartProc, EndProc, Row, Point}
use Rattle.cfi_directives.specs.declared.lines.PointerKind.{PointerKind}
use Rattle.asm_base.specs.declared.places.SectionPlace.{SectionPlace}
use Rattle.cfi_directives.specs.Rows.{rows_after}
use Rattle.cfi_directives.specs.Saying.{said}
use Rattle.cfi_directives.specs.Procedures.{Procedures, no_procedures, new_frame, with_pointer, with_stop, cfa_offset}

-- the procedure that is open, for a directive in this section
abbrev pub frame_in : ℕ → Option Frame → Result Frame CfiCause
frame_in section None = Err CfiOutsideProcedure
frame_in section (Some frame) = if frame.section == section then Ok frame else Err UnbalancedCfiState

-- the procedure with an instruction more, where that can be run
abbrev pub with_op : PlacedOp → Frame → Result Frame CfiCause
with_op placed frame = let ops = frame.ops ++ placed ∷ [] in if is_some (rows_after ops) then Ok (record frame { ops = ops }) else Err UnbalancedCfiState

-- a procedure begins
abbrev pub started : Pos → SectionPlace → Procedures → Result Procedures CfiCause
started pos at procedures = if is_some procedures.begun then Err UnbalancedCfiState else Ok (record procedures { begun = Some (new_frame pos at) })

-- the procedure ends
abbrev pub ended : SectionPlace → Procedures → Result Procedures CfiCause
ended at procedures =
    frame_in at.section procedures.begun >>= λ frame. Ok (record { closed = procedures.closed ++ with_stop at.place frame ∷ []; begun = None })

-- the procedure has an instruction more
abbrev pub put : SectionPlace → CfiOp → Procedures → Result Procedures CfiCause
put at op procedures = frame_in at.section procedures.begun
    >>= with_op (record { place = at.place; op = op })
    >>= λ frame. Ok (record procedures { begun = Some frame })

-- the procedure has a pointer of this kind, or none: the last directive counts
abbrev pub pointed : PointerKind → Option Pointer → SectionPlace → Procedures → Result Procedures CfiCause
pointed kind pointer at procedures =
    frame_in at.section procedures.begun >>= λ frame. Ok (record procedures { begun = Some (with_pointer kind pointer frame) })

-- the procedures after a directive at this place
abbrev pub taken : CfiLine → SectionPlace → Procedures → Result Procedures CfiCause
taken (StartProc pos) at procedures = started pos at procedures
taken EndProc at procedures = ended at procedures
taken (Row directive) at procedures = said (cfa_offset procedures.begun) directive >>= λ op. put at op procedures
taken (Point kind pointer) at procedures = pointed kind pointer at procedures

-- a directive and its place
pub record PlacedLine : Type 0 where
  pub line : CfiLine
  pub at : SectionPlace

-- the procedures after directives, one after the other
abbrev pub taken_from : Procedures → List PlacedLine → Result Procedures CfiCause
taken_from procedures [] = Ok procedures
taken_from procedures (placed ∷ lines) = taken placed.line placed.at procedures >>= λ next. taken_from next lines

-- the procedures of a source that has these directives, in source order
abbrev pub procedures_of : List PlacedLine → Result Procedures CfiCause
procedures_of lines = taken_from no_procedures lines

-- the call made the due value, or is refused and changed nothing; want of memory comes only where no fault is due
abbrev pub Changes : {Value : Type 0} → Value → Value → Result (Unit {0}) (Refusal CfiCause) → Result Value CfiCause → Type 0
Changes old new (Ok done) due = due ≡ Ok new
Changes old new (Err refusal) due = FailsLast refusal due × (new ≡ old)
