-- What the procedures were where a directive was taken.
use Rattle.std.proofs.Common.{◌≡◌, ℕ, ◌==◌, Bool, true, false, List, [], ◌∷◌, ◌++◌, Option, None, Some, is_some, Result, Ok, Err, refl, sym, ◌∙◌, ap, subst, eqb-true}
use Rattle.std.specs.Prelude.{IfSome, if◌then◌else◌}
use Rattle.asm_base.specs.declared.positions.Pos.{Pos}
use Rattle.asm_base.specs.Refusals.{◌>>=◌}
use Rattle.cfi_rows.specs.declared.rows.CfiOp.{CfiOp}
use Rattle.cfi_directives.specs.declared.faults.CfiCause.{CfiCause}
use Rattle.cfi_directives.specs.declared.faults.CfiCause.TheVariants.{UnbalancedCfiState}
use Rattle.cfi_directives.specs.declared.frames.Frame.{Frame}
use Rattle.cfi_directives.specs.declared.frames.PlacedOp.{PlacedOp}
use Rattle.cfi_directives.specs.declared.frames.Pointer.{Pointer}
use Rattle.cfi_directives.specs.declared.lines.PointerKind.{PointerKind}
use Rattle.asm_base.specs.declared.places.SectionPlace.{SectionPlace}
use Rattle.cfi_directives.specs.Procedures.{Procedures, new_frame, with_pointer, with_stop}
use Rattle.cfi_directives.specs.Rows.{rows_after}
use Rattle.cfi_directives.specs.Taking.{frame_in, with_op, started, ended, pointed, put}

-- a step that came to a value had one before it
abbrev pub Came : {A B : Type 0} → Result A CfiCause → (A → Result B CfiCause) → B → Type 0
Came {A} {B} due step made = (value : A) × (due ≡ Ok value) × (step value ≡ Ok made)

pub came : {A B : Type 0} (due : Result A CfiCause) (step : A → Result B CfiCause) (made : B) → (due >>= step) ≡ Ok made → Came due step made
came (Ok value) step made is = (value, refl, is)
came (Err cause) step made is = absurd (let none : ⊥ = cc in none)

chosen : {A : Type 0} (b : Bool) (cause : CfiCause) (value made : A) → (if b then Ok value else Err cause) ≡ Ok made → (b ≡ true) × (value ≡ made)
chosen true cause value made is = (refl, cc)
chosen false cause value made is = absurd (let none : ⊥ = cc in none)

spared : {A : Type 0} (b : Bool) (cause : CfiCause) (value made : A) → (if b then Err cause else Ok value) ≡ Ok made → (b ≡ false) × (value ≡ made)
spared false cause value made is = (refl, cc)
spared true cause value made is = absurd (let none : ⊥ = cc in none)

pub frame_in_is : (section : ℕ) (begun : Option Frame) (frame : Frame) → frame_in section begun ≡ Ok frame → (begun ≡ Some frame) × (frame.section ≡ section)
frame_in_is section None frame is = absurd (let none : ⊥ = cc in none)
frame_in_is section (Some found) frame is =
    let parts = chosen (found.section == section) UnbalancedCfiState found frame is in
    (ap Some parts.1, ap (λ (f : Frame). f.section) (sym parts.1) ∙ eqb-true found.section section parts.0)

-- the procedures with the open one's instructions
abbrev pub with_ops : Frame → List PlacedOp → Frame
with_ops frame ops = record frame { ops = ops }

pub with_op_is : (placed : PlacedOp) (frame made : Frame) → with_op placed frame ≡ Ok made
    → (is_some (rows_after (frame.ops ++ placed ∷ [])) ≡ true) × (with_ops frame (frame.ops ++ placed ∷ []) ≡ made)
with_op_is placed frame made is =
    chosen (is_some (rows_after (frame.ops ++ placed ∷ []))) UnbalancedCfiState (with_ops frame (frame.ops ++ placed ∷ [])) made is

-- what an open procedure was when an instruction was put
pub record Puts (at : SectionPlace) (op : CfiOp) (procedures next : Procedures) (frame : Frame) : Type 0 where
  pub begun : procedures.begun ≡ Some frame
  pub section : frame.section ≡ at.section
  pub run : is_some (rows_after (frame.ops ++ record { place = at.place; op = op } ∷ [])) ≡ true
  pub made : next ≡ record procedures { begun = Some (with_ops frame (frame.ops ++ record { place = at.place; op = op } ∷ [])) }

pub put_is : (at : SectionPlace) (op : CfiOp) (procedures next : Procedures) → put at op procedures ≡ Ok next
    → (frame : Frame) × Puts at op procedures next frame
put_is at op procedures next is =
    let outer = came (frame_in at.section procedures.begun >>= with_op (record { place = at.place; op = op })) (λ frame. Ok (record procedures { begun = Some frame })) next is in
    let inner = came (frame_in at.section procedures.begun) (with_op (record { place = at.place; op = op })) outer.0 outer.1 in
    let found = frame_in_is at.section procedures.begun inner.0 inner.1 in
    let made = with_op_is (record { place = at.place; op = op }) inner.0 outer.0 inner.2 in (
      inner.0,
      record {
        begun = found.0;
        section = found.1;
        run = made.0;
        made = (let same : record procedures { begun = Some outer.0 } ≡ next = cc in sym same) ∙ ap (λ frame. record procedures { begun = Some frame }) (sym made.1);
      },
    )

pub record Ends (at : SectionPlace) (procedures next : Procedures) (frame : Frame) : Type 0 where
  pub begun : procedures.begun ≡ Some frame
  pub section : frame.section ≡ at.section
  pub made : next ≡ record { closed = procedures.closed ++ with_stop at.place frame ∷ []; begun = None }

pub ended_is : (at : SectionPlace) (procedures next : Procedures) → ended at procedures ≡ Ok next
    → (frame : Frame) × Ends at procedures next frame
ended_is at procedures next is =
    let inner = came (frame_in at.section procedures.begun) (λ frame. Ok (record { closed = procedures.closed ++ with_stop at.place frame ∷ []; begun = None })) next is in
    let found = frame_in_is at.section procedures.begun inner.0 inner.1 in
    (inner.0, record { begun = found.0; section = found.1; made = cc })

-- what an open procedure was when it got a pointer
pub record Points (kind : PointerKind) (pointer : Option Pointer) (at : SectionPlace) (procedures next : Procedures) (frame : Frame) : Type 0 where
  pub begun : procedures.begun ≡ Some frame
  pub section : frame.section ≡ at.section
  pub made : next ≡ record procedures { begun = Some (with_pointer kind pointer frame) }

pub pointed_is : (kind : PointerKind) (pointer : Option Pointer) (at : SectionPlace) (procedures next : Procedures) → pointed kind pointer at procedures ≡ Ok next
    → (frame : Frame) × Points kind pointer at procedures next frame
pointed_is kind pointer at procedures next is =
    let inner = came (frame_in at.section procedures.begun) (λ frame. Ok (record procedures { begun = Some (with_pointer kind pointer frame) })) next is in
    let found = frame_in_is at.section procedures.begun inner.0 inner.1 in
    (inner.0, record { begun = found.0; section = found.1; made = cc })

none_is : (begun : Option Frame) → is_some begun ≡ false → begun ≡ None
none_is None none = refl
none_is (Some frame) some = absurd (let none : ⊥ = cc in none)

pub started_is : (pos : Pos) (at : SectionPlace) (procedures next : Procedures) → started pos at procedures ≡ Ok next
    → (procedures.begun ≡ None) × (next ≡ record procedures { begun = Some (new_frame pos at) })
started_is pos at procedures next is =
    let parts = spared (is_some procedures.begun) UnbalancedCfiState (record procedures { begun = Some (new_frame pos at) }) next is in
    (none_is procedures.begun parts.0, sym parts.1)

-- what holds of the open procedure, where that is known
pub open_is : (P : Frame → Type 0) (begun : Option Frame) (frame : Frame) → begun ≡ Some frame → IfSome begun P → P frame
open_is P begun frame is holds = subst (λ (b : Option Frame). IfSome b P) is holds
