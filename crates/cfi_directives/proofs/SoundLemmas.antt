-- The procedures of directives are sound.
use Rattle.std.proofs.Common.{◌≡◌, Bool, true, false, List, [], ◌∷◌, Option, None, Some, Ok, Err, refl, sym, ◌∙◌, ap, subst}
use Rattle.std.specs.Prelude.{ℤ, ◌+ℤ◌, ◌-ℤ◌, ℕ, IsSome, if◌then◌else◌}
use Rattle.std.proofs.lemmas.List.Elements.{All-push, All-nil}
use Rattle.cfi_rows.specs.declared.rows.CfiOp.{CfiOp}
use Rattle.cfi_rows.specs.declared.rows.CfiOp.TheVariants as op
use Rattle.cfi_rows.specs.declared.rows.Rule.TheVariants as rule
use Rattle.cfi_entries.specs.Written.{written}
use Rattle.cfi_directives.specs.declared.faults.CfiCause.TheVariants.{OutOfRange}
use Rattle.cfi_directives.specs.declared.frames.Frame.{Frame}
use Rattle.cfi_directives.specs.declared.frames.PlacedOp.{PlacedOp}
use Rattle.cfi_directives.specs.declared.frames.Pointer.{Pointer}
use Rattle.cfi_directives.specs.declared.lines.PointerKind.{PointerKind}
use Rattle.cfi_directives.specs.declared.lines.PointerKind.TheVariants.{Personality, Lsda}
use Rattle.cfi_directives.specs.declared.lines.CfiLine.{CfiLine}
use Rattle.cfi_directives.specs.declared.lines.CfiLine.TheVariants.{StartProc, EndProc, Row, Point}
use Rattle.cfi_directives.specs.declared.lines.RowDirective.{RowDirective}
use Rattle.cfi_directives.specs.declared.lines.RowDirective.TheVariants.{DefCfa, DefCfaRegister, DefCfaOffset, AdjustCfaOffset, Offset, RelOffset, ValOffset, Register, RememberState, RestoreState, Restore, Undefined, SameValue}
use Rattle.asm_base.specs.declared.places.SectionPlace.{SectionPlace}
use Rattle.cfi_directives.specs.Procedures.{Procedures, no_procedures, with_pointer, with_stop, cfa_offset}
use Rattle.cfi_directives.specs.Saying.{if_writable, adjusted, relative, said}
use Rattle.cfi_directives.specs.Sound.{IsSound, IsWhole, AreSound}
use Rattle.cfi_directives.specs.Taking.{put, taken, PlacedLine, taken_from, procedures_of}
use Rattle.cfi_directives.specs.Writable.{is_writable}
use Rattle.cfi_directives.proofs.StepLemmas.{came, Points, pointed_is, Puts, put_is, Ends, ended_is, started_is, open_is}
use Rattle.cfi_directives.proofs.WritableLemmas.{forms}

-- what is said can be written
chosen_is : (op said : CfiOp) (b : Bool) → is_writable op ≡ b → (if b then Ok op else Err OutOfRange) ≡ Ok said → is_writable said ≡ true
chosen_is op said true writable is = ap is_writable (let same : said ≡ op = cc in same) ∙ writable
chosen_is op said false writable is = absurd (let none : ⊥ = cc in none)

if_is : (op said : CfiOp) → if_writable op ≡ Ok said → is_writable said ≡ true
if_is op said is = chosen_is op said (is_writable op) refl is

adjusted_is : (cfa : Option ℤ) (by : ℤ) (said : CfiOp) → adjusted cfa by ≡ Ok said → is_writable said ≡ true
adjusted_is None by said is = absurd (let none : ⊥ = cc in none)
adjusted_is (Some cfa) by said is = if_is (op.DefCfaOffset (cfa +ℤ by)) said is

relative_is : (cfa : Option ℤ) (number : ℕ) (offset : ℤ) (said : CfiOp) → relative cfa number offset ≡ Ok said → is_writable said ≡ true
relative_is None number offset said is = absurd (let none : ⊥ = cc in none)
relative_is (Some cfa) number offset said is = if_is (op.Set number (rule.Offset (offset -ℤ cfa))) said is

pub said_is : (cfa : Option ℤ) (directive : RowDirective) (op : CfiOp) → said cfa directive ≡ Ok op → is_writable op ≡ true
said_is cfa (DefCfa register offset) said is = if_is (op.DefCfa register.number offset) said is
said_is cfa (DefCfaRegister register) said is = if_is (op.DefCfaRegister register.number) said is
said_is cfa (DefCfaOffset offset) said is = if_is (op.DefCfaOffset offset) said is
said_is cfa (AdjustCfaOffset by) said is = adjusted_is cfa by said is
said_is cfa (Offset register offset) said is = if_is (op.Set register.number (rule.Offset offset)) said is
said_is cfa (RelOffset register offset) said is = relative_is cfa register.number offset said is
said_is cfa (ValOffset register offset) said is = if_is (op.Set register.number (rule.ValueOffset offset)) said is
said_is cfa (Register register other) said is = if_is (op.Set register.number (rule.Register other.number)) said is
said_is cfa RememberState said is = if_is op.Remember said is
said_is cfa RestoreState said is = if_is op.RestoreState said is
said_is cfa (Restore register) said is = if_is (op.Restore register.number) said is
said_is cfa (Undefined register) said is = if_is (op.Set register.number rule.Undefined) said is
said_is cfa (SameValue register) said is = if_is (op.Set register.number rule.SameValue) said is

-- an instruction more keeps a procedure sound
put_sound : (at : SectionPlace) (procedures next : Procedures) (frame : Frame) (op : CfiOp) → Puts at op procedures next frame
    → is_writable op ≡ true → AreSound procedures → AreSound next
put_sound at procedures next frame op puts writable sound =
    let placed : PlacedOp = record { place = at.place; op = op } in
    let had = open_is (λ frame. (frame.stop ≡ None) × IsSound frame) procedures.begun frame puts.begun sound.begun in
    subst AreSound (sym puts.made) (record {
      closed = sound.closed;
      begun = (
        had.0,
        record {
          written = All-push (λ (placed : PlacedOp). IsSome (written placed.op)) frame.ops placed had.1.written (sym (forms op) ∙ writable);
          run = puts.run;
        },
      );
    })

end_sound : (at : SectionPlace) (procedures next : Procedures) (frame : Frame) → Ends at procedures next frame → AreSound procedures → AreSound next
end_sound at procedures next frame ends sound =
    let had = open_is (λ frame. (frame.stop ≡ None) × IsSound frame) procedures.begun frame ends.begun sound.begun in
    subst AreSound (sym ends.made) (record {
      closed = All-push IsWhole procedures.closed (with_stop at.place frame) sound.closed
          (record { stop = refl; sound = record { written = had.1.written; run = had.1.run } });
      begun = tt;
    })

-- a pointer changes no instruction
pointed_sound : (kind : PointerKind) (pointer : Option Pointer) (frame : Frame) → (frame.stop ≡ None) × IsSound frame
    → ((with_pointer kind pointer frame).stop ≡ None) × IsSound (with_pointer kind pointer frame)
pointed_sound Personality pointer frame had = (had.0, record { written = had.1.written; run = had.1.run })
pointed_sound Lsda pointer frame had = (had.0, record { written = had.1.written; run = had.1.run })

point_sound : (kind : PointerKind) (pointer : Option Pointer) (at : SectionPlace) (procedures next : Procedures) (frame : Frame)
    → Points kind pointer at procedures next frame → AreSound procedures → AreSound next
point_sound kind pointer at procedures next frame points sound =
    let had = open_is (λ frame. (frame.stop ≡ None) × IsSound frame) procedures.begun frame points.begun sound.begun in
    subst AreSound (sym points.made) (record { closed = sound.closed; begun = pointed_sound kind pointer frame had })

-- a directive more keeps all of them sound
pub kept_sound : (line : CfiLine) (at : SectionPlace) (procedures next : Procedures) → taken line at procedures ≡ Ok next → AreSound procedures → AreSound next
kept_sound (StartProc pos) at procedures next is sound =
    let starts = started_is pos at procedures next is in
    subst AreSound (sym starts.1) (record { closed = sound.closed; begun = (refl, record { written = All-nil (λ (placed : PlacedOp). IsSome (written placed.op)); run = refl }) })
kept_sound EndProc at procedures next is sound =
    let ends = ended_is at procedures next is in
    end_sound at procedures next ends.0 ends.1 sound
kept_sound (Row directive) at procedures next is sound =
    let says = came (said (cfa_offset procedures.begun) directive) (λ op. put at op procedures) next is in
    let puts = put_is at says.0 procedures next says.2 in
    put_sound at procedures next puts.0 says.0 puts.1 (said_is (cfa_offset procedures.begun) directive says.0 says.1) sound
kept_sound (Point kind pointer) at procedures next is sound =
    let points = pointed_is kind pointer at procedures next is in
    point_sound kind pointer at procedures next points.0 points.1 sound

sound_from : (lines : List PlacedLine) (procedures last : Procedures) → AreSound procedures → taken_from procedures lines ≡ Ok last → AreSound last
sound_from [] procedures last sound is = subst AreSound (let same : procedures ≡ last = cc in same) sound
sound_from (line ∷ lines) procedures last sound is =
    let step = came (taken line.line line.at procedures) (λ next. taken_from next lines) last is in
    sound_from lines step.0 last (kept_sound line.line line.at procedures step.0 step.1 sound) step.2

pub all_sound : (lines : List PlacedLine) (procedures : Procedures) → procedures_of lines ≡ Ok procedures → AreSound procedures
all_sound lines procedures is = sound_from lines no_procedures procedures (record { closed = All-nil IsWhole; begun = tt }) is
