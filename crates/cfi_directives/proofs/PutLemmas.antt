-- What the open procedure keeps when an instruction is put last.
use Rattle.std.proofs.Common.{◌≡◌, true, false, List, [], ◌∷◌, ◌++◌, Option, None, Some, is_some, Ok, Err, refl, sym, ◌∙◌, ap}
use Rattle.std.specs.Prelude.{if◌then◌else◌, IsSome}
use Rattle.std.specs.Option.{option_map}
use Rattle.std.proofs.lemmas.List.Elements.{All-push}
use Rattle.cfi_entries.specs.Written.{written}
use Rattle.cfi_directives.specs.declared.faults.CfiCause.TheVariants.{UnbalancedCfiState}
use Rattle.cfi_directives.specs.declared.frames.Frame.{Frame}
use Rattle.cfi_directives.specs.declared.frames.PlacedOp.{PlacedOp}
use Rattle.cfi_directives.specs.Offsets.{Offsets, offsets_of, moved}
use Rattle.cfi_directives.specs.Rows.{rows_after}
use Rattle.cfi_directives.specs.Taking.{with_op}
use Rattle.cfi_directives.specs.Tracking.{Tracks}
use Rattle.cfi_directives.specs.Writable.{is_writable}
use Rattle.cfi_directives.proofs.RowLemmas.{rows_after-add, tracked}
use Rattle.cfi_directives.proofs.WritableLemmas.{forms}

-- a value stays one
pub some_map : {A B : Type 0} (f : A → B) (o : Option A) → is_some o ≡ is_some (option_map f o)
some_map f None = refl
some_map f (Some value) = refl

-- the frame with these instructions
abbrev pub with_ops : Frame → List PlacedOp → Frame
with_ops frame ops = record frame { ops = ops }

-- the offsets behind one instruction more
offsets_behind : (placed : PlacedOp) (frame : Frame) (offsets : Offsets) → Tracks frame offsets → is_writable placed.op ≡ true
    → option_map offsets_of (rows_after (frame.ops ++ placed ∷ [])) ≡ moved placed.op offsets
offsets_behind placed frame offsets tracks writable =
    ap (option_map offsets_of) (rows_after-add frame.ops placed)
    ∙ tracked placed.op (rows_after frame.ops) offsets writable tracks.known

-- it can be run exactly where it can be by the offsets
runs : (placed : PlacedOp) (frame : Frame) (offsets : Offsets) → Tracks frame offsets → is_writable placed.op ≡ true
    → is_some (rows_after (frame.ops ++ placed ∷ [])) ≡ is_some (moved placed.op offsets)
runs placed frame offsets tracks writable =
    some_map offsets_of (rows_after (frame.ops ++ placed ∷ []))
    ∙ ap is_some (offsets_behind placed frame offsets tracks writable)

pub put_refused : (placed : PlacedOp) (frame : Frame) (offsets : Offsets) → Tracks frame offsets → is_writable placed.op ≡ true
    → is_some (moved placed.op offsets) ≡ false → with_op placed frame ≡ Err UnbalancedCfiState
put_refused placed frame offsets tracks writable stuck =
    ap (λ b. if b then Ok (with_ops frame (frame.ops ++ placed ∷ [])) else Err UnbalancedCfiState) (runs placed frame offsets tracks writable ∙ stuck)

pub put_due : (placed : PlacedOp) (frame : Frame) (offsets : Offsets) → Tracks frame offsets → is_writable placed.op ≡ true
    → is_some (moved placed.op offsets) ≡ true → with_op placed frame ≡ Ok (with_ops frame (frame.ops ++ placed ∷ []))
put_due placed frame offsets tracks writable free =
    ap (λ b. if b then Ok (with_ops frame (frame.ops ++ placed ∷ [])) else Err UnbalancedCfiState) (runs placed frame offsets tracks writable ∙ free)

pub put_tracks : (placed : PlacedOp) (frame : Frame) (offsets new : Offsets) → Tracks frame offsets → is_writable placed.op ≡ true
    → moved placed.op offsets ≡ Some new → Tracks (with_ops frame (frame.ops ++ placed ∷ [])) new
put_tracks placed frame offsets new tracks writable is = record {
  unended = tracks.unended;
  sound = record {
    written = All-push (λ (placed : PlacedOp). IsSome (written placed.op)) frame.ops placed tracks.sound.written (sym (forms placed.op) ∙ writable);
    run = runs placed frame offsets tracks writable ∙ ap is_some is;
  };
  known = offsets_behind placed frame offsets tracks writable ∙ is;
}
