-- The places of a procedure in a layout.
use Rattle.std.proofs.Common.{◌≡◌, ℕ, ◌^◌, ◌<◌, ◌≤◌, ◌==◌, Bool, true, false, List, [], ◌∷◌, ◌++◌, All, map, Option, Some, None, refl, arith}
use Rattle.std.specs.Prelude.{slice_get, IsSomeAnd}
use Rattle.std.specs.Option.{unwrap_or}
use Rattle.std.proofs.lemmas.List.Elements.{All-head, All-tail}
use Rattle.asm_frags.specs.SectionOf.{SectionOf}
use Rattle.asm_relax.specs.Settling.{LaidItem, LaidSections}
use Rattle.cfi_directives.specs.declared.frames.Frame.{Frame}
use Rattle.cfi_directives.specs.declared.frames.PlacedOp.{PlacedOp}
use Rattle.asm_base.specs.declared.places.Place.{Place}
use Rattle.asm_base.specs.declared.places.SectionPlace.{SectionPlace}
use Rattle.cfi_directives.specs.Meant.{place_in, stands_at, stop_of}
use Rattle.cfi_directives.specs.Order.{IsUpTo, NeverFall, op_places, IsInOrder}
use Rattle.table_pieces.specs.StandingPlaces.{HoldsItems}
use Rattle.eh_frame.specs.Entries.{advance_piece, op_pieces}
use Rattle.eh_frame.specs.Reading.{Follows, Rise}
use Rattle.piece_laws.specs.LaidTables.{place_address, LaidTable, PlacesRise}
use Rattle.piece_laws.specs.PiecesInFile.{Fits, AllFit}

module _ (places : PlacesRise) (laid : LaidSections) (section : ℕ) (kept : SectionOf LaidItem) (there : slice_get laid section ≡ Some kept) where
  follows : (first second : Place) → IsUpTo first second → Follows (place_address laid) section first second
  follows first second up = record { rises = places.rise laid section first second up.0 up.1; beside = places.beside laid section kept first second there }

  rise_of : (last : Place) (ops : List PlacedOp) (stop : Place) → NeverFall (last ∷ (map (λ placed. placed.place) ops ++ stop ∷ []))
      → Rise (place_address laid) section last ops stop
  rise_of last [] stop never = places.rise laid section last stop never.0.0 never.0.1
  rise_of last (placed ∷ ops) stop never = (follows last placed.place never.0, rise_of placed.place ops stop never.1)

-- the instructions of a procedure that has ended never fall in a layout
pub frame_rises : PlacesRise → (laid : LaidSections) (frame : Frame) (kept : SectionOf LaidItem) → slice_get laid frame.section ≡ Some kept → IsInOrder frame
    → Rise (place_address laid) frame.section frame.start frame.ops (stop_of frame)
frame_rises places laid frame kept there = by frame.stop
  where
    by : (stop : Option Place) → IsSomeAnd stop (λ stop. NeverFall (op_places frame ++ stop ∷ []))
        → Rise (place_address laid) frame.section frame.start frame.ops (unwrap_or stop frame.start)
    by None order = absurd order
    by (Some stop) order = rise_of places laid frame.section kept there frame.start frame.ops stop order

module _ (address : SectionPlace → ℕ) (section : ℕ) where
  -- no place stands behind the end
  pub rise_to : (last : Place) (ops : List PlacedOp) (stop : Place) → Rise address section last ops stop → stands_at address section last ≤ stands_at address section stop
  rise_to last [] stop rise = rise
  rise_to last (placed ∷ ops) stop rise =
      let step = rise.0.rises in
      let later = rise_to placed.place ops stop rise.1 in
      omega (arith, step, later)

module _ (t : LaidTable) (section log : ℕ) where
  step_fits : (beside : Bool) (last next : Place) → HoldsItems t.sections section last.item → HoldsItems t.sections section next.item
      → stands_at (place_address t.laid) section last ≤ stands_at (place_address t.laid) section next → stands_at (place_address t.laid) section next < 2 ^ 32
      → Fits t.sections t.laid t.number (advance_piece beside section last next)
  step_fits true last next last_stands next_stands rises low = tt
  step_fits false last next last_stands next_stands rises low = record {
    to = place_in section next;
    from = place_in section last;
    is_it = refl;
    section = refl;
    to_stands = next_stands;
    from_stands = last_stands;
    rises = rises;
    low = low;
  }

  -- the advances of a procedure lead forward
  pub ops_fit : (last : Place) (ops : List PlacedOp) (stop : Place) → Rise (place_address t.laid) section last ops stop → HoldsItems t.sections section last.item
      → All (λ placed. HoldsItems t.sections section placed.place.item) ops → stands_at (place_address t.laid) section stop < 2 ^ 32
      → AllFit t.sections t.laid t.number (op_pieces section log last ops)
  ops_fit last [] stop rise stands all low = (tt, tt)
  ops_fit last (placed ∷ ops) stop rise stands all low =
      let here = All-head (λ (placed : PlacedOp). HoldsItems t.sections section placed.place.item) placed ops all in
      let up = rise_to (place_address t.laid) section placed.place ops stop rise.1 in (
        step_fits (last.item == placed.place.item) last placed.place stands here rise.0.rises (omega (arith, up, low)),
        (tt, ops_fit placed.place ops stop rise.1 here (All-tail (λ (placed : PlacedOp). HoldsItems t.sections section placed.place.item) placed ops all) low),
      )
