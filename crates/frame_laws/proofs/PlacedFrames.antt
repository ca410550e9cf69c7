-- Procedures in the sections with a frame table, and in their layout.
use Rattle.std.proofs.Common.{List, arith}
use Rattle.std.proofs.lemmas.List.Elements.{All-weaker}
use Rattle.asm_frags.specs.Writing.{LooseSection}
use Rattle.cfi_directives.specs.declared.frames.Frame.{Frame}
use Rattle.cfi_directives.specs.declared.frames.PlacedOp.{PlacedOp}
use Rattle.cfi_directives.specs.Meant.{stop_of}
use Rattle.table_pieces.specs.Ready.{SectionsKeepPlaces}
use Rattle.table_pieces.specs.Standing.{AllExtend}
use Rattle.table_pieces.specs.StandingPlaces.{HoldsItems}
use Rattle.eh_frame.specs.StandingFrames.{FrameStands}
use Rattle.piece_laws.specs.LaidTables.{LaidTable, PlacesRise}
use Rattle.frame_laws.specs.PlacedTables.{IsCovered}
use Rattle.frame_laws.proofs.EntryReading.{IsRising}
use Rattle.frame_laws.proofs.Rises.{frame_rises}

module _ (keeping : SectionsKeepPlaces) (before after : List LooseSection) (extend : AllExtend before after) where
  -- the places of a procedure stay in its section
  frame_grows : (frame : Frame) → FrameStands before frame → FrameStands after frame
  frame_grows frame stands = record {
    start = keeping.items before after frame.section frame.start.item extend stands.start;
    stop = keeping.items before after frame.section (stop_of frame).item extend stands.stop;
    ops = All-weaker (λ (placed : PlacedOp). HoldsItems before frame.section placed.place.item) (λ (placed : PlacedOp). HoldsItems after frame.section placed.place.item)
        (λ placed has. keeping.items before after frame.section placed.place.item extend has) frame.ops stands.ops;
  }

  -- and a procedure stays covered
  pub covered_grows : (frame : Frame) → IsCovered before frame → IsCovered after frame
  covered_grows frame covered = record {
    whole = covered.whole;
    order = covered.order;
    stands = frame_grows frame covered.stands;
    stop = keeping.place before after frame.section (stop_of frame) extend covered.stop;
  }

module _ (keeping : SectionsKeepPlaces) (places : PlacesRise) (t : LaidTable) (before : List LooseSection) (extend : AllExtend before t.sections) where
  -- a procedure rises in the layout
  pub frame_rising : (frame : Frame) → IsCovered before frame → IsRising t frame
  frame_rising frame covered =
      let stop = keeping.place before t.sections frame.section (stop_of frame) extend covered.stop in
      let kept = places.there t frame.section (stop_of frame) stop in
      let low = places.low t frame.section (stop_of frame) stop in
      record {
        whole = covered.whole;
        stands = frame_grows keeping before t.sections extend frame covered.stands;
        rise = frame_rises places t.laid frame kept.0 kept.1 covered.order;
        low = omega (arith, low);
      }
