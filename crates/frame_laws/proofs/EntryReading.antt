-- The FDE of a procedure reads in the file.
use Rattle.std.proofs.Common.{◌≡◌, ℕ, ◌+◌, ◌-◌, ◌^◌, ◌<◌, ◌≤◌, List, [], ◌∷◌, None, refl, subst, arith}
use Rattle.std.specs.Prelude.{slice_get, IsSomeAnd}
use Rattle.elf_object.specs.Faults.{object_fault}
use Rattle.elf_object.specs.Image.{image_of}
use Rattle.cfi_directives.specs.declared.frames.Frame.{Frame}
use Rattle.cfi_directives.specs.Meant.{place_in, stands_at, stop_of}
use Rattle.cfi_directives.specs.Sound.{IsWhole}
use Rattle.table_pieces.specs.declared.ends.SectionEnd.{SectionEnd}
use Rattle.table_pieces.specs.declared.marks.Mark.TheVariants.{Here, At}
use Rattle.table_pieces.specs.Ends.{behind_plain, behind_pieces, end_place}
use Rattle.table_pieces.specs.Found.{PiecesStand}
use Rattle.table_pieces.specs.Labels.{PlacesAreLabels}
use Rattle.table_pieces.specs.Made.{pieces_bytes}
use Rattle.table_pieces.specs.Pieces.{Piece, number, pointer, plain, Tables, piece_put, pieces_put}
use Rattle.table_pieces.specs.StandingPlaces.{HoldsItems}
use Rattle.cfi_rows.specs.Pointers.{size_if}
use Rattle.eh_frame.specs.Commons.{encoding_if, form_of, with_pointer}
use Rattle.eh_frame.specs.Entries.{length_piece, counted_pieces, entry_pieces, op_pieces}
use Rattle.eh_frame.specs.Reading.{Rise, IsEntry, EntriesRead}
use Rattle.eh_frame.specs.StandingFrames.{FrameStands}
use Rattle.piece_laws.specs.HeldDistances.{NamesStay}
use Rattle.piece_laws.specs.LaidTables.{place_address, LaidTable, StandsTo}
use Rattle.piece_laws.specs.PiecesInFile.{IsNear, AllFit, AreInFile}
use Rattle.piece_laws.specs.Pointers.{PointsTo}
use Rattle.frame_laws.specs.TableReads.{CommonReads, EntryReads}
use Rattle.frame_laws.proofs.CommonReading.{pointer_fits, pointer_named}
use Rattle.frame_laws.proofs.EntryForm.{entry_tells}
use Rattle.frame_laws.proofs.PieceFacts.{PieceFacts, at_end}
use Rattle.frame_laws.proofs.Rises.{rise_to, ops_fit}

-- what is known of a procedure where its entry is put: its places stand in the section that it covers, and rise
pub record IsRising (t : LaidTable) (frame : Frame) : Type 0 where
  pub whole : IsWhole frame
  pub stands : FrameStands t.sections frame
  pub rise : Rise (place_address t.laid) frame.section frame.start frame.ops (stop_of frame)
  pub low : stands_at (place_address t.laid) frame.section (stop_of frame) < 2 ^ 32

module _ (facts : PieceFacts) (t : LaidTable) (faultless : object_fault t.symbols t.laid ≡ None) (frame : Frame) (common : SectionEnd) (log : ℕ) (end : SectionEnd)
    (rising : IsRising t frame) where
  abbrev pieces : List Piece
  pieces = entry_pieces t.number end (end_place t.number common) log frame

  abbrev last : SectionEnd
  last = behind_pieces pieces end

  -- the end behind the length of the augmentation data
  abbrev covered_end : SectionEnd
  covered_end = behind_plain 1 (behind_plain 4 (behind_plain 4 (behind_plain 4 (behind_plain 4 end))))

  holds : (one : SectionEnd) → StandsTo t.held one → HoldsItems t.sections t.number one.items
  holds one stands = record { held = t.held; there = t.found; enough = stands.items }

  -- all pieces of an entry are as they are to be
  entry_fits : StandsTo t.held common → StandsTo t.held last → AllFit t.sections t.laid t.number pieces
  entry_fits common_stands last_stands =
      let ops = ops_fit t frame.section log frame.start frame.ops (stop_of frame) rising.rise rising.stands.start rising.stands.ops rising.low in
      let range : IsNear t.sections t.laid t.number (record { to = At (place_in frame.section (stop_of frame)); from = At (place_in frame.section frame.start); plus = 0 }) =
      record { one = refl; plus = omega arith; to = rising.stands.stop; from = rising.stands.start } in
      let back : IsNear t.sections t.laid t.number (record { to = Here; from = At (end_place t.number common); plus = 0 }) =
      record { one = refl; plus = omega arith; to = tt; from = holds common common_stands } in
      let size : IsNear t.sections t.laid t.number (record { to = At (end_place t.number last); from = Here; plus = 2 ^ 64 - 4 }) =
      record { one = refl; plus = omega arith; to = holds last last_stands; from = tt } in
      (size, (back, (tt, (range, (tt, pointer_fits facts t faultless frame.lsda (op_pieces frame.section log frame.start frame.ops) ops)))))

  -- the FDE of a procedure reads in the file as its directives mean
  pub entry_reads : EntriesRead → CommonReads (image_of t.symbols t.laid) t.symbols t.laid t.number (at_end t common) frame → (tables : Tables)
      → StandsTo t.held common → StandsTo t.held end → at_end t common ≤ at_end t end → PlacesAreLabels tables.symbols
      → NamesStay (pieces_put t.number frame.pos pieces tables).symbols t.symbols → PiecesStand t.held t.number frame.pos end tables pieces
      → (made : AreInFile t.symbols t.laid t.number pieces end)
      × (read : EntryReads (image_of t.symbols t.laid) t.symbols t.laid t.number (at_end t end) frame)
      × (read.entry ≡ pieces_bytes pieces made.mades) × (read.common ≡ at_end t common)
  entry_reads read cie tables common_stands stands behind known stays stand =
      let last_stands = facts.file.ends.pieces t tables frame.pos end pieces stands stand in
      let made = facts.file.pieces t tables frame.pos end (length_piece (end_place t.number last)) (counted_pieces (end_place t.number common) log frame) stands known stays
      (entry_fits common_stands last_stands) stand in
      let address = place_address t.laid in
      let reach = made.reach in
      let low = facts.file.ends.low t last last_stands in
      let entry : IsEntry address (at_end t end) (end_place t.number common) (end_place t.number last) log frame made.mades = record {
        whole = rising.whole;
        rise = rising.rise;
        low = rising.low;
        made = made.are_made;
        behind = behind;
        ends = reach;
        short = omega (arith, reach, low);
      } in
      let first = facts.file.ends.run t frame.pos end (behind_plain 4 end) 4 stand.0.run refl in
      let second = facts.file.ends.run t frame.pos (behind_plain 4 end) (behind_plain 4 (behind_plain 4 end)) 4 stand.1.0.run refl in
      let place : at_end t (behind_plain 4 (behind_plain 4 end)) ≡ at_end t end + 8 = omega (arith, first, second) in
      let front : List Piece = length_piece (end_place t.number last) ∷ number (record { to = Here; from = At (end_place t.number common); plus = 0 }) ∷ [] in
      let two : Tables = pieces_put t.number frame.pos front tables in
      let at_start = place_in frame.section frame.start in
      let rises = rise_to address frame.section frame.start frame.ops (stop_of frame) rising.rise in
      let far = rising.low in
      let start_low : address at_start < 2 ^ 64 = omega (arith, rises, far) in
      let front_stands = facts.file.ends.pieces t tables frame.pos end front stands (stand.0, (stand.1.0, tt)) in
      let third = facts.file.ends.run t frame.pos (behind_plain 4 (behind_plain 4 end)) (behind_plain 4 (behind_plain 4 (behind_plain 4 end))) 4 stand.1.1.0.run refl in
      let fourth = facts.file.ends.run t frame.pos (behind_plain 4 (behind_plain 4 (behind_plain 4 end))) (behind_plain 4 (behind_plain 4 (behind_plain 4 (behind_plain 4 end)))) 4
      stand.1.1.1.0.run refl in
      let fifth = facts.file.ends.run t frame.pos (behind_plain 4 (behind_plain 4 (behind_plain 4 (behind_plain 4 end)))) covered_end 1 stand.1.1.1.1.0.0 refl in
      let lsda_place : at_end t covered_end ≡ at_end t end + 17 = omega (arith, first, second, third, fourth, fifth) in
      let ops : List Piece = op_pieces frame.section log frame.start frame.ops in
      let five : List Piece = length_piece (end_place t.number last) ∷ number (record { to = Here; from = At (end_place t.number common); plus = 0 })
      ∷ pointer (place_in frame.section frame.start)
      ∷ number (record { to = At (place_in frame.section (stop_of frame)); from = At (place_in frame.section frame.start); plus = 0 })
      ∷ plain (size_if (encoding_if frame.lsda) ∷ []) ∷ [] in
      let covered_stands = facts.file.ends.pieces t tables frame.pos end five stands (stand.0, (stand.1.0, (stand.1.1.0, (stand.1.1.1.0, (stand.1.1.1.1.0, tt))))) in
      let lsda = pointer_named facts t faultless frame.pos covered_end (pieces_put t.number frame.pos five tables) frame.lsda ops (at_end t end + 17)
      covered_stands stand.1.1.1.1.1 lsda_place in
      let tells = entry_tells address (end_place t.number last) (end_place t.number common) at_start (place_in frame.section (stop_of frame)) (form_of frame) frame.lsda refl
      (op_pieces frame.section log frame.start frame.ops) (at_end t end) made.mades made.are_made behind reach (omega (arith, low)) rises rising.low in
      let three : Tables = piece_put t.number frame.pos (pointer at_start) two in
      let rest : List Piece = number (record { to = At (place_in frame.section (stop_of frame)); from = At at_start; plus = 0 })
      ∷ plain (size_if (encoding_if frame.lsda) ∷ []) ∷ with_pointer frame.lsda ops in
      let points = facts.file.pointers t two.symbols frame.pos (behind_plain 4 (behind_plain 4 end)) at_start
      (facts.labels.known tables.symbols two.symbols known (facts.labels.pieces t.number frame.pos front tables))
      (λ symbol at there. stays symbol at (facts.labels.stays three.symbols (pieces_put t.number frame.pos rest three).symbols symbol at
      (facts.labels.pieces t.number frame.pos rest three) there)) front_stands rising.stands.start start_low stand.1.1.0 in (
        made,
        record {
          entry = pieces_bytes pieces made.mades;
          common = at_end t common;
          cie = cie;
          stands = made.stands;
          whole = tells.whole;
          back = tells.back;
          start = subst (λ (offset : ℕ). IsSomeAnd (slice_get t.laid t.number) (λ section. PointsTo t.symbols t.laid t.number section offset at_start)) place points;
          lsda = lsda;
          rows = λ at. read address (at_end t end) (end_place t.number common) (end_place t.number last) log frame made.mades cie.pointer at entry cie.sized;
        },
        refl,
        refl,
      )
