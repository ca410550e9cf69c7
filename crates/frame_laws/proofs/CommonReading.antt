-- The CIE of a procedure reads in the file.
use Rattle.std.proofs.Common.{◌≡◌, ℕ, ◌+◌, List, [], ◌∷◌, ◌++◌, length, Option, None, Some, refl, ap, ◌∙◌, subst, arith}
use Rattle.std.proofs.lemmas.List.{append-nil}
use Rattle.asm_base.specs.declared.places.SectionPlace.{SectionPlace}
use Rattle.asm_base.specs.declared.positions.Pos.{Pos}
use Rattle.elf_file.specs.Places.{PieceAt}
use Rattle.elf_object.specs.Faults.{object_fault}
use Rattle.elf_object.specs.Image.{image_of}
use Rattle.elf_object.specs.Places.{section_offset}
use Rattle.cfi_directives.specs.declared.frames.Frame.{Frame}
use Rattle.cfi_directives.specs.declared.frames.Pointer.{Pointer}
use Rattle.cfi_rows.specs.declared.commons.CommonForm.{CommonForm}
use Rattle.cfi_rows.specs.Commons.{common_entry, common_head, common_tail, common_length}
use Rattle.cfi_rows.specs.Pointers.{size_if}
use Rattle.table_pieces.specs.declared.ends.SectionEnd.{SectionEnd}
use Rattle.table_pieces.specs.Ends.{behind_plain, behind_pieces}
use Rattle.table_pieces.specs.Found.{PiecesStand}
use Rattle.table_pieces.specs.Labels.{PlacesAreLabels}
use Rattle.table_pieces.specs.Made.{Made, pieces_bytes, AreMade}
use Rattle.table_pieces.specs.Pieces.{Piece, plain, Tables, pieces_put}
use Rattle.eh_frame.specs.Commons.{encoding_if, form_of, pointer_field, pointer_form, with_pointer, head_piece, rest_pieces, common_pieces}
use Rattle.piece_laws.specs.HeldDistances.{NamesStay}
use Rattle.piece_laws.specs.LaidTables.{place_address, LaidTable, StandsTo}
use Rattle.piece_laws.specs.PiecesInFile.{AllFit}
use Rattle.frame_laws.specs.TableReads.{Names, CommonReads}
use Rattle.frame_laws.proofs.PieceFacts.{PieceFacts, at_end}
use Rattle.frame_laws.proofs.SplitPointers.{split_pointer}

-- what is known of CIEs
pub record CommonFacts : Type 0 where
  pub whole : (form : CommonForm) (pointer : List ℕ) → length pointer ≡ size_if form.personality → length (common_entry form pointer) ≡ 4 + common_length form

-- what layout makes of the rest of a CIE: the pointer, and what stands behind it
rest_bytes : (address : SectionPlace → ℕ) (here : ℕ) (frame : Frame) (mades : List Made) → AreMade address here (rest_pieces frame) mades
    → (pointer : List ℕ) × (length pointer ≡ size_if (encoding_if frame.personality)) × (pieces_bytes (rest_pieces frame) mades ≡ pointer ++ common_tail (form_of frame))
rest_bytes address here frame mades made =
    let split = split_pointer address here frame.personality (plain (common_tail (form_of frame)) ∷ []) mades made in
    (split.bytes, split.sized, split.all ∙ ap (λ rest. split.bytes ++ rest) (tail_bytes split.place split.later split.made))
  where
    tail_bytes : (place : ℕ) (later : List Made) → AreMade address place (plain (common_tail (form_of frame)) ∷ []) later
        → pieces_bytes (plain (common_tail (form_of frame)) ∷ []) later ≡ common_tail (form_of frame)
    tail_bytes place [] are = absurd are
    tail_bytes place (one ∷ []) are = append-nil (common_tail (form_of frame))
    tail_bytes place (one ∷ more ∷ later) are = absurd are.1

all_bytes : (address : SectionPlace → ℕ) (here : ℕ) (frame : Frame) (mades : List Made) → AreMade address here (common_pieces frame) mades
    → (pointer : List ℕ) × (length pointer ≡ size_if (encoding_if frame.personality)) × (pieces_bytes (common_pieces frame) mades ≡ common_entry (form_of frame) pointer)
all_bytes address here frame [] made = absurd made
all_bytes address here frame (head ∷ mades) made =
    let rest = rest_bytes address _ frame mades made.1 in
    (rest.0, rest.1, ap (λ bytes. common_head (form_of frame) ++ bytes) rest.2)

module _ (facts : PieceFacts) (t : LaidTable) (faultless : object_fault t.symbols t.laid ≡ None) where
  -- a pointer that stands behind an end is held there
  pub pointer_named : (pos : Pos) (end : SectionEnd) (tables : Tables) (pointer : Option Pointer) (pieces : List Piece) (offset : ℕ) → StandsTo t.held end
      → PiecesStand t.held t.number pos end tables (with_pointer pointer pieces) → at_end t end ≡ offset → Names t.symbols t.laid t.number offset pointer
  pointer_named pos end tables None pieces offset stands stand place = tt
  pointer_named pos end tables (Some pointer) pieces offset stands stand place =
      subst (λ (at : ℕ). Names t.symbols t.laid t.number at (Some pointer)) place
      (facts.file.forms t (pointer_field pointer.encoding) pos end (pointer_form pointer) faultless stands stand.0)

  -- all pieces of a CIE are as they are to be
  pub pointer_fits : (pointer : Option Pointer) (pieces : List Piece) → AllFit t.sections t.laid t.number pieces → AllFit t.sections t.laid t.number (with_pointer pointer pieces)
  pointer_fits None pieces fit = fit
  pointer_fits (Some pointer) pieces fit = (tt, fit)

  -- the CIE of a procedure that stands behind an end reads in the file, and how far the end moves behind it
  pub common_reads : CommonFacts → (frame : Frame) (end : SectionEnd) (tables : Tables) → StandsTo t.held end → PlacesAreLabels tables.symbols
      → NamesStay (pieces_put t.number frame.pos (common_pieces frame) tables).symbols t.symbols → PiecesStand t.held t.number frame.pos end tables (common_pieces frame)
      → CommonReads (image_of t.symbols t.laid) t.symbols t.laid t.number (at_end t end) frame
      × (at_end t (behind_pieces (common_pieces frame) end) ≡ at_end t end + (4 + common_length (form_of frame)))
  common_reads commons frame end tables stands known stays stand =
      let head : List ℕ = common_head (form_of frame) in
      let tail : List Piece = plain (common_tail (form_of frame)) ∷ [] in
      let made = facts.file.pieces t tables frame.pos end (head_piece frame) (rest_pieces frame) stands known stays (tt, pointer_fits frame.personality tail (tt, tt)) stand in
      let bytes = all_bytes (place_address t.laid) (at_end t end) frame made.mades made.are_made in
      let reach = made.reach in
      let long = ap length bytes.2 ∙ commons.whole (form_of frame) bytes.0 bytes.1 in
      let behind : SectionEnd = behind_plain (length head) end in
      let place = facts.file.ends.run t frame.pos end behind (length head) stand.0.0 refl in
      let behind_stands = facts.file.ends.pieces t tables frame.pos end (head_piece frame ∷ []) stands (stand.0, tt) in (
        record {
          pointer = bytes.0;
          sized = bytes.1;
          stands = subst (PieceAt (image_of t.symbols t.laid) (section_offset t.symbols t.laid t.number + at_end t end)) bytes.2 made.stands;
          names_it = pointer_named frame.pos behind (pieces_put t.number frame.pos (head_piece frame ∷ []) tables) frame.personality tail (at_end t end + length head)
              behind_stands stand.1 place;
        },
        omega (arith, reach, long),
      )
