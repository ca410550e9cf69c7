-- The FDEs (frame description entries) of a table as pieces (psABI for AMD64, section 4.2.4; DWARF 5, section 6.4).
use Rattle.std.specs.Prelude.{ℕ, ◌-◌, ◌^◌, ◌==◌, Bool, true, false, List, [], ◌∷◌}
use Rattle.std.specs.Option.{unwrap_or}
use Rattle.item_bytes.specs.Levels.{advance_level}
use Rattle.cfi_directives.specs.declared.frames.Frame.{Frame}
use Rattle.cfi_directives.specs.declared.frames.PlacedOp.{PlacedOp}
use Rattle.asm_base.specs.declared.places.Place.{Place}
use Rattle.asm_base.specs.declared.places.SectionPlace.{SectionPlace}
use Rattle.cfi_directives.specs.Meant.{place_in, stop_of}
use Rattle.cfi_rows.specs.declared.rows.CfiOp.{CfiOp}
use Rattle.cfi_rows.specs.Pointers.{size_if}
use Rattle.cfi_entries.specs.Written.{written}
use Rattle.item_bytes.specs.Advances.{advance_bytes}
use Rattle.table_pieces.specs.declared.ends.SectionEnd.{SectionEnd}
use Rattle.table_pieces.specs.declared.marks.Mark.TheVariants.{Here, At}
use Rattle.table_pieces.specs.Ends.{behind_plain, behind_pieces, end_place}
use Rattle.table_pieces.specs.Pieces.{Piece, plain, number, pointer, advance, padding}
use Rattle.eh_frame.specs.Commons.{encoding_if, with_pointer}

-- the bytes of an instruction
abbrev pub op_code : CfiOp → List ℕ
op_code op = unwrap_or (written op) []

-- the bytes of the advance by a distance that is known, as few as hold it: none for 0
abbrev pub known_advance : ℕ → List ℕ
known_advance distance = advance_bytes (advance_level distance) distance

-- the advance from one place to another: its bytes, where no item stands between the places, or what layout settles
abbrev pub advance_piece : Bool → ℕ → Place → Place → Piece
advance_piece true section last place = plain (known_advance (place.offset - last.offset))
advance_piece false section last place = advance (record { to = At (place_in section place); from = At (place_in section last); plus = 0 })

-- an instruction before other pieces, behind the advance from the last place
abbrev pub with_op : ℕ → Place → PlacedOp → List Piece → List Piece
with_op section last placed pieces =
    advance_piece (last.item == placed.place.item) section last placed.place ∷ plain (op_code placed.op) ∷ pieces

-- the instructions of a procedure from a place on, and zeros, which are nops, up to the next multiple of 2 ^ log
abbrev pub op_pieces : ℕ → ℕ → Place → List PlacedOp → List Piece
op_pieces section log last [] = padding log ∷ []
op_pieces section log last (placed ∷ ops) = with_op section last placed (op_pieces section log placed.place ops)

-- what the length of an FDE counts: the distance back to the CIE, the start, the range, the length of the augmentation data, which is the pointer
-- to the LSDA where there is one, the instructions and the padding
abbrev pub counted_pieces : SectionPlace → ℕ → Frame → List Piece
counted_pieces common log frame =
    number (record { to = Here; from = At common; plus = 0 })
    ∷ pointer (place_in frame.section frame.start)
    ∷ number (record { to = At (place_in frame.section (stop_of frame)); from = At (place_in frame.section frame.start); plus = 0 })
    ∷ plain (size_if (encoding_if frame.lsda) ∷ [])
    ∷ with_pointer frame.lsda (op_pieces frame.section log frame.start frame.ops)

-- the length: from behind its own four bytes to the end
abbrev pub length_piece : SectionPlace → Piece
length_piece end = number (record { to = At end; from = Here; plus = 2 ^ 64 - 4 })

-- an FDE behind this end of the section of this number
abbrev pub entry_pieces : ℕ → SectionEnd → SectionPlace → ℕ → Frame → List Piece
entry_pieces section end common log frame =
    length_piece (end_place section (behind_pieces (counted_pieces common log frame) (behind_plain 4 end))) ∷ counted_pieces common log frame
