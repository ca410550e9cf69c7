-- How the bytes of an entry read, whatever layout makes of its pieces.
use Rattle.std.specs.Prelude.{◌≡◌, ℕ, ◌+◌, ◌^◌, ◌<◌, ◌≤◌, List, [], ◌∷◌, length, IsSome}
use Rattle.cfi_directives.specs.declared.frames.Frame.{Frame}
use Rattle.cfi_directives.specs.declared.frames.PlacedOp.{PlacedOp}
use Rattle.asm_base.specs.declared.places.Place.{Place}
use Rattle.asm_base.specs.declared.places.SectionPlace.{SectionPlace}
use Rattle.cfi_directives.specs.Meant.{from_start, row_meant, stands_at, stop_of}
use Rattle.cfi_directives.specs.Sound.{IsWhole}
use Rattle.cfi_rows.specs.Commons.{common_entry}
use Rattle.cfi_entries.specs.Entries.{row_of}
use Rattle.cfi_rows.specs.Pointers.{size_if}
use Rattle.table_pieces.specs.Made.{Made, pieces_bytes, AreMade}
use Rattle.eh_frame.specs.Commons.{encoding_if, form_of}
use Rattle.eh_frame.specs.Entries.{counted_pieces, length_piece}

module _ (address : SectionPlace → ℕ) where
  -- the second place does not stand before the first; where no item stands between them, they are as far apart as the plain bytes between them
  pub record Follows (section : ℕ) (first second : Place) : Type 0 where
    pub rises : stands_at address section first ≤ stands_at address section second
    pub beside : first.item ≡ second.item → stands_at address section second + first.offset ≡ stands_at address section first + second.offset

  -- each place of an instruction follows the one before it, from a place on, and the last one does not stand behind the end
  abbrev pub Rise : ℕ → Place → List PlacedOp → Place → Type 0
  Rise section last [] stop = stands_at address section last ≤ stands_at address section stop
  Rise section last (placed ∷ ops) stop = Follows section last placed.place × Rise section placed.place ops stop

  -- the FDE of a procedure as it is made at this address, behind the CIE, in a section of fewer than 0xfffffff0 bytes
  pub record IsEntry (here : ℕ) (common end : SectionPlace) (log : ℕ) (frame : Frame) (mades : List Made) : Type 0 where
    pub whole : IsWhole frame
    pub rise : Rise frame.section frame.start frame.ops (stop_of frame)
    pub low : stands_at address frame.section (stop_of frame) < 2 ^ 32
    pub made : AreMade address here (length_piece end ∷ counted_pieces common log frame) mades
    pub behind : address common ≤ here
    pub ends : address end ≡ here + length (pieces_bytes (length_piece end ∷ counted_pieces common log frame) mades)
    pub short : here + length (pieces_bytes (length_piece end ∷ counted_pieces common log frame) mades) < 0xfffffff0

-- wherever places stand, and whatever sizes layout gives to the advances and the padding, if each advance holds its distance: the bytes of the common
-- entry, with any pointer to the personality, and of an entry read at each place as the row that the directives of its procedure mean there
abbrev pub EntriesRead : Type 0
EntriesRead = (address : SectionPlace → ℕ) (here : ℕ) (common end : SectionPlace) (log : ℕ) (frame : Frame) (mades : List Made) (pointer : List ℕ) (at : ℕ)
    → IsEntry address here common end log frame mades → length pointer ≡ size_if (encoding_if frame.personality)
    → row_of (common_entry (form_of frame) pointer) (pieces_bytes (length_piece end ∷ counted_pieces common log frame) mades) at ≡ row_meant address frame at

-- the directives of a whole procedure mean a row at each place of it
abbrev pub RowsAreMeant : Type 0
RowsAreMeant = (address : SectionPlace → ℕ) (frame : Frame) (at : ℕ) → IsWhole frame → at < from_start address frame (stop_of frame)
    → IsSome (row_meant address frame at)
