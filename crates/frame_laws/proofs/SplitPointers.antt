-- The bytes of a pointer, before those of other pieces.
use Rattle.std.proofs.Common.{◌≡◌, ℕ, ◌+◌, Bool, true, false, List, [], ◌∷◌, ◌++◌, length, Option, None, Some, refl}
use Rattle.std.specs.Prelude.{if◌then◌else◌}
use Rattle.asm_base.specs.declared.places.SectionPlace.{SectionPlace}
use Rattle.asm_frags.specs.declared.fields.FieldSize.TheVariants.{Four, Eight}
use Rattle.asm_frags.specs.Fields.{low_bytes}
use Rattle.cfi_directives.specs.declared.frames.Pointer.{Pointer}
use Rattle.cfi_rows.specs.Pointers.{is_wide, size_if}
use Rattle.table_pieces.specs.Made.{Made, pieces_bytes, AreMade}
use Rattle.table_pieces.specs.Pieces.{Piece}
use Rattle.eh_frame.specs.Commons.{encoding_if, pointer_field, with_pointer}

-- a pointer has as many bytes as its encoding says
field_long : (wide : Bool) (value : ℕ) → length (low_bytes (if wide then Eight else Four) value) ≡ (if wide then 8 else 4)
unfolding low_bytes
field_long true value = refl
field_long false value = refl

-- the bytes of a pointer, where there is one, and what is made of the pieces behind it
pub record SplitPointer (address : SectionPlace → ℕ) (pointer : Option Pointer) (pieces : List Piece) (mades : List Made) : Type 0 where
  pub bytes : List ℕ
  pub sized : length bytes ≡ size_if (encoding_if pointer)
  pub later : List Made
  pub all : pieces_bytes (with_pointer pointer pieces) mades ≡ bytes ++ pieces_bytes pieces later
  pub place : ℕ
  pub made : AreMade address place pieces later

pub split_pointer : (address : SectionPlace → ℕ) (here : ℕ) (pointer : Option Pointer) (pieces : List Piece) (mades : List Made)
    → AreMade address here (with_pointer pointer pieces) mades → SplitPointer address pointer pieces mades
split_pointer address here None pieces mades made = record { bytes = []; sized = refl; later = mades; all = refl; place = here; made = made }
split_pointer address here (Some pointer) pieces [] made = absurd made
split_pointer address here (Some pointer) pieces (one ∷ mades) made = record {
  bytes = low_bytes (pointer_field pointer.encoding) one.value;
  sized = field_long (is_wide pointer.encoding) one.value;
  later = mades;
  all = refl;
  place = here + length (low_bytes (pointer_field pointer.encoding) one.value);
  made = made.1;
}
