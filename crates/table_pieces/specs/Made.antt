-- What layout makes of pieces, and their bytes.
use Rattle.std.specs.Prelude.{◌≡◌, ℕ, ◌+◌, ◌*◌, ◌^◌, ◌<◌, ◌≤◌, false, List, [], ◌∷◌, ◌++◌, length}
use Rattle.asm_base.specs.declared.places.SectionPlace.{SectionPlace}
use Rattle.asm_expr.specs.Forms.{wrapped}
use Rattle.asm_frags.specs.declared.fields.FieldSize.TheVariants.{Four, Eight}
use Rattle.asm_frags.specs.Fields.{low_bytes}
use Rattle.item_bytes.specs.Levels.{AdvanceHolds, advance_size}
use Rattle.item_contents.specs.declared.kinds.Growth.TheVariants as growth
use Rattle.item_contents.specs.declared.kinds.Padding.TheVariants.{Byte}
use Rattle.item_contents.specs.Contents.{grown_bytes, padding_bytes}
use Rattle.table_pieces.specs.declared.marks.Distance.{Distance}
use Rattle.table_pieces.specs.declared.marks.Mark.{Mark}
use Rattle.table_pieces.specs.declared.marks.Mark.TheVariants.{Here, At}
use Rattle.table_pieces.specs.Pieces as put
use Rattle.table_pieces.specs.Pieces.{Piece}

-- what layout makes of a piece: how many bytes an advance, a number in groups of 7 bits or a padding has, and the number that a piece holds
pub record Made : Type 0 where
  pub size : ℕ
  pub value : ℕ

-- the bytes of a piece
abbrev pub piece_bytes : Piece → Made → List ℕ
piece_bytes (put.plain bytes) made = bytes
piece_bytes (put.number distance) made = low_bytes Four made.value
piece_bytes (put.pointer place) made = low_bytes Four made.value
piece_bytes (put.address place) made = low_bytes Eight made.value
piece_bytes (put.field size form) made = low_bytes size made.value
piece_bytes (put.advance distance) made = grown_bytes growth.Advance made.size made.value
piece_bytes (put.leb128 distance) made = grown_bytes (growth.Leb128 false) made.size made.value
piece_bytes (put.padding log) made = padding_bytes (Byte 0) made.size

-- the bytes of pieces, one behind the other
abbrev pub pieces_bytes : List Piece → List Made → List ℕ
pieces_bytes (piece ∷ pieces) (made ∷ mades) = piece_bytes piece made ++ pieces_bytes pieces mades
pieces_bytes _ _ = []

module _ (address : SectionPlace → ℕ) where
  -- where a mark stands, of a field at this address
  abbrev pub mark_address : ℕ → Mark → ℕ
  mark_address here Here = here
  mark_address here (At at) = address at

  -- the value is the distance, modulo 2 ^ 64
  pub record IsSpan (here : ℕ) (distance : Distance) (value : ℕ) : Type 0 where
    pub within : value < 2 ^ 64
    pub spans : wrapped (value + mark_address here distance.from) ≡ wrapped (mark_address here distance.to + distance.plus)

  -- an advance has the size of a level that holds its distance
  pub record IsAdvance (here : ℕ) (distance : Distance) (made : Made) : Type 0 where
    pub span : IsSpan here distance made.value
    pub level : ℕ
    pub within : level ≤ 4
    pub size : made.size ≡ advance_size level
    pub holds : AdvanceHolds level made.value

  -- a number in groups of 7 bits has as many of them as hold its distance (DWARF 5, section 7.6)
  pub record IsLeb128 (here : ℕ) (distance : Distance) (made : Made) : Type 0 where
    pub span : IsSpan here distance made.value
    pub level : ℕ
    pub within : level ≤ 9
    pub size : made.size ≡ level + 1
    pub holds : made.value < 2 ^ (7 * (level + 1))

  -- what a piece may be made at this address: a pointer and an address are the linker's, an address is 0 before, what a form comes to may be any number, and a
  -- padding may have any size
  abbrev pub IsMade : ℕ → Piece → Made → Type 0
  IsMade here (put.plain bytes) made = Unit {0}
  IsMade here (put.number distance) made = IsSpan here distance made.value
  IsMade here (put.pointer place) made = made.value < 2 ^ 32
  IsMade here (put.address place) made = made.value ≡ 0
  IsMade here (put.field size form) made = Unit {0}
  IsMade here (put.advance distance) made = IsAdvance here distance made
  IsMade here (put.leb128 distance) made = IsLeb128 here distance made
  IsMade here (put.padding log) made = Unit {0}

  -- the same of pieces, one behind the other from this address on
  abbrev pub AreMade : ℕ → List Piece → List Made → Type 0
  AreMade here [] [] = Unit {0}
  AreMade here [] (made ∷ mades) = ⊥
  AreMade here (piece ∷ pieces) [] = ⊥
  AreMade here (piece ∷ pieces) (made ∷ mades) = IsMade here piece made × AreMade (here + length (piece_bytes piece made)) pieces mades
