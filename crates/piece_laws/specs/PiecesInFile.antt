-- Pieces as the layout makes them, and where their bytes stand in the file.
use Rattle.std.specs.Prelude.{◌≡◌, ℕ, ◌+◌, ◌^◌, ◌<◌, ◌≤◌, List, [], ◌∷◌, length}
use Rattle.asm_base.specs.declared.places.SectionPlace.{SectionPlace}
use Rattle.asm_base.specs.declared.positions.Pos.{Pos}
use Rattle.asm_frags.specs.Writing.{LooseSection}
use Rattle.asm_symbols.specs.SymbolMap.{SymbolMap}
use Rattle.asm_relax.specs.Settling.{LaidSections}
use Rattle.elf_file.specs.Places.{PieceAt}
use Rattle.elf_object.specs.Image.{image_of}
use Rattle.elf_object.specs.Places.{section_offset}
use Rattle.table_pieces.specs.declared.ends.SectionEnd.{SectionEnd}
use Rattle.table_pieces.specs.declared.marks.Distance.{Distance}
use Rattle.table_pieces.specs.declared.marks.Mark.TheVariants.{At}
use Rattle.table_pieces.specs.Ends.{behind_pieces}
use Rattle.table_pieces.specs.Found.{PiecesStand}
use Rattle.table_pieces.specs.Labels.{PlacesAreLabels}
use Rattle.table_pieces.specs.Made.{Made, pieces_bytes, AreMade}
use Rattle.table_pieces.specs.Pieces as put
use Rattle.table_pieces.specs.Pieces.{Piece, Tables, pieces_put}
use Rattle.table_pieces.specs.StandingPlaces.{HoldsItems, MarkStands}
use Rattle.piece_laws.specs.HeldDistances.{mark_section, NamesStay}
use Rattle.piece_laws.specs.LaidTables.{place_address, end_address, LaidTable, StandsTo, EndsStand}
use Rattle.piece_laws.specs.Pointers.{PointersPoint, AddressesAreHeld, FormsAreHeld}

module _ (sections : List LooseSection) (laid : LaidSections) (number : ℕ) where
  -- both marks stand in one section
  pub record IsNear (distance : Distance) : Type 0 where
    pub one : mark_section number distance.to ≡ mark_section number distance.from
    pub plus : distance.plus < 2 ^ 64
    pub to : MarkStands sections distance.to
    pub from : MarkStands sections distance.from

  -- from the one place to the other, which does not stand before it
  pub record IsForward (distance : Distance) : Type 0 where
    pub to : SectionPlace
    pub from : SectionPlace
    pub is_it : distance ≡ record { to = At to; from = At from; plus = 0 }
    pub section : to.section ≡ from.section
    pub to_stands : HoldsItems sections to.section to.place.item
    pub from_stands : HoldsItems sections from.section from.place.item
    pub rises : place_address laid from ≤ place_address laid to
    pub low : place_address laid to < 2 ^ 32

  -- what is asked of a piece: what its bytes hold is known in the layout, or its place stands in a section
  abbrev pub Fits : Piece → Type 0
  Fits (put.plain bytes) = Unit {0}
  Fits (put.number distance) = IsNear distance
  Fits (put.pointer place) = Unit {0}
  Fits (put.address place) = Unit {0}
  Fits (put.field size form) = Unit {0}
  Fits (put.advance distance) = IsForward distance
  Fits (put.leb128 distance) = IsForward distance
  Fits (put.padding log) = Unit {0}

  -- what is asked of all pieces
  abbrev pub AllFit : List Piece → Type 0
  AllFit [] = Unit {0}
  AllFit (piece ∷ pieces) = Fits piece × AllFit pieces

-- what the layout makes of pieces behind an end of the section of this number, where they stand in the file, and where they end
pub record AreInFile (symbols : SymbolMap) (laid : LaidSections) (number : ℕ) (pieces : List Piece) (end : SectionEnd) : Type 0 where
  pub mades : List Made
  pub are_made : AreMade (place_address laid) (end_address laid number end) pieces mades
  pub stands : PieceAt (image_of symbols laid) (section_offset symbols laid number + end_address laid number end) (pieces_bytes pieces mades)
  pub reach : end_address laid number (behind_pieces pieces end) ≡ end_address laid number end + length (pieces_bytes pieces mades)

-- pieces that are put into the section of a layout are made so
abbrev pub PiecesAreInFile : Type 0
PiecesAreInFile = (t : LaidTable) (tables : Tables) (pos : Pos) (end : SectionEnd) (piece : Piece) (pieces : List Piece) → StandsTo t.held end
    → PlacesAreLabels tables.symbols → NamesStay (pieces_put t.number pos (piece ∷ pieces) tables).symbols t.symbols
    → AllFit t.sections t.laid t.number (piece ∷ pieces) → PiecesStand t.held t.number pos end tables (piece ∷ pieces)
    → AreInFile t.symbols t.laid t.number (piece ∷ pieces) end

-- so tables are in the file: their pieces, the ends of these, and the fields that the linker fills
pub record TablesAreInFile : Type 0 where
  pub ends : EndsStand
  pub pieces : PiecesAreInFile
  pub pointers : PointersPoint
  pub addresses : AddressesAreHeld
  pub forms : FormsAreHeld
