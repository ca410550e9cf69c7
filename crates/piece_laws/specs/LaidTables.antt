-- A section of a layout into which tables were put, its places and its ends.
use Rattle.std.specs.Prelude.{◌≡◌, ℕ, ◌+◌, ◌^◌, ◌≤◌, false, List, length, All, Some, Ok, slice_get}
use Rattle.std.specs.Option.{option_map_or}
use Rattle.asm_base.specs.declared.places.Place.{Place}
use Rattle.asm_base.specs.declared.places.SectionPlace.{SectionPlace}
use Rattle.asm_base.specs.declared.positions.Pos.{Pos}
use Rattle.asm_symbols.specs.SymbolMap.{SymbolMap}
use Rattle.asm_frags.specs.Fields.{own_place}
use Rattle.asm_frags.specs.SectionOf.{SectionOf}
use Rattle.asm_frags.specs.Writing.{LooseSection, takes_zeros_alone}
use Rattle.section_laws.specs.Within.{IsWithin}
use Rattle.item_rows.specs.ItemRows.{rows_of, levels_of}
use Rattle.asm_relax.specs.ItemValues.{AreLow}
use Rattle.asm_relax.specs.Settling.{LaidItem, LaidSections, planned, layout_of}
use Rattle.elf_file.specs.Places.{PieceAt}
use Rattle.elf_object.specs.Image.{image_of}
use Rattle.elf_object.specs.Places.{section_offset, moved}
use Rattle.table_pieces.specs.declared.ends.SectionEnd.{SectionEnd}
use Rattle.table_pieces.specs.Ends.{behind_pieces, end_place}
use Rattle.table_pieces.specs.Found.{PlainAt, RunAt, PiecesStand}
use Rattle.table_pieces.specs.Pieces.{Piece, Tables, tables_of}
use Rattle.table_pieces.specs.Ready.{IsInSection, SymbolHolds}

-- the section has at most 2^30 bytes: its plain bytes, and those of its items
pub record IsSmall (section : SectionOf LaidItem) : Type 0 where
  pub size : moved section.items (length section.items) (length section.bytes) ≤ 2 ^ 30

-- no section of the layout is too large, and no item's row of the layout is moved by 2^64 or more
pub record IsLow (tables : Tables) (laid : LaidSections) : Type 0 where
  pub small : All IsSmall laid
  pub rows : AreLow tables.symbols (levels_of (rows_of tables.symbols (planned tables.symbols tables.sections))) (planned tables.symbols tables.sections)

-- where a place of a section stands in the layout, from the beginning of its section, in bytes
abbrev pub place_address : LaidSections → SectionPlace → ℕ
place_address laid at = option_map_or (λ section. moved section.items at.place.item at.place.offset) (slice_get laid at.section) 0

-- where an end of the section of this number stands in the layout
abbrev pub end_address : LaidSections → ℕ → SectionEnd → ℕ
end_address laid number end = place_address laid (end_place number end)

-- a section of the layout of these symbols and sections: fields and items stand within their sections, all symbols that have a place stand in one, and no
-- section is too large
pub record LaidTable : Type 0 where
  pub symbols : SymbolMap
  pub sections : List LooseSection
  pub laid : LaidSections
  pub number : ℕ
  pub held : LooseSection
  pub is : layout_of symbols sections ≡ Ok laid
  pub found : slice_get sections number ≡ Some held
  pub takes : takes_zeros_alone held ≡ false
  pub within : All IsWithin sections
  pub few : length symbols.symbols ≤ own_place
  pub stand : All (SymbolHolds sections) symbols.symbols
  pub low : IsLow (tables_of symbols sections) laid

-- the section has as many items and plain bytes as stand before this end
pub record StandsTo (held : LooseSection) (end : SectionEnd) : Type 0 where
  pub items : end.items ≤ length held.items
  pub bytes : end.bytes ≤ length held.bytes

-- a place of the section of this number
abbrev pub at_place : ℕ → Place → SectionPlace
at_place number place = record { section = number; place = place }

-- where no fewer items and bytes stand before a place than before another, it does not stand before that; with as many items before both, they are as far
-- apart as their plain bytes; and no place stands behind 2^30
pub record PlacesRise : Type 0 where
  pub rise : (laid : LaidSections) (number : ℕ) (first second : Place) → first.item ≤ second.item → first.offset ≤ second.offset
      → place_address laid (at_place number first) ≤ place_address laid (at_place number second)
  pub beside : (laid : LaidSections) (number : ℕ) (section : SectionOf LaidItem) (first second : Place) → slice_get laid number ≡ Some section
      → first.item ≡ second.item → place_address laid (at_place number second) + first.offset ≡ place_address laid (at_place number first) + second.offset
  pub there : (t : LaidTable) (number : ℕ) (place : Place) → IsInSection t.sections number place
      → (section : SectionOf LaidItem) × (slice_get t.laid number ≡ Some section)
  pub low : (t : LaidTable) (number : ℕ) (place : Place) → IsInSection t.sections number place → place_address t.laid (at_place number place) ≤ 2 ^ 30

-- the section stands to the end behind pieces that stand in it, and to no end behind 2^30; behind plain bytes, and fields, the end is as many bytes on;
-- plain bytes stand in the file; and where as many items and plain bytes stand before an end as the section has, that is its end in the layout
pub record EndsStand : Type 0 where
  pub pieces : (t : LaidTable) (tables : Tables) (pos : Pos) (end : SectionEnd) (pieces : List Piece) → StandsTo t.held end
      → PiecesStand t.held t.number pos end tables pieces → StandsTo t.held (behind_pieces pieces end)
  pub low : (t : LaidTable) (end : SectionEnd) → StandsTo t.held end → end_address t.laid t.number end ≤ 2 ^ 30
  pub run : (t : LaidTable) (pos : Pos) (end last : SectionEnd) (count : ℕ) → RunAt t.held pos end last.items → last.bytes ≡ end.bytes + count
      → end_address t.laid t.number last ≡ end_address t.laid t.number end + count
  pub items : (t : LaidTable) (pos : Pos) (end : SectionEnd) (count : ℕ) → end.items ≤ length t.held.items → RunAt t.held pos end count
      → count ≤ length t.held.items
  pub plain : (t : LaidTable) (count offset : ℕ) (bytes : List ℕ) → PlainAt t.held count offset bytes
      → PieceAt (image_of t.symbols t.laid) (section_offset t.symbols t.laid t.number + place_address t.laid (at_place t.number (record { item = count; offset = offset }))) bytes
  pub last : (t : LaidTable) (end : SectionEnd) → length t.held.items ≡ end.items → length t.held.bytes ≡ end.bytes
      → (section : SectionOf LaidItem) × (slice_get t.laid t.number ≡ Some section)
      × (moved section.items (length section.items) (length section.bytes) ≡ end_address t.laid t.number end)
