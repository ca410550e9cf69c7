-- Where the bytes of sections, of their fields and of their items stand in the file.
use Rattle.std.specs.Prelude.{◌≡◌, ℕ, ◌+◌, ◌-◌, ◌^◌, ◌<◌, ◌≤◌, ◌==◌, false, List, All, length, take, drop, Some, slice_get, slice_index_or, slice_range}
use Rattle.asm_frags.specs.declared.fields.Field.{Field}
use Rattle.asm_frags.specs.PlainBytes.{field_end, IsBeside, FieldsStand}
use Rattle.asm_frags.specs.SectionOf.{SectionOf}
use Rattle.asm_symbols.specs.SymbolMap.{SymbolMap}
use Rattle.asm_relax.specs.Final.{address_in}
use Rattle.asm_relax.specs.Layout.{AreSized}
use Rattle.asm_relax.specs.Placing.{placed_section, shift_of}
use Rattle.asm_relax.specs.Settling.{LaidItem, LaidSections}
use Rattle.elf_file.specs.Sections.{no_bits}
use Rattle.elf_object.specs.Contents.{field_bytes, item_bytes, relocations_of}
use Rattle.elf_object.specs.Sections.{header_indices}
use Rattle.elf_file.specs.Image.{header_end}
use Rattle.elf_file.specs.Places.{PieceAt, body_offset}
use Rattle.elf_object.specs.Image.{file_sections, image_of}

-- where the body of the section of this number stands in the file; the header at index 0 is that of no section
unfoldable pub section_offset : SymbolMap → LaidSections → ℕ → ℕ
section_offset symbols sections number =
    body_offset header_end (file_sections symbols sections (relocations_of symbols sections)) (slice_index_or (header_indices sections (relocations_of symbols sections)) number 0 - 1)

-- where the plain byte at this offset stands in its section: so many items before it move it by their sizes
abbrev pub moved : List LaidItem → ℕ → ℕ → ℕ
moved items count offset = offset + shift_of count 0 items

-- so many items stand before these plain bytes, from the one offset to the other, and the other items behind them
pub record IsBetween (items : List LaidItem) (count from to : ℕ) : Type 0 where
  pub before : All (λ item. item.offset ≤ from) (take count items)
  pub behind : All (λ item. to ≤ item.offset) (drop count items)

-- the section of this number takes bytes in the file, and is laid out: its items stand one behind the other, and each item has a size that it may have
pub record IsFiled (sections : LaidSections) (number : ℕ) (section : SectionOf LaidItem) : Type 0 where
  pub found : slice_get sections number ≡ Some section
  pub takes_bytes : (section.kind == no_bits) ≡ false
  pub laid : placed_section section ≡ section
  pub sized : AreSized section.items

-- plain bytes beside all fields, and between items, stand in the object as they were written, moved by the items before them
abbrev pub BytesStand : Type 0
BytesStand = (symbols : SymbolMap) (sections : LaidSections) (number count offset : ℕ) (section : SectionOf LaidItem) (bytes : List ℕ)
    → IsFiled sections number section → offset ≤ length section.bytes → slice_range section.bytes offset (offset + length bytes) ≡ bytes
    → All (IsBeside offset (offset + length bytes)) section.fields → IsBetween section.items count offset (offset + length bytes)
    → PieceAt (image_of symbols sections) (section_offset symbols sections number + moved section.items count offset) bytes

-- the value of a field over plain bytes stands in the object at its place
abbrev pub ValuesStand : Type 0
ValuesStand = (symbols : SymbolMap) (sections : LaidSections) (number index : ℕ) (section : SectionOf LaidItem) (field : Field)
    → IsFiled sections number section → FieldsStand section.bytes 0 section.fields → slice_get section.fields index ≡ Some field
    → IsBetween section.items field.item field.offset (field_end field)
    → PieceAt (image_of symbols sections) (section_offset symbols sections number + moved section.items field.item field.offset) (field_bytes symbols sections field)

-- the bytes of an item stand in the object at its address, behind the plain bytes before it
abbrev pub ItemsStand : Type 0
ItemsStand = (symbols : SymbolMap) (sections : LaidSections) (number index : ℕ) (section : SectionOf LaidItem) (item : LaidItem)
    → IsFiled sections number section → slice_get section.items index ≡ Some item → item.offset ≤ length section.bytes
    → All (λ other. other.offset ≤ item.offset) (take index section.items)
    → PieceAt (image_of symbols sections) (section_offset symbols sections number + item.address) (item_bytes symbols sections section item.content item.size)

-- the place of a plain byte behind so many items is its address, the one that labels and relocations have, where addresses do not wrap
abbrev pub PlacesAreAddresses : Type 0
PlacesAreAddresses = (section : SectionOf LaidItem) (count offset : ℕ) → placed_section section ≡ section → count ≤ length section.items
    → All (λ item. item.offset ≤ offset) (take count section.items) → moved section.items count offset < 2 ^ 64
    → address_in section.items count offset ≡ moved section.items count offset
