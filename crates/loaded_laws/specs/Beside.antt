-- Bytes of a layout beside its fields, and beside its relocations.
use Rattle.std.specs.Prelude.{◌≡◌, ◌+◌, ◌-◌, ◌<◌, ◌≤◌, ◌^◌, ◌⊎◌, ℕ, true, false, List, All, None, Some, Ok, slice_get}
use Rattle.std.specs.Option.{option_map_or}
use Rattle.asm_frags.specs.declared.fields.Field.{Field}
use Rattle.asm_frags.specs.Fields.{width}
use Rattle.asm_frags.specs.PlainBytes.{field_end, IsBeside}
use Rattle.asm_frags.specs.SectionOf.{SectionOf}
use Rattle.asm_frags.specs.Writing.{LooseSection}
use Rattle.asm_symbols.specs.SymbolMap.{SymbolMap}
use Rattle.section_laws.specs.Within.{AreBetween, CountsItems, IsWithin}
use Rattle.asm_relax.specs.FieldValues.{held_value}
use Rattle.asm_relax.specs.Placing.{placed_section}
use Rattle.asm_relax.specs.Settling.{LaidItem, LaidSections, LooseSections, layout_of}
use Rattle.elf_object.specs.Contents.{section_relocations}
use Rattle.elf_object.specs.Places.{moved}
use Rattle.elf_object.specs.Relocations.{field_place, field_relocation}
use Rattle.loaded_laws.specs.Loaded.{IsBesideRelocation}

-- the byte at this place of the section is none of the field's
abbrev pub IsBesideField : SectionOf LaidItem → ℕ → Field → Type 0
IsBesideField section place field =
    (place < field_place section field) ⊎ (field_place section field + width field.size ≤ place)

-- the field has no relocation, or the byte is none of its own
abbrev pub IsLeftAlone : SymbolMap → LaidSections → ℕ → SectionOf LaidItem → ℕ → Field → Type 0
IsLeftAlone map sections number section place field =
    (field_relocation map sections number section field ≡ None) ⊎ IsBesideField section place field

-- a byte that all fields of a section leave alone is beside all relocations of the section
abbrev pub RelocationsBeside : Type 0
RelocationsBeside = (map : SymbolMap) (sections : LaidSections) (number place : ℕ)
    (section : SectionOf LaidItem)
    → All (IsLeftAlone map sections number section place) section.fields
    → All (IsBesideRelocation place) (section_relocations map sections number section)

-- a field with a value has no relocation
abbrev pub ValuesAreAlone : Type 0
ValuesAreAlone = (map : SymbolMap) (sections : LaidSections) (number value : ℕ)
    (section : SectionOf LaidItem) (field : Field)
    → held_value map sections field ≡ Some value
    → field_relocation map sections number section field ≡ None

-- how many bytes the last of so many items has
abbrev pub size_before : List LaidItem → ℕ → ℕ
size_before items count =
    option_map_or (λ (item : LaidItem). item.size) (slice_get items (count - 1)) 0

-- in a section that is laid out, a plain byte before or after a field over plain bytes is beside it;
-- and each plain byte is beside a field that stands in the last bytes of an item
pub record FieldsStandBeside : Type 0 where
  pub plain : (section : SectionOf LaidItem) (field : Field) (item offset : ℕ)
      → placed_section section ≡ section → CountsItems section.fields section.items field
      → moved section.items field.item field.offset < 2 ^ 64 → field.in_item ≡ false
      → AreBetween section.items item offset (offset + 1)
      → (offset < field.offset) ⊎ (field_end field ≤ offset)
      → IsBesideField section (moved section.items item offset) field
  pub inside : (section : SectionOf LaidItem) (field : Field) (item offset : ℕ)
      → placed_section section ≡ section → CountsItems section.fields section.items field
      → moved section.items field.item field.offset < 2 ^ 64 → field.in_item ≡ true
      → width field.size ≤ size_before section.items field.item
      → AreBetween section.items item offset (offset + 1)
      → IsBesideField section (moved section.items item offset) field

-- an item that holds a field with a relocation has the bytes of the field
abbrev pub HoldsRelocated : SymbolMap → LaidSections → ℕ → SectionOf LaidItem → Field → Type 0
HoldsRelocated map sections number section field = field.in_item ≡ true
    → (field_relocation map sections number section field ≡ None)
    ⊎ (width field.size ≤ size_before section.items field.item)

-- fields count the items of a section in each layout of it as they did before, and their places are
-- numbers below 2^64
pub record LayoutsKeepCounts : Type 0 where
  pub counted : (symbols : SymbolMap) (sections : LooseSections) (laid : LaidSections) (number : ℕ)
      → (section : LooseSection) (kept : SectionOf LaidItem)
      → layout_of symbols sections ≡ Ok laid → slice_get sections number ≡ Some section
      → slice_get laid number ≡ Some kept → IsWithin section
      → All (CountsItems kept.fields kept.items) kept.fields
  pub low : (symbols : SymbolMap) (sections : LooseSections) (laid : LaidSections) (number : ℕ)
      → (section : LooseSection) (kept : SectionOf LaidItem)
      → layout_of symbols sections ≡ Ok laid → slice_get sections number ≡ Some section
      → slice_get laid number ≡ Some kept → IsWithin section
      → All (λ field. moved kept.items field.item field.offset < 2 ^ 64) kept.fields

-- wherever a layout puts a plain byte that is beside all fields of its section, it is beside all
-- relocations of the section there
abbrev pub BytesStandBeside : Type 0
BytesStandBeside = (symbols : SymbolMap) (sections : LooseSections) (laid : LaidSections)
    (number item offset : ℕ) (section : LooseSection) (kept : SectionOf LaidItem)
    → layout_of symbols sections ≡ Ok laid → slice_get sections number ≡ Some section
    → slice_get laid number ≡ Some kept → IsWithin section
    → AreBetween section.items item offset (offset + 1)
    → All (IsBeside offset (offset + 1)) section.fields
    → All (HoldsRelocated symbols laid number kept) kept.fields
    → All (IsBesideRelocation (moved kept.items item offset))
    (section_relocations symbols laid number kept)
