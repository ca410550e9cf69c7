-- What the sections of an object hold: plain bytes with the values of fields in place, the bytes of items between them, and the relocations of the other fields.
use Rattle.std.specs.Prelude.{ℕ, ◌+◌, ◌==◌, ◌&&◌, ◌||◌, not, max, nat_le, Bool, true, false, List, [], ◌∷◌, ◌++◌, length, drop, slice_get, slice_range, filter_map, Option, None, Some, is_some, unwrap_or, if◌then◌else◌}
use Rattle.std.specs.Option.{option_and_then}
use Rattle.asm_frags.specs.declared.fields.Field.{Field}
use Rattle.item_contents.specs.declared.contents.Content.{Content}
use Rattle.item_contents.specs.Contents.{held_field, bytes_of}
use Rattle.asm_frags.specs.PlainBytes.{field_end}
use Rattle.asm_frags.specs.Fields.{low_bytes}
use Rattle.asm_frags.specs.SectionOf.{SectionOf}
use Rattle.item_contents.specs.Contents.{is_run}
use Rattle.asm_symbols.specs.SymbolMap.{SymbolMap}
use Rattle.asm_relax.specs.FieldValues.{held_value}
use Rattle.asm_relax.specs.Settling.{LaidItem, LaidSections}
use Rattle.elf_file.specs.Sections.{no_bits}
use Rattle.elf_object.specs.declared.relocations.Relocation.{Relocation}
use Rattle.elf_object.specs.Relocations.{field_relocation}

-- the plain bytes of a field with this value: none where it stands in an item
abbrev pub held_bytes : Field → ℕ → List ℕ
held_bytes field value = if field.in_item then [] else low_bytes field.size value

-- the plain bytes of a field: its value, or zeros where it has none
abbrev pub field_bytes : SymbolMap → LaidSections → Field → List ℕ
field_bytes map sections field = held_bytes field (unwrap_or (held_value map sections field) 0)

-- the field begins at this offset or behind it, and ends within the bytes
abbrev pub fits_behind : List ℕ → ℕ → Field → Bool
fits_behind bytes at field = nat_le at field.offset && nat_le (field_end field) (length bytes)

-- what stands from this offset on: the bytes between fields, and those of the fields; a field that does not fit behind the one before it ends them
unfoldable pub filled : SymbolMap → LaidSections → List ℕ → ℕ → List Field → List ℕ
filled map sections bytes at [] = drop at bytes
filled map sections bytes at (field ∷ fields) =
    if fits_behind bytes at field then slice_range bytes at field.offset ++ (field_bytes map sections field ++ filled map sections bytes (field_end field) fields)
    else drop at bytes

-- the plain bytes of a section with the values of its fields in place
abbrev pub plain_bytes : SymbolMap → LaidSections → SectionOf LaidItem → List ℕ
plain_bytes map sections section = filled map sections section.bytes 0 section.fields

-- how many plain bytes stand before an item, where this many stand before the item in front of it
abbrev pub reached : ℕ → LaidItem → ℕ
reached from item = max from item.offset

-- the value of a field, where it is there and has one, and 0 where not
abbrev pub value_or_zero : SymbolMap → LaidSections → Option Field → ℕ
value_or_zero map sections None = 0
value_or_zero map sections (Some field) = unwrap_or (held_value map sections field) 0

-- the value that an item of this section holds: that of its field
abbrev pub item_value : SymbolMap → LaidSections → SectionOf LaidItem → Content → ℕ
item_value map sections section content = value_or_zero map sections (option_and_then (slice_get section.fields) (held_field content))

-- the bytes of an item of this section, with this size
abbrev pub item_bytes : SymbolMap → LaidSections → SectionOf LaidItem → Content → ℕ → List ℕ
item_bytes map sections section content size = bytes_of content size (item_value map sections section content)

-- what stands from this offset of the plain bytes on: the bytes that each item holds at its address, behind the plain bytes before it
unfoldable pub interleaved : (Content → ℕ → List ℕ) → List ℕ → ℕ → List LaidItem → List ℕ
interleaved held bytes from [] = drop from bytes
interleaved held bytes from (item ∷ items) =
    slice_range bytes from (reached from item) ++ (held item.content item.size ++ interleaved held bytes (reached from item) items)

-- no item but one run: the plain bytes are all
abbrev pub is_one_run : List LaidItem → Bool
is_one_run [] = true
is_one_run (item ∷ []) = is_run item.content
is_one_run (item ∷ next ∷ items) = false

-- the bytes of a section
unfoldable pub section_bytes : SymbolMap → LaidSections → SectionOf LaidItem → List ℕ
section_bytes map sections section = interleaved (item_bytes map sections section) (plain_bytes map sections section) 0 section.items

-- the field of the section of this number has neither a value nor a relocation
abbrev pub is_lost : SymbolMap → LaidSections → ℕ → SectionOf LaidItem → Field → Bool
is_lost map sections number section field =
    not (is_some (held_value map sections field) || is_some (field_relocation map sections number section field))

-- the fields whose bytes stand in the file
abbrev pub filed_fields : SectionOf LaidItem → List Field
filed_fields section = if section.kind == no_bits then [] else section.fields

-- the relocations of the section of this number, by their places
abbrev pub section_relocations : SymbolMap → LaidSections → ℕ → SectionOf LaidItem → List Relocation
section_relocations map sections number section = filter_map (field_relocation map sections number section) (filed_fields section)

-- the relocations of these sections, which have the numbers from this one on
abbrev pub relocations_from : SymbolMap → LaidSections → ℕ → List (SectionOf LaidItem) → List (List Relocation)
relocations_from map sections number [] = []
relocations_from map sections number (section ∷ more) = section_relocations map sections number section ∷ relocations_from map sections (number + 1) more

-- the relocations of each section
abbrev pub relocations_of : SymbolMap → LaidSections → List (List Relocation)
relocations_of map sections = relocations_from map sections 0 sections
