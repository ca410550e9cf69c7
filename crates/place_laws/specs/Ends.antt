-- Where a section ends in the layout of all that is put.
use Rattle.std.specs.Prelude.{◌≡◌, ◌<◌, ◌++◌, ℕ, ◌+◌, ◌^◌, List, [], All, Option, Some, Ok, length}
use Rattle.std.specs.Prelude.{drop, slice_get}
use Rattle.std.specs.Option.{option_map_or}
use Rattle.asm_base.specs.declared.positions.Pos.{Pos}
use Rattle.asm_expr.specs.Forms.{Form, wrapped}
use Rattle.asm_symbols.specs.SymbolMap.{SymbolMap}
use Rattle.asm_frags.specs.declared.fields.FieldSize.{FieldSize}
use Rattle.asm_frags.specs.declared.roles.FieldRole.{FieldRole}
use Rattle.asm_frags.specs.Fields.{width}
use Rattle.asm_frags.specs.SectionOf.{SectionOf}
use Rattle.asm_frags.specs.Writing.{LooseItem, LooseSection, with_item, with_bytes, with_field}
use Rattle.asm_frags.specs.Writing.{with_growing}
use Rattle.item_contents.specs.declared.kinds.Growth.{Growth}
use Rattle.item_contents.specs.Contents.{MayHave}
use Rattle.x86_insn.specs.declared.amounts.Suffix.{Suffix}
use Rattle.asm_relax.specs.Final.{address_of}
use Rattle.asm_relax.specs.Placing.{shift_of}
use Rattle.asm_relax.specs.RangeChecks.{whole_size}
use Rattle.asm_relax.specs.Settling.{LaidItem, LooseSections, LaidSections, layout_of}

-- THE END OF A SECTION

-- where a section ends: after its plain bytes and its items, which have the sizes of the first
-- items of a layout
abbrev pub end_in : List LaidItem → LooseSection → ℕ
end_in items section = length section.bytes + shift_of (length section.items) 0 items

-- the size of the item of this index of a layout, 0 where there is none
abbrev pub size_at : List LaidItem → ℕ → ℕ
size_at items index = option_map_or (λ item. item.size) (slice_get items index) 0

-- the sizes of so many items of a layout, from the one of this index on
abbrev pub sizes_from : (from count : ℕ) → List LaidItem → ℕ
sizes_from from count items = shift_of count 0 (drop from items)

-- the items of the section of this number of a layout
abbrev pub items_in : LaidSections → ℕ → List LaidItem
items_in laid number = option_map_or (λ section. section.items) (slice_get laid number) []

-- the place of what is put next into the section of this number, counted from the section's
-- beginning in the layout: where the section ends, and 0 where there is none
abbrev pub place_in : LaidSections → ℕ → List LooseSection → ℕ
place_in laid number sections =
    option_map_or (end_in (items_in laid number)) (slice_get sections number) 0

-- ITS ITEMS IN A LAYOUT

-- the item of this index of a layout is this one: it has the same content, after as many plain
-- bytes, and a size that it may have
pub record IsItemOf (items : List LaidItem) (index : ℕ) (item : LooseItem) : Type 0 where
  pub laid : LaidItem
  pub there : slice_get items index ≡ Some laid
  pub content : laid.content ≡ item.content
  pub offset : laid.offset ≡ item.offset
  pub sized : MayHave item.content laid.size

-- the items of the section are the first ones of these of a layout
pub record AreFirst (section : LooseSection) (items : List LaidItem) : Type 0 where
  pub each : (index : ℕ) (item : LooseItem) → slice_get section.items index ≡ Some item
      → IsItemOf items index item

-- the items of each section are the first ones of its section in the layout
abbrev pub LayoutsKeepItems : Type 0
LayoutsKeepItems = (symbols : SymbolMap) (sections : LooseSections) (laid : LaidSections)
    → (number : ℕ) (section : LooseSection) → layout_of symbols sections ≡ Ok laid
    → slice_get sections number ≡ Some section → AreFirst section (items_in laid number)

-- WHAT MOVES IT

-- what is put into a section moves its end by its size in the layout: plain bytes and fields by
-- their number of bytes, though a run may be put before them, and an item by its size there
pub record EndsMove : Type 0 where
  pub bytes : (pos : Pos) (more : List ℕ) (section : LooseSection) (items : List LaidItem)
      → AreFirst (with_bytes pos more section) items
      → end_in items (with_bytes pos more section) ≡ end_in items section + length more
  pub field : (pos : Pos) (number : ℕ) (size : FieldSize) (role : FieldRole) (form : Form)
      → (section : LooseSection) (items : List LaidItem)
      → AreFirst (with_field pos number size role form section) items
      → end_in items (with_field pos number size role form section)
      ≡ end_in items section + width size
  pub item : (item : LooseItem) (section : LooseSection) (items : List LaidItem)
      → end_in items (with_item item section)
      ≡ end_in items section + size_at items (length section.items)
  pub growing : (pos : Pos) (number : ℕ) (kind : Growth) (suffix : Option Suffix) (form : Form)
      → (section : LooseSection) (items : List LaidItem)
      → end_in items (with_growing pos number kind suffix form section)
      ≡ end_in items section + size_at items (length section.items)

-- whatever is put into a section, so many bytes and so many items, moves its end by those bytes,
-- and by the sizes of those items in the layout
abbrev pub EndsAdd : Type 0
EndsAdd = (section later : LooseSection) (bytes : List ℕ) (more : List LooseItem)
    → (items : List LaidItem)
    → later.bytes ≡ section.bytes ++ bytes → later.items ≡ section.items ++ more
    → end_in items later
    ≡ end_in items section + (length bytes + sizes_from (length section.items) (length more) items)

-- ITS ADDRESS

-- the place after so many bytes and items of a section has the address at which a section of as
-- many ends in the layout, where items of the whole section stand after fewer than 2^64 plain bytes
abbrev pub EndsAreAddresses : Type 0
EndsAreAddresses = (symbols : SymbolMap) (sections : LooseSections) (laid : LaidSections)
    → (number : ℕ) (section now : LooseSection) → layout_of symbols sections ≡ Ok laid
    → slice_get sections number ≡ Some section
    → All (λ item. item.offset < 2 ^ 64) section.items
    → length now.items < length section.items + 1
    → address_of laid number (length now.items) (length now.bytes)
    ≡ wrapped (end_in (items_in laid number) now)

-- in its own layout a section ends after as many bytes as it has there
abbrev pub EndsAreSizes : Type 0
EndsAreSizes = (symbols : SymbolMap) (sections : LooseSections) (laid : LaidSections)
    → (number : ℕ) (section : LooseSection) (kept : SectionOf LaidItem)
    → layout_of symbols sections ≡ Ok laid → slice_get sections number ≡ Some section
    → slice_get laid number ≡ Some kept → place_in laid number sections ≡ whole_size kept
