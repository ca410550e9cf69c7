-- The room that the items of a layout have for the values that the object holds in them.
use Rattle.std.specs.Prelude.{◌≡◌, ℕ, ◌≤◌, Option, IfSome, None, Some, slice_get}
use Rattle.item_bytes.specs.declared.jumps.Condition.{Condition}
use Rattle.asm_symbols.specs.SymbolMap.{SymbolMap}
use Rattle.asm_frags.specs.declared.fields.Field.{Field}
use Rattle.asm_frags.specs.SectionOf.{SectionOf}
use Rattle.item_contents.specs.declared.kinds.Growth.{Growth}
use Rattle.item_contents.specs.declared.kinds.Growth.TheVariants as growth
use Rattle.item_contents.specs.declared.contents.Content.TheVariants.{Growing}
use Rattle.item_contents.specs.Contents.{top_of, level_size}
use Rattle.item_rows.specs.ItemRows.{rows_of, levels_of}
use Rattle.asm_relax.specs.FieldValues.{held_value}
use Rattle.asm_relax.specs.ItemValues.{IsInItem, AreLow, HasRoom}
use Rattle.asm_relax.specs.Settling.{LaidSections, LaidItem, settled_sections}
use Rattle.asm_relax.specs.ValueRanges.{HasNearRoom}

-- an item of this size that grows with the value of this field has the size of a level at which there is room for the value, if the field has one: so
-- has a near jump in its four bytes, where the layout has no fault; and a jump is near where its field has no value, so that a linker fills in four bytes
pub record HasRoomFor (map : SymbolMap) (sections : LaidSections) (kind : Growth) (size : ℕ) (field : Field) : Type 0 where
  pub level : ℕ
  pub within : level ≤ top_of kind
  pub sized : size ≡ level_size kind level
  pub room : IfSome (held_value map sections field) (HasRoom kind level)
  pub near : HasNearRoom map sections field
  pub linked : held_value map sections field ≡ None → (condition : Option Condition) → kind ≡ growth.Jump condition → level ≡ 1

-- so has each item of settled sections that grows, where rows are moved by less than 2^64, and all symbols stand in the sections
abbrev pub SettledHaveRoom : Type 0
SettledHaveRoom = (map : SymbolMap) (sections : LaidSections) (number index at : ℕ) (section : SectionOf LaidItem) (item : LaidItem) (kind : Growth) (field : Field)
    → AreLow map (levels_of (rows_of map sections)) sections → IsInItem map sections field
    → slice_get (settled_sections map sections) number ≡ Some section → slice_get section.items index ≡ Some item
    → item.content ≡ Growing (record { kind = kind; field = at }) → slice_get section.fields at ≡ Some field
    → HasRoomFor map (settled_sections map sections) kind item.size field
