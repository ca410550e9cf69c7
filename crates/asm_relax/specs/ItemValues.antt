-- The value that a field in an item holds, and the distance of the item's row.
use Rattle.std.specs.Prelude.{◌≡◌, ℕ, ◌+◌, ◌-◌, ◌*◌, ◌^◌, ◌<◌, ◌≤◌, Bool, true, false, List, All, IfSome, length, Some, option_map, slice_get, slice_index}
use Rattle.asm_base.specs.declared.places.SectionPlace.{SectionPlace}
use Rattle.asm_expr.specs.Forms.{Form}
use Rattle.asm_expr.specs.Coefficients.{coefficient, is_among}
use Rattle.asm_symbols.specs.SymbolMap.{SymbolMap}
use Rattle.asm_frags.specs.declared.fields.Field.{Field}
use Rattle.asm_frags.specs.Fields.{is_distance, own_place}
use Rattle.asm_frags.specs.SectionOf.{SectionOf}
use Rattle.item_contents.specs.declared.kinds.Growth.{Growth}
use Rattle.item_contents.specs.declared.kinds.Growth.TheVariants as growth
use Rattle.asm_levels.specs.declared.rows.Row.{Row}
use Rattle.asm_levels.specs.Distances.{distance_value}
use Rattle.asm_levels.specs.Needs.{need}
use Rattle.item_bytes.specs.Levels.{IsSignedWithin, AdvanceHolds}
use Rattle.asm_levels.specs.Shifts.{shifts_of}
use Rattle.row_distances.specs.Places.{place_of}
use Rattle.item_rows.specs.ItemRows.{rows_in, rows_of, own_of, field_distance, grown_row, levels_of}
use Rattle.asm_relax.specs.FieldValues.{held_value}
use Rattle.asm_relax.specs.Layout.{laid_by, AreWithin}
use Rattle.asm_relax.specs.Settling.{LaidSections, LaidItem, settled_sections}

-- the place stands in one of the sections, which has as many items as stand before it
pub record StandsIn (sections : LaidSections) (place : SectionPlace) : Type 0 where
  pub section : SectionOf LaidItem
  pub there : slice_get sections place.section ≡ Some section
  pub within : place.place.item ≤ length section.items

-- how often the form names the place of its field: minus once where the field holds a distance, and else never
abbrev pub NamesOwnPlace : Bool → Form → Type 0
NamesOwnPlace true made = coefficient made own_place ≡ 2 ^ 64 - 1
NamesOwnPlace false made = is_among own_place made.terms ≡ false

-- the field stands in the last bytes of an item; it, and all symbols that have a place, stand in the sections
pub record IsInItem (map : SymbolMap) (sections : LaidSections) (field : Field) : Type 0 where
  pub in_item : field.in_item ≡ true
  pub behind : field.role.behind ≡ 0
  pub own : NamesOwnPlace (is_distance field.role.kind) field.form
  pub constant : field.form.constant < 2 ^ 64
  pub places : (index : ℕ) (place : SectionPlace) → place_of map (own_of field) index ≡ Some place → StandsIn sections place

-- each item stands behind fewer than 2^64 plain bytes, and no row is moved by as many
pub record AreLow (map : SymbolMap) (levels : List ℕ) (sections : LaidSections) : Type 0 where
  pub offsets : All (λ section. All (λ item. item.offset < 2 ^ 64) section.items) sections
  pub shifts : All (λ shift. shift < 2 ^ 64) (shifts_of (rows_of map sections) levels)

-- whatever the levels of the rows, the object holds in an item the distance of its row: where the row has none, the field has no value
abbrev pub HoldTheirDistances : Type 0
HoldTheirDistances = (map : SymbolMap) (levels : List ℕ) (sections : LaidSections) (field : Field)
    → AreWithin levels (rows_of map sections) → AreLow map levels sections → IsInItem map sections field
    → held_value map (laid_by map levels sections) field ≡ option_map (distance_value (shifts_of (rows_of map sections) levels)) (field_distance (rows_in map sections) field)

-- the same, where each row has its level in the layout
abbrev pub HoldWhereSettled : Type 0
HoldWhereSettled = (map : SymbolMap) (sections : LaidSections) (field : Field)
    → AreLow map (levels_of (rows_of map sections)) sections → IsInItem map sections field
    → held_value map (settled_sections map sections) field
    ≡ option_map (distance_value (shifts_of (rows_of map sections) (levels_of (rows_of map sections)))) (field_distance (rows_in map sections) field)

-- what grows has room for the value at this level: a short jump holds a signed byte, a number so many groups of 7 bits, and an advance what its form holds
abbrev pub HasRoom : Growth → ℕ → ℕ → Type 0
HasRoom (growth.Jump condition) level value = level ≡ 0 → IsSignedWithin (2 ^ 7) value
HasRoom (growth.Leb128 true) level value = IsSignedWithin (2 ^ (7 * (level + 1) - 1)) value
HasRoom (growth.Leb128 false) level value = value < 2 ^ (7 * (level + 1))
HasRoom growth.Advance level value = value < 2 ^ 32 → AdvanceHolds level value

-- where a row needs no more than its level, the item has room at that level for the value that the object holds in it
abbrev pub HaveRoom : Type 0
HaveRoom = (map : SymbolMap) (levels : List ℕ) (sections : LaidSections) (field : Field) (kind : Growth) (index : ℕ) (row : Row)
    → AreWithin levels (rows_of map sections) → AreLow map levels sections → IsInItem map sections field
    → slice_get (rows_of map sections) index ≡ Some row → row.size ≡ grown_row kind (field_distance (rows_in map sections) field)
    → slice_index (need (rows_of map sections) levels) index ≤ slice_index levels index
    → IfSome (held_value map (laid_by map levels sections) field) (HasRoom kind (slice_index levels index))
