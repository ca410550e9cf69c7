-- The plain bytes of a section, and the fields over them.
use Rattle.std.specs.Prelude.{◌≡◌, ◌⊎◌, ℕ, ◌+◌, ◌^◌, ◌≤◌, List, [], ◌∷◌, length, replicate, slice_range, if◌then◌else◌}
use Rattle.asm_frags.specs.declared.fields.Field.{Field}
use Rattle.asm_frags.specs.Fields.{width}

-- how many plain bytes the field stands over: none where it stands in an item
abbrev pub covered : Field → ℕ
covered field = if field.in_item then 0 else width field.size

-- the offset behind the field
abbrev pub field_end : Field → ℕ
field_end field = field.offset + covered field

-- the field stands within the bytes, over zeros
pub record IsBlank (bytes : List ℕ) (field : Field) : Type 0 where
  pub within : field_end field ≤ length bytes
  pub zeros : slice_range bytes field.offset (field_end field) ≡ replicate (covered field) 0

-- the field ends before these bytes, from the one offset to the other, or begins behind them
abbrev pub IsBeside : ℕ → ℕ → Field → Type 0
IsBeside from to field = (field_end field ≤ from) ⊎ (to ≤ field.offset)

-- from this offset on the fields stand in order and apart, over zeros
abbrev pub FieldsStand : List ℕ → ℕ → List Field → Type 0
FieldsStand bytes from [] = Unit {0}
FieldsStand bytes from (field ∷ fields) = (from ≤ field.offset) × IsBlank bytes field × FieldsStand bytes (field_end field) fields

-- at most 2 ^ 33 bytes, with fields in order and apart, over zeros
pub record AreBytes (bytes : List ℕ) (fields : List Field) : Type 0 where
  pub small : length bytes ≤ 2 ^ 33
  pub stand : FieldsStand bytes 0 fields
