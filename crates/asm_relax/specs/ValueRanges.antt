-- The values of fields where a layout has no fault.
use Rattle.std.specs.Prelude.{◌≡◌, ℕ, ◌^◌, true, IfSome, None, Some, slice_get}
use Rattle.asm_symbols.specs.SymbolMap.{SymbolMap}
use Rattle.asm_frags.specs.declared.fields.Field.{Field}
use Rattle.asm_frags.specs.declared.fields.FieldSize.TheVariants.{Four}
use Rattle.asm_frags.specs.Fields.{holds, is_distance}
use Rattle.asm_frags.specs.SectionOf.{SectionOf}
use Rattle.item_bytes.specs.Levels.{IsSignedWithin}
use Rattle.asm_relax.specs.FieldValues.{held_value}
use Rattle.asm_relax.specs.RangeChecks.{first_fault}
use Rattle.asm_relax.specs.Settling.{LaidSections, LaidItem}

-- each field that has a value holds it, by its kind and size, where the layout has no fault
abbrev pub ValuesAreInRange : Type 0
ValuesAreInRange = (map : SymbolMap) (sections : LaidSections) (number at : ℕ) (section : SectionOf LaidItem) (field : Field) → first_fault map sections ≡ None
    → slice_get sections number ≡ Some section → slice_get section.fields at ≡ Some field
    → IfSome (held_value map sections field) (λ value. holds field.role.kind field.size value ≡ true)

-- the field holds a distance in four bytes, as that of a near jump does
pub record IsNearDistance (field : Field) : Type 0 where
  pub size : field.size ≡ Four
  pub kind : is_distance field.role.kind ≡ true

-- where the layout has no fault, a distance in four bytes lies from -2^31 to 2^31 - 1
abbrev pub HasNearRoom : SymbolMap → LaidSections → Field → Type 0
HasNearRoom map sections field = first_fault map sections ≡ None → IsNearDistance field → IfSome (held_value map sections field) (IsSignedWithin (2 ^ 31))
