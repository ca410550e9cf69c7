-- Where the value of a branch's field leads.
use Rattle.std.specs.Prelude.{◌≡◌, ◌==◌, ℕ, ◌+◌, true, false, Some}
use Rattle.asm_expr.specs.Forms.{wrapped}
use Rattle.asm_expr.specs.Knowledge.{label}
use Rattle.asm_symbols.specs.SymbolMap.{SymbolMap}
use Rattle.asm_frags.specs.declared.fields.Field.{Field}
use Rattle.asm_frags.specs.Fields.{width, own_place}
use Rattle.item_rows.specs.Links.{is_linked}
use Rattle.asm_relax.specs.FieldValues.{held_value, IsDistanceTo}
use Rattle.asm_relax.specs.Final.{address_of, final_told}
use Rattle.asm_relax.specs.Settling.{LaidSections}

-- the field, as it is in the layout, is that of a branch to a number after this symbol, which is a
-- label of the field's section with this address; the linker knows no more of it than the assembler
pub record IsBranchTo (map : SymbolMap) (laid : LaidSections) (field : Field)
    (symbol number address : ℕ) : Type 0 where
  pub distance : IsDistanceTo field symbol number
  pub free : is_linked map field ≡ false
  pub apart : (symbol == own_place) ≡ false
  pub known : final_told map laid symbol ≡ label field.section address

-- the field has a value that leads to the target, modulo 2^64, counted from the end of an
-- instruction of so many bytes at this place
pub record Leads (map : SymbolMap) (laid : LaidSections) (field : Field) (place size target : ℕ)
    : Type 0 where
  pub value : ℕ
  pub held : held_value map laid field ≡ Some value
  pub leads : wrapped (place + wrapped (value + size)) ≡ wrapped target

-- the value of a branch's field leads to the label and the number after it
pub record BranchesLead : Type 0 where
  -- the field stands over plain bytes, so many after the first of the instruction's
  pub over : (map : SymbolMap) (laid : LaidSections) (field : Field)
      → (symbol number address place size at : ℕ)
      → IsBranchTo map laid field symbol number address → field.in_item ≡ false
      → address_of laid field.section field.item field.offset ≡ wrapped (place + at)
      → at + width field.size + field.role.behind ≡ size
      → Leads map laid field place size (address + number)
  -- the field stands in an item that ends the instruction, as that of a direct jump, short or near
  pub within : (map : SymbolMap) (laid : LaidSections) (field : Field)
      → (symbol number address place size : ℕ)
      → IsBranchTo map laid field symbol number address → field.in_item ≡ true
      → field.role.behind ≡ 0
      → address_of laid field.section field.item field.offset ≡ wrapped (place + size)
      → Leads map laid field place size (address + number)
