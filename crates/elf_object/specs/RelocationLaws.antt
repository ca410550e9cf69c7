-- What the linker makes of relocations (psABI for AMD64, section 4.4, "Relocation").
use Rattle.std.specs.Prelude.{◌≡◌, ℕ, ◌+◌, ◌^◌, ◌<◌, ◌≤◌, Bool, true, false, length, Some, if◌then◌else◌}
use Rattle.asm_expr.specs.Forms.{wrapped}
use Rattle.asm_expr.specs.FormValues.{value_by, form_value}
use Rattle.asm_frags.specs.declared.fields.Field.{Field}
use Rattle.asm_frags.specs.Fields.{own_place}
use Rattle.asm_frags.specs.SectionOf.{SectionOf}
use Rattle.asm_symbols.specs.SymbolMap.{SymbolMap}
use Rattle.item_rows.specs.Links.{is_suffixed}
use Rattle.asm_relax.specs.FieldValues.{field_address, told_in_field, counted_bytes}
use Rattle.asm_relax.specs.Final.{final_told}
use Rattle.asm_relax.specs.Settling.{LaidItem, LaidSections}
use Rattle.elf_object.specs.declared.relocations.Relocation.{Relocation}
use Rattle.elf_object.specs.declared.relocations.RelocationKind.{RelocationKind}
use Rattle.elf_object.specs.declared.relocations.RelocationKind.TheVariants.{Direct64, Pc32, Plt32, GotPcRel, Direct32, Signed32, Direct16, Pc16, Direct8, Pc8, GotTpOff, TpOff32, Pc64}
use Rattle.elf_symbols.specs.declared.targets.Target.{Target}
use Rattle.elf_symbols.specs.declared.targets.Target.TheVariants.{OfSection, OfSymbol}
use Rattle.elf_object.specs.Relocations.{field_relocation}

-- the place of the field is taken from the sum
abbrev pub is_relative : RelocationKind → Bool
is_relative Direct64 = false
is_relative Pc32 = true
is_relative Plt32 = true
is_relative GotPcRel = true
is_relative Direct32 = false
is_relative Signed32 = false
is_relative Direct16 = false
is_relative Pc16 = true
is_relative Direct8 = false
is_relative Pc8 = true
is_relative GotTpOff = true
is_relative TpOff32 = false
is_relative Pc64 = true

module _ (begins given : ℕ → ℕ) (map : SymbolMap) (sections : LaidSections) where
  -- S: where a section begins, or a symbol stands; symbols that this object does not define stand where it is given
  abbrev pub target_address : Target → ℕ
  target_address (OfSection section) = begins section
  target_address (OfSymbol index) = value_by begins given index (final_told map sections index)

  -- P, where it is taken from the sum: the place of the field in the section of this number
  abbrev pub place_taken : ℕ → Relocation → ℕ
  place_taken number r = if is_relative r.kind then begins number + r.offset else 0

  -- the value is S + A, or S + A - P, modulo 2 ^ 64
  abbrev pub IsLinked : ℕ → Relocation → ℕ → Type 0
  IsLinked number r value = wrapped (value + place_taken number r) ≡ wrapped (target_address r.target + r.addend)

-- the place of the field stands where its section begins, and so far behind that
abbrev pub PlaceStands : (ℕ → ℕ) → (ℕ → ℕ) → LaidSections → Field → Type 0
PlaceStands begins given sections field = given own_place ≡ begins field.section + field_address sections field

-- wherever sections begin and symbols stand, what the linker makes of the relocation of a field without a suffix is the value of the field's form,
-- less what its kind counts from
abbrev pub RelocationsMeanForms : Type 0
RelocationsMeanForms = (begins given : ℕ → ℕ) (map : SymbolMap) (sections : LaidSections) (number value : ℕ) (section : SectionOf LaidItem) (field : Field) (r : Relocation)
    → length map.symbols ≤ own_place → is_suffixed field.role.suffix ≡ false → field.role.behind < 2 ^ 8 → PlaceStands begins given sections field
    → field_relocation map sections number section field ≡ Some r → IsLinked begins given map sections number r value
    → wrapped (value + counted_bytes field.size field.role) ≡ form_value begins given (told_in_field map sections field) field.form
