-- That the type of a relocation suits its field.
use Rattle.std.specs.Prelude.{◌≡◌, ◌≢◌, ℕ, ◌-◌, ◌*◌, ◌^◌, ◌<◌, ◌≤◌, ◌⊎◌, Bool, true, false, Some}
use Rattle.asm_frags.specs.declared.fields.Field.{Field}
use Rattle.asm_frags.specs.Fields.{width, holds}
use Rattle.asm_frags.specs.SectionOf.{SectionOf}
use Rattle.asm_symbols.specs.SymbolMap.{SymbolMap}
use Rattle.asm_relax.specs.Settling.{LaidItem, LaidSections}
use Rattle.elf_object.specs.declared.relocations.Relocation.{Relocation}
use Rattle.elf_object.specs.Relocations.{kind_number, field_place, field_relocation}
use Rattle.x86_insn.specs.declared.amounts.FieldKind.{FieldKind}
use Rattle.x86_insn.specs.declared.amounts.FieldKind.TheVariants.{Plain, Signed, Address, Branch, Number}
use Rattle.object_laws.specs.RelocationTypes.{Check, unsaid, zero_extended, sign_extended, RelocationType, relocation_type}

-- the processor extends the field by its sign: an immediate, a displacement or a distance
abbrev pub is_sign_extended : FieldKind → Bool
is_sign_extended Plain = false
is_sign_extended Signed = true
is_sign_extended Address = true
is_sign_extended Branch = true
is_sign_extended Number = false

-- the linker has verified the value, a number modulo 2 ^ 64, for a field of so many bytes; without a check it verifies
-- none
abbrev pub IsVerified : Check → ℕ → ℕ → Type 0
IsVerified unsaid bytes value = ⊥
IsVerified zero_extended bytes value = value < 2 ^ (8 * bytes)
IsVerified sign_extended bytes value = (value < 2 ^ (8 * bytes - 1)) ⊎ (2 ^ 64 - 2 ^ (8 * bytes - 1) ≤ value)

-- the type fills the field and no more; where the linker verifies a value, it extends the field as the processor does,
-- so that the field holds what is verified
pub record Suits (field : Field) (row : RelocationType) : Type 0 where
  pub bytes : row.bytes ≡ width field.size
  pub signed : is_sign_extended field.role.kind ≡ true → row.check ≢ zero_extended
  pub plain : is_sign_extended field.role.kind ≡ false → row.check ≢ sign_extended
  pub held : (value : ℕ) → value < 2 ^ 64 → IsVerified row.check row.bytes value → holds field.role.kind field.size value ≡ true

-- the relocation has the number of the type, which suits the field, and stands where the field does
pub record IsTyped (section : SectionOf LaidItem) (field : Field) (r : Relocation) (row : RelocationType) : Type 0 where
  pub numbered : relocation_type (kind_number r.kind) ≡ Some row
  pub suits : Suits field row
  pub place : r.offset ≡ field_place section field

-- each relocation has a type of the table, which suits its field
abbrev pub RelocationsSuitFields : Type 0
RelocationsSuitFields = (map : SymbolMap) (sections : LaidSections) (number : ℕ) (section : SectionOf LaidItem) (field : Field) (r : Relocation)
    → field_relocation map sections number section field ≡ Some r → (row : RelocationType) × IsTyped section field r row
