-- Which fields of an object have relocations: just those without a value have one each (psABI for AMD64, section 4.4, "Relocation").
use Rattle.std.specs.Prelude.{◌≡◌, ℕ, ◌+◌, ◌==◌, Bool, false, List, take, drop, map, filter_map, is_none, None, Some, slice_get}
use Rattle.std.specs.List.{filter}
use Rattle.asm_frags.specs.declared.fields.Field.{Field}
use Rattle.asm_frags.specs.SectionOf.{SectionOf}
use Rattle.asm_symbols.specs.SymbolMap.{SymbolMap}
use Rattle.asm_relax.specs.FieldValues.{held_value}
use Rattle.asm_relax.specs.Settling.{LaidItem, LaidSections}
use Rattle.elf_file.specs.Sections.{no_bits}
use Rattle.elf_object.specs.declared.relocations.Relocation.{Relocation}
use Rattle.elf_object.specs.Contents.{filed_fields, relocations_of}
use Rattle.elf_object.specs.Faults.{object_fault}
use Rattle.elf_object.specs.Relocations.{field_place, field_relocation}

-- symbols are left in the form of the field, so that it has no value before it is linked
abbrev pub is_valueless : SymbolMap → LaidSections → Field → Bool
is_valueless symbols sections field = is_none (held_value symbols sections field)

-- the fields in the file of a section that have no value, in their order
abbrev pub valueless_fields : SymbolMap → LaidSections → SectionOf LaidItem → List Field
valueless_fields symbols sections section = filter (is_valueless symbols sections) (filed_fields section)

-- the relocations of a section of an object are those of its fields without a value: one of each, in their order
abbrev pub RelocationsAreOfFields : Type 0
RelocationsAreOfFields = (symbols : SymbolMap) (sections : LaidSections) (number : ℕ) (section : SectionOf LaidItem) (own : List Relocation)
    → object_fault symbols sections ≡ None → slice_get sections number ≡ Some section → slice_get (relocations_of symbols sections) number ≡ Some own
    → map Some own ≡ map (field_relocation symbols sections number section) (valueless_fields symbols sections section)

-- the field at this index of the section of this number stands in the file
pub record IsFiledField (sections : LaidSections) (number index : ℕ) (section : SectionOf LaidItem) (field : Field) : Type 0 where
  pub found : slice_get sections number ≡ Some section
  pub takes_bytes : (section.kind == no_bits) ≡ false
  pub there : slice_get section.fields index ≡ Some field

-- the field has just this one of the relocations of its section: it says what the field's form is and stands at the field's place, and the relocations
-- before it and behind it are those of the fields before and behind
pub record HasOneRelocation (symbols : SymbolMap) (sections : LaidSections) (number index : ℕ) (section : SectionOf LaidItem) (field : Field) (r : Relocation) : Type 0 where
  pub says : field_relocation symbols sections number section field ≡ Some r
  pub place : r.offset ≡ field_place section field
  pub own : List Relocation
  pub listed : slice_get (relocations_of symbols sections) number ≡ Some own
  pub entry : ℕ
  pub there : slice_get own entry ≡ Some r
  pub before : take entry own ≡ filter_map (field_relocation symbols sections number section) (take index section.fields)
  pub behind : drop (entry + 1) own ≡ filter_map (field_relocation symbols sections number section) (drop (index + 1) section.fields)

-- so each field in the file has one whose form a relocation can say
abbrev pub SaidFieldsHaveOne : Type 0
SaidFieldsHaveOne = (symbols : SymbolMap) (sections : LaidSections) (number index : ℕ) (section : SectionOf LaidItem) (field : Field) (r : Relocation)
    → IsFiledField sections number index section field → field_relocation symbols sections number section field ≡ Some r
    → HasOneRelocation symbols sections number index section field r

-- and in an object each field in the file that has no value
abbrev pub ValuelessFieldsHaveOne : Type 0
ValuelessFieldsHaveOne = (symbols : SymbolMap) (sections : LaidSections) (number index : ℕ) (section : SectionOf LaidItem) (field : Field)
    → object_fault symbols sections ≡ None → IsFiledField sections number index section field → held_value symbols sections field ≡ None
    → (r : Relocation) × HasOneRelocation symbols sections number index section field r

-- a field with a value has none
abbrev pub ValuesHaveNone : Type 0
ValuesHaveNone = (symbols : SymbolMap) (sections : LaidSections) (number value : ℕ) (section : SectionOf LaidItem) (field : Field)
    → held_value symbols sections field ≡ Some value → field_relocation symbols sections number section field ≡ None
