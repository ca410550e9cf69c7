-- What the linker makes of relocations: the values of forms, with what it puts in place of the addresses of symbols.
use Rattle.std.specs.Prelude.{◌≡◌, ℕ, ◌+◌, ◌^◌, ◌==◌, ◌<◌, ◌≤◌, length, Some, if◌then◌else◌}
use Rattle.asm_expr.specs.Forms.{Form, wrapped}
use Rattle.asm_expr.specs.FormValues.{form_value}
use Rattle.asm_expr.specs.Knowledge.{Told, absent}
use Rattle.asm_frags.specs.declared.fields.Field.{Field}
use Rattle.asm_frags.specs.Fields.{own_place}
use Rattle.asm_frags.specs.SectionOf.{SectionOf}
use Rattle.asm_symbols.specs.SymbolMap.{SymbolMap}
use Rattle.asm_relax.specs.FieldValues.{told_in_field, counted_bytes}
use Rattle.asm_relax.specs.Settling.{LaidItem, LaidSections}
use Rattle.elf_symbols.specs.declared.targets.Target.{Target}
use Rattle.elf_symbols.specs.declared.targets.Target.TheVariants.{OfSection, OfSymbol}
use Rattle.elf_object.specs.declared.relocations.Relocation.{Relocation}
use Rattle.elf_object.specs.RelocationLaws.{PlaceStands}
use Rattle.elf_object.specs.Relocations.{kind_number, field_relocation}
use Rattle.object_laws.specs.RelocationTypes.{Operand, RelocationType, relocation_type}

-- what the linker puts for the target: where a section begins, of which a type takes no more than S, or what it has of
-- a symbol
abbrev pub put_for : (ℕ → ℕ) → (Operand → ℕ → ℕ) → Operand → Target → ℕ
put_for begins linked operand (OfSection number) = begins number
put_for begins linked operand (OfSymbol index) = linked operand index

-- the calculation gives the value, modulo 2 ^ 64: what is put and A, less P where the type is relative
abbrev pub IsCalculated : RelocationType → (put addend place value : ℕ) → Type 0
IsCalculated row put addend place value = wrapped (value + (if row.relative then place else 0)) ≡ wrapped (put + addend)

-- what symbols are known as, but for one that a relocation names: of that nothing is known here
abbrev pub told_but : Target → (ℕ → Told) → ℕ → Told
told_but (OfSection number) told index = told index
told_but (OfSymbol named) told index = if index == named then absent else told index

-- what symbols are given, and the one that a relocation names what is put for it
abbrev pub given_put : Target → ℕ → (ℕ → ℕ) → ℕ → ℕ
given_put (OfSection number) put given index = given index
given_put (OfSymbol named) put given index = if index == named then put else given index

-- the value of a form where sections begin there, symbols stand there, and this is put in place of the address of the
-- symbol that a relocation names
abbrev pub value_with : (begins given : ℕ → ℕ) → (ℕ → Told) → Target → ℕ → Form → ℕ
value_with begins given told target put made = form_value begins (given_put target put given) (told_but target told) made

-- wherever sections begin and symbols stand, and whatever the linker has of a symbol for each operand of the table: what
-- the relocation's type makes of its target and addend is the value of the field's form, with what is put in place of
-- the symbol's address, less what the field's kind counts from
abbrev pub LinkedValuesAreForms : Type 0
LinkedValuesAreForms = (begins given : ℕ → ℕ) (linked : Operand → ℕ → ℕ) (map : SymbolMap) (sections : LaidSections) (number value : ℕ) (section : SectionOf LaidItem)
    (field : Field) (r : Relocation) (row : RelocationType)
    → length map.symbols ≤ own_place → field.role.behind < 2 ^ 8 → PlaceStands begins given sections field
    → field_relocation map sections number section field ≡ Some r → relocation_type (kind_number r.kind) ≡ Some row
    → IsCalculated row (put_for begins linked row.operand r.target) r.addend (begins number + r.offset) value
    → wrapped (value + counted_bytes field.size field.role)
    ≡ value_with begins given (told_in_field map sections field) r.target (put_for begins linked row.operand r.target) field.form
