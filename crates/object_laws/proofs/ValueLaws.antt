-- The values of relocations are as the law says.
use Rattle.std.proofs.Common.{◌≡◌, ℕ, ◌+◌, ◌^◌, ◌<◌, ◌≤◌, Bool, cond, Some, length, sym, ap, ◌∙◌, subst, arith}
use Rattle.asm_expr.specs.Coefficients.{coefficient, IsSettled}
use Rattle.asm_expr.specs.Forms.{Form, wrapped}
use Rattle.asm_expr.specs.FormValues.{value_by, form_value, KeepsValue}
use Rattle.asm_expr.specs.Knowledge.{Told, label}
use Rattle.asm_frags.specs.declared.fields.Field.{Field}
use Rattle.asm_frags.specs.Fields.{own_place}
use Rattle.asm_symbols.specs.declared.entries.Symbol.{Symbol}
use Rattle.asm_symbols.specs.SymbolMap.{SymbolMap}
use Rattle.asm_relax.specs.FieldValues.{told_in_field, counted_bytes, counted}
use Rattle.asm_relax.specs.Settling.{LaidSections}
use Rattle.elf_symbols.specs.declared.targets.Target.{Target}
use Rattle.elf_symbols.specs.declared.targets.Target.TheVariants.{OfSection, OfSymbol}
use Rattle.elf_object.specs.declared.references.SymbolReference.{SymbolReference}
use Rattle.elf_object.specs.declared.references.Reference.{Reference}
use Rattle.elf_object.specs.declared.relocations.Relocation.{Relocation}
use Rattle.elf_object.specs.declared.relocations.RelocationKind.{RelocationKind}
use Rattle.elf_object.specs.RelocationLaws.{PlaceStands}
use Rattle.elf_object.specs.Relocations.{kind_number, final_reference, field_place}
use Rattle.object_laws.specs.RelocationTypes.{Operand, RelocationType, relocation_type}
use Rattle.object_laws.specs.FieldSymbols.{form_left}
use Rattle.object_laws.specs.LinkedValues.{put_for, IsCalculated, value_with, LinkedValuesAreForms}
use Rattle.object_laws.proofs.Types.{row_of, kind_right}
use Rattle.object_laws.proofs.Parts.{parts_of, IsFound, found_is, by_terms}
use Rattle.object_laws.proofs.Replacing.{replaced}
use Rattle.object_laws.proofs.Values.{counted_back, worth, told_final, Sums, Calculated, alone_sums, less_sums, alone_once, less_once}
use Rattle.object_laws.proofs.FieldLaws.{same_row}

module _ (begins given : ℕ → ℕ) (linked : Operand → ℕ → ℕ) (operand : Operand) (map : SymbolMap) (sections : LaidSections) (number value : ℕ) (field : Field)
    (few : length map.symbols ≤ own_place) (low : field.role.behind < 2 ^ 8) (stands : PlaceStands begins given sections field)
    (keeps : KeepsValue (told_in_field map sections field) field.form) (settles : IsSettled (told_in_field map sections field) field.form) where
  -- the value of the field's form, with what is put for this target
  abbrev Worth : Target → Type 0
  Worth target = wrapped (value + counted_bytes field.size field.role)
      ≡ value_with begins given (told_in_field map sections field) target (put_for begins linked operand target) field.form

  abbrev own_worth : ℕ → ℕ
  own_worth = worth begins given map sections number field few stands

  section_sum : (count old left total base addend : ℕ) → wrapped (value + count + old) ≡ wrapped (left + base + addend) → old ≡ base + addend → left ≡ total → total < 2 ^ 64
      → wrapped (value + count) ≡ total
  section_sum count old left total base addend first second third low = omega arith

  symbol_sum : (count old left total put addend replaced : ℕ) → wrapped (value + count + old) ≡ wrapped (left + put + addend) → addend ≡ 0 → left ≡ total
      → wrapped (replaced + old) ≡ wrapped (total + put) → replaced < 2 ^ 64 → wrapped (value + count) ≡ replaced
  symbol_sum count old left total put addend replaced first second third fourth low = omega arith

  cut : (n : ℕ) → wrapped n < 2 ^ 64
  cut n = omega arith

  -- with what is put for the target in place of what the symbol is worth
  worth_by : (index : ℕ) (symbol : Symbol) (at : SymbolReference) → IsFound map sections field index symbol at → coefficient field.form index ≡ 1
      → (target : Target) → at.target ≡ target
      → Sums begins given map sections number field few stands value (put_for begins linked operand target) at.addend (own_worth index) → Worth target
  worth_by index symbol at found once (OfSection section) is sums =
      let told : told_in_field map sections field index ≡ label section at.addend =
      told_final begins given map sections number field few stands index found.inside ∙ found.stands.own_section section is in
      let worth_so : own_worth index ≡ begins section + at.addend = ap (value_by begins given index) told in
      section_sum (counted_bytes field.size field.role) (own_worth index) (form_value begins given (told_in_field map sections field) (form_left map sections field))
      (form_value begins given (told_in_field map sections field) field.form) (begins section) at.addend sums worth_so (keeps begins given) (cut _)
  worth_by index symbol at found once (OfSymbol other) is sums =
      let (same, none) = found.stands.own_name other is in
      let moved = subst (λ (i : ℕ). Sums begins given map sections number field few stands value (linked operand i) at.addend (own_worth index)) same sums in
      subst (λ (i : ℕ). Worth (OfSymbol i)) (sym same)
      (symbol_sum (counted_bytes field.size field.role) (own_worth index) (form_value begins given (told_in_field map sections field) (form_left map sections field))
      (form_value begins given (told_in_field map sections field) field.form) (linked operand index) at.addend
      (value_with begins given (told_in_field map sections field) (OfSymbol index) (linked operand index) field.form) moved none (keeps begins given)
      (replaced begins given (told_in_field map sections field) index (linked operand index) field.form once) (cut _))

  -- where the calculation gives the value
  worth_found : (place written : ℕ) (found : Reference) → final_reference map sections number place field ≡ Some found
      → Calculated begins given map sections number field few stands value (put_for begins linked operand found.target) written (begins number + place) found → Worth found.target
  worth_found place written found there both =
      let terms = (form_left map sections field).terms in
      let total = (form_left map sections field).constant in
      let put = put_for begins linked operand found.target in
      by_terms map sections field number place total found (Worth found.target) terms there
      (λ index at alone.
      let (symbol, is) = found_is map sections field index at alone.there in
      worth_by index symbol at is (alone_once begins given map sections number field few stands total found index at settles alone)
      found.target (ap (λ (f : Reference). f.target) alone.made)
      (alone_sums begins given map sections number field few stands value put written (begins number + place) found index at alone both))
      (λ index from address at pair.
      let (symbol, is) = found_is map sections field index at pair.there in
      worth_by index symbol at is (less_once begins given map sections number field few stands place total found index from address at is.inside settles pair)
      found.target (ap (λ (f : Reference). f.target) pair.made)
      (less_sums begins given map sections number field few stands value put written place found index from address at pair both))

pub value_of : ((told : ℕ → Told) (made : Form) → KeepsValue told made) → ((told : ℕ → Told) (made : Form) → IsSettled told made) → LinkedValuesAreForms
value_of keeps settles begins given linked map sections number value section field r row few low stands is typed calculated =
    let (found, kind, parts) = parts_of map sections number section field r is in
    let place = field_place section field in
    let told = told_in_field map sections field in
    let right = kind_right field.role.suffix found.relative field.role.kind found.local field.size kind parts.chosen in
    let same_kind : kind ≡ r.kind = ap (λ (x : Relocation). x.kind) parts.made in
    let rows : row_of kind ≡ row = same_row kind row (ap (λ (k : RelocationKind). relocation_type (kind_number k)) same_kind ∙ typed) in
    let relative : row.relative ≡ found.relative = ap (λ (t : RelocationType). t.relative) (sym rows) ∙ right.2 in
    let at_parts = subst (λ (x : Relocation). IsCalculated row (put_for begins linked row.operand x.target) x.addend (begins number + x.offset) value) (sym parts.made) calculated in
    let written = counted field.size field.role found.addend in
    let put = put_for begins linked row.operand found.target in
    let first = subst (λ (b : Bool). wrapped (value + cond b (begins number + place) 0) ≡ wrapped (put + written)) relative at_parts in
    subst (λ (x : Relocation). wrapped (value + counted_bytes field.size field.role) ≡ value_with begins given told x.target (put_for begins linked row.operand x.target) field.form) parts.made
    (worth_found begins given linked row.operand map sections number value field few low stands (keeps told field.form) (settles told field.form) place written found parts.there
    (first, counted_back field found.addend low))
