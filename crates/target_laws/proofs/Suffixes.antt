-- What may be said behind the targets of branches.
use Rattle.std.proofs.Common.{◌≡◌, ℕ, ◌-◌, ◌^◌, ◌⊎◌, inl, inr, Bool, true, false, cond, List, [], ◌∷◌, map, Option, Some, None, Ok, refl, sym, ap, ◌∙◌, arith}
use Rattle.std.specs.Prelude.{◌||◌, slice_get, option_map, option_and_then}
use Rattle.std.proofs.lemmas.Option.{none-some, same_Some, slice_get-map}
use Rattle.asm_expr.specs.declared.forms.Term.{Term}
use Rattle.asm_expr.specs.Forms.{Form, wrapped}
use Rattle.asm_expr.specs.Coefficients.{times, coefficient, is_cancelled, cancels, IsSettled}
use Rattle.asm_expr.specs.Knowledge.{Told, absent}
use Rattle.asm_expr.specs.Settled.{spot_of, settled, constant_by}
use Rattle.asm_symbols.specs.SymbolMap.{SymbolMap}
use Rattle.asm_frags.specs.declared.fields.Field.{Field}
use Rattle.asm_frags.specs.declared.fields.FieldSize.{FieldSize}
use Rattle.asm_frags.specs.Fields.{own_place}
use Rattle.asm_frags.specs.SectionOf.{SectionOf}
use Rattle.asm_frags.specs.Substituting.{substituted_field}
use Rattle.asm_frags.specs.Writing.{LooseSection}
use Rattle.assigned_forms.specs.Linked.{linked}
use Rattle.x86_insn.specs.declared.amounts.FieldKind.TheVariants.{Branch}
use Rattle.x86_insn.specs.declared.amounts.Suffix.{Suffix}
use Rattle.x86_insn.specs.declared.amounts.Suffix.TheVariants as suffix
use Rattle.item_rows.specs.Links.{leaves_weak, is_suffixed}
use Rattle.asm_relax.specs.FieldValues.{counted, place_label, told_in_field, held_value}
use Rattle.asm_relax.specs.KeptSections.{kept_section, LayoutsKeepSections}
use Rattle.asm_relax.specs.Settling.{LaidItem, LaidSections, unless}
use Rattle.elf_object.specs.declared.faults.ObjectCause.{ObjectCause}
use Rattle.elf_object.specs.declared.references.Reference.{Reference}
use Rattle.elf_object.specs.declared.relocations.Relocation.{Relocation}
use Rattle.elf_object.specs.Faults.{object_fault}
use Rattle.elf_object.specs.FieldRelocations.{IsFiledField, ValuelessFieldsHaveOne}
use Rattle.elf_object.specs.Image.{image_of}
use Rattle.elf_object.specs.Objects.{object_of}
use Rattle.elf_object.specs.Relocations.{kind_by, kind_for, relocation_with, relocation, field_place, final_reference, field_relocation}
use Rattle.asm_place.specs.Instructions.{with_more}
use Rattle.code_laws.specs.Sections.{IsLoadedLater}
use Rattle.target_laws.specs.Targets.{AreExpandable}
use Rattle.target_laws.specs.Rooms.{HoldsTarget, BranchesAreSaid}
use Rattle.target_laws.proofs.Elements.{get_first}
use Rattle.target_laws.proofs.OwnPlaces.{names_own_place}

-- what is known of layouts, of forms and of objects
pub record Facts : Type 0 where
  pub layouts : LayoutsKeepSections
  pub settle : (told : ℕ → Told) (made : Form) → IsSettled told made
  pub valueless : ValuelessFieldsHaveOne

-- A FIELD WITHOUT A VALUE

-- where a symbol counts there are terms
no_constant : (terms : List Term) (n : ℕ) → wrapped (times own_place terms) ≡ 2 ^ 64 - 1 → constant_by terms n ≡ None
no_constant [] n counts = absurd (omega (arith, counts))
no_constant (term ∷ terms) n counts = refl

-- a field whose place is left to the linker has no value
no_value : Facts → (symbols : SymbolMap) (laid : LaidSections) (field : Field) → is_suffixed field.role.suffix ≡ true → coefficient field.form own_place ≡ 2 ^ 64 - 1
    → held_value symbols laid field ≡ None
unfolding held_value told_in_field
no_value facts symbols laid field suffixed counts =
    let told = told_in_field symbols laid field in
    let unknown : told own_place ≡ absent = ap (λ b. cond (b || leaves_weak symbols field.form) absent (place_label laid field)) suffixed in
    let stays : cancels told field.form own_place ≡ false = ap (is_cancelled (map (spot_of told) field.form.terms)) unknown in
    let left : coefficient (settled told field.form) own_place ≡ 2 ^ 64 - 1 =
    (facts.settle told field.form).coefficients own_place ∙ ap (λ b. cond b 0 (coefficient field.form own_place)) stays ∙ counts in
    ap (option_map (counted field.size field.role)) (no_constant (settled told field.form).terms (settled told field.form).constant left)

-- A FIELD WITHOUT A RELOCATION

none_then : (f : Reference → Option Relocation) (found : Option Reference) → ((r : Reference) → f r ≡ None) → option_and_then f found ≡ None
none_then f None none = refl
none_then f (Some r) none = none r

no_relocation : (symbols : SymbolMap) (laid : LaidSections) (number : ℕ) (kept : SectionOf LaidItem) (field : Field)
    → ((relative local : Bool) → kind_for relative field.role local field.size ≡ None) → field_relocation symbols laid number kept field ≡ None
unfolding field_relocation
no_relocation symbols laid number kept field none =
    let place = field_place kept field in
    none_then (relocation place field) (final_reference symbols laid number place field)
    (λ found. ap (option_map (relocation_with place field found)) (none found.relative found.local))

-- there is none for a branch with this suffix
abbrev IsUnsaid : Suffix → Type 0
IsUnsaid said = (relative local : Bool) (size : FieldSize) → kind_by (Some said) relative Branch local size ≡ None

no_fault : (fault : Option ObjectCause) (made object : List ℕ) → unless fault made ≡ Ok object → fault ≡ None
no_fault None made object is = refl
no_fault (Some cause) made object is = absurd (cc)

module _ (facts : Facts) (symbols : SymbolMap) (laid : LaidSections) (number index : ℕ) (sections : List LooseSection) (section : LooseSection) (code object : List ℕ) (field : Field)
    (l : IsLoadedLater symbols laid number sections code) (made : object_of symbols laid ≡ Ok object) (expandable : AreExpandable symbols)
    (there : slice_get sections number ≡ Some section) (field_there : slice_get section.fields index ≡ Some field) (holds : HoldsTarget field) where
  abbrev own : Field
  own = substituted_field (linked symbols) field

  -- the field in the layout
  own_there : slice_get l.kept.fields index ≡ Some own
  own_there =
      let more = l.grows.kept number section there in
      let last = with_more section more.bytes more.fields more.items in
      let got = facts.layouts.section symbols l.later laid number last l.is more.there in
      let kept_is : l.kept ≡ kept_section symbols got.0 last = same_Some l.kept (kept_section symbols got.0 last) (sym l.there ∙ got.1) in
      ap (λ (s : SectionOf LaidItem). slice_get s.fields index) kept_is ∙ slice_get-map (substituted_field (linked symbols)) last.fields index
      ∙ ap (option_map (substituted_field (linked symbols))) (get_first section.fields more.fields index field field_there)

  counts : coefficient own.form own_place ≡ 2 ^ 64 - 1
  counts = ap (λ (f : Form). coefficient (linked symbols f) own_place) holds.form ∙ names_own_place symbols expandable holds.target holds.plain

  filed : IsFiledField laid number index l.kept own
  filed = record { found = l.there; takes_bytes = l.takes_bytes; there = own_there }

  -- with such a suffix it would have neither
  unsaid : (said : Suffix) → field.role.suffix ≡ Some said → IsUnsaid said → ⊥
  unsaid said suffixed none =
      let one = facts.valueless symbols laid number index l.kept own (no_fault (object_fault symbols laid) (image_of symbols laid) object made) filed
      (no_value facts symbols laid own (ap is_suffixed suffixed) counts) in
      let kinds : (relative local : Bool) → kind_for relative own.role local own.size ≡ None =
      λ relative local. ap (λ s. kind_by s relative field.role.kind local field.size) suffixed
      ∙ ap (λ k. kind_by (Some said) relative k local field.size) holds.kind ∙ none relative local field.size in
      none-some one.0 (sym (no_relocation symbols laid number l.kept own kinds) ∙ one.1.says)

  said_by : (said : Option Suffix) → field.role.suffix ≡ said → (field.role.suffix ≡ None) ⊎ (field.role.suffix ≡ Some suffix.Plt)
  said_by None so = inl so
  said_by (Some suffix.Plt) so = inr so
  said_by (Some suffix.GotPcRel) so = absurd (unsaid suffix.GotPcRel so (λ relative local size. refl))
  said_by (Some suffix.GotTpOff) so = absurd (unsaid suffix.GotTpOff so (λ relative local size. refl))
  said_by (Some suffix.TpOff) so = absurd (unsaid suffix.TpOff so (λ relative local size. refl))

pub branches_are_said : Facts → BranchesAreSaid
branches_are_said facts symbols laid number index sections section code object field l made expandable there field_there holds =
    said_by facts symbols laid number index sections section code object field l made expandable there field_there holds field.role.suffix refl
