-- Relocations stand where their fields do, and a field with a value has none.
use Rattle.std.proofs.Common.{◌≡◌, ℕ, ◌+◌, ◌<◌, ◌≤◌, ◌⊎◌, inl, inr, Bool, true, false, cond, List, [], ◌∷◌, All, Option, Some, None, refl, sym, ap, subst, ◌∙◌}
use Rattle.std.specs.Prelude.{◌==◌, option_map, option_and_then}
use Rattle.std.specs.List.{filter_map, cons_option}
use Rattle.std.specs.Option.{option_map_or}
use Rattle.std.proofs.lemmas.List.Elements.{All-nil, All-cons, All-head, All-tail}
use Rattle.std.proofs.lemmas.Option.{none-some}
use Rattle.asm_expr.specs.declared.forms.Term.{Term}
use Rattle.asm_expr.specs.Settled.{settled, constant_by}
use Rattle.asm_frags.specs.declared.fields.Field.{Field}
use Rattle.asm_frags.specs.Fields.{width}
use Rattle.asm_frags.specs.SectionOf.{SectionOf}
use Rattle.asm_symbols.specs.SymbolMap.{SymbolMap}
use Rattle.asm_relax.specs.FieldValues.{counted, told_in_field, held_value}
use Rattle.asm_relax.specs.Settling.{LaidItem, LaidSections}
use Rattle.elf_file.specs.Sections.{no_bits}
use Rattle.elf_object.specs.declared.relocations.Relocation.{Relocation}
use Rattle.elf_object.specs.Relocations.{relocation, reference_by, field_place, field_relocation}
use Rattle.object_laws.specs.FieldTypes.{RelocationsSuitFields}
use Rattle.object_laws.specs.RelocationTypes.{RelocationType}
use Rattle.loaded_laws.specs.Loaded.{relocated_bytes, IsBesideRelocation}
use Rattle.loaded_laws.specs.Beside.{IsLeftAlone, RelocationsBeside, ValuesAreAlone}

module _ (suit : RelocationsSuitFields) (map : SymbolMap) (sections : LaidSections) (number place : ℕ) (section : SectionOf LaidItem) where
  -- beside a field, a byte is beside its relocation
  beside_one : (field : Field) (r : Relocation) → IsLeftAlone map sections number section place field → field_relocation map sections number section field ≡ Some r
      → IsBesideRelocation place r
  beside_one field r (inl none) is = absurd (none-some r (sym none ∙ is))
  beside_one field r (inr beside) is =
      let typed = suit map sections number section field r is in
      let row = typed.0 in
      let long : relocated_bytes r ≡ width field.size =
      ap (λ (found : Option RelocationType). option_map_or (λ (row : RelocationType). row.bytes) found 0) typed.1.numbered ∙ typed.1.suits.bytes in
      subst (λ n. (place < r.offset) ⊎ (r.offset + n ≤ place)) (sym long)
      (subst (λ n. (place < n) ⊎ (n + width field.size ≤ place)) (sym typed.1.place) beside)

module _ {X Y : Type 0} (f : X → Option Y) (Q : X → Type 0) (P : Y → Type 0) (each : (x : X) (y : Y) → Q x → f x ≡ Some y → P y) where
  one_kept : (x : X) (found : Option Y) (later : List Y) → f x ≡ found → Q x → All P later → All P (cons_option found later)
  one_kept x None later is holds all = all
  one_kept x (Some y) later is holds all = All-cons P y later (each x y holds is) all

  all_kept : (xs : List X) → All Q xs → All P (filter_map f xs)
  all_kept [] all = All-nil P
  all_kept (x ∷ xs) all = one_kept x (f x) (filter_map f xs) refl (All-head Q x xs all) (all_kept xs (All-tail Q x xs all))

filed : (test : Bool) (P : Field → Type 0) (fields : List Field) → All P fields → All P (cond test [] fields)
filed true P fields all = All-nil P
filed false P fields all = all

pub relocations_beside : RelocationsSuitFields → RelocationsBeside
relocations_beside suit map sections number place section all =
    all_kept (field_relocation map sections number section) (IsLeftAlone map sections number section place) (IsBesideRelocation place)
    (beside_one suit map sections number place section) _
    (filed (section.kind == no_bits) (IsLeftAlone map sections number section place) section.fields all)

-- a value leaves no terms
module _ (map : SymbolMap) (sections : LaidSections) (number place : ℕ) (field : Field) where
  no_terms : (terms : List Term) (constant value : ℕ) → option_map (counted field.size field.role) (constant_by terms constant) ≡ Some value
      → reference_by map sections number place field terms constant ≡ None
  no_terms [] constant value is = refl
  no_terms (term ∷ terms) constant value is = absurd (none-some value is)

pub values_are_alone : ValuesAreAlone
unfolding held_value field_relocation
values_are_alone map sections number value section field is =
    let form = settled (told_in_field map sections field) field.form in
    let place = field_place section field in
    ap (option_and_then (relocation place field)) (no_terms map sections number place field form.terms form.constant value is)
