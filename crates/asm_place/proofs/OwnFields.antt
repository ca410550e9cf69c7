-- Each field of a section is its own, and holds a target where it is a jump's, whatever is put into sections and whichever are entered.
use Rattle.std.proofs.Common.{◌≡◌, ◌≢◌, ℕ, zero, suc, ◌≤◌, ◌⊎◌, inl, inr, List, [], ◌∷◌, ◌++◌, All, Option, None, Some, Result, Ok, Err, set, slice_get, refl, sym, ap, subst, ◌∙◌}
use Rattle.std.specs.Prelude.{codes}
use Rattle.std.proofs.lemmas.Option.{none-some, same_Some}
use Rattle.std.proofs.lemmas.List.Elements.{All-nil, All-push, All-weaker}
use Rattle.asm_base.specs.declared.causes.FragCause.{FragCause}
use Rattle.asm_base.specs.declared.positions.Pos.{Pos}
use Rattle.asm_declarations.specs.SectionChanges.{entered_as}
use Rattle.asm_declarations.specs.declared.section_changes.Header.{Header}
use Rattle.asm_expr.specs.Forms.{Form}
use Rattle.asm_frags.specs.declared.fields.Field.{Field}
use Rattle.asm_frags.specs.declared.fields.FieldSize.{FieldSize}
use Rattle.asm_frags.specs.declared.roles.FieldRole.{FieldRole}
use Rattle.asm_frags.specs.Fields.{growth_role}
use Rattle.asm_frags.specs.SectionOf.{new_section}
use Rattle.asm_frags.specs.Sections.{section_flags, first_sections, with_section_or_fault, put_into_there}
use Rattle.asm_frags.specs.Writing.{LooseSection, with_bytes, with_field, with_growing}
use Rattle.asm_operands.specs.LayerFaults.{of_sections}
use Rattle.item_contents.specs.declared.kinds.Growth.{Growth}
use Rattle.x86_insn.specs.declared.amounts.FieldKind.TheVariants.{Branch}
use Rattle.x86_insn.specs.declared.amounts.Suffix.{Suffix}
use Rattle.asm_place.specs.SymbolPlaces.{HoldsTarget, IsOwnField, FieldsAreOwn}
use Rattle.asm_place.proofs.EnteredSections.{IsEntered, as_entered}
use Rattle.asm_place.proofs.GrowthLemmas.{same_or_not, get_set, get_set_other, run_keeps}
use Rattle.asm_place.proofs.NamedSymbols.{up_to_more}
use Rattle.asm_place.proofs.Walks.{Fine, made, refused, weaker}

-- where more symbols may be named, a target names none above the number either
target_more : (last more : ℕ) → last ≤ more → (form : Form) → HoldsTarget last form → HoldsTarget more form
target_more last more le form holds = record { target = holds.target; form_is = holds.form_is; named = up_to_more last more holds.target.terms le holds.named }

pub fields_more : (last more : ℕ) → last ≤ more → (sections : List LooseSection) → FieldsAreOwn last sections → FieldsAreOwn more sections
fields_more last more le sections own = λ number section there.
    All-weaker (IsOwnField last number) (IsOwnField more number)
    (λ field is. record { own = is.own; target = λ in_item branch. target_more last more le field.form (is.target in_item branch) }) section.fields (own number section there)

-- the first sections have no fields
first_fields : (number : ℕ) (section : LooseSection) → slice_get first_sections number ≡ Some section → section.fields ≡ []
unfolding first_sections
first_fields zero section there = sym (ap (λ (s : LooseSection). s.fields) (same_Some (new_section (codes ".text") (section_flags 6) 1 0) section there))
first_fields (suc zero) section there = sym (ap (λ (s : LooseSection). s.fields) (same_Some (new_section (codes ".data") (section_flags 3) 1 0) section there))
first_fields (suc (suc zero)) section there = sym (ap (λ (s : LooseSection). s.fields) (same_Some (new_section (codes ".bss") (section_flags 3) 8 0) section there))
first_fields (suc (suc (suc number))) section there = absurd (none-some section there)

pub fields_begin : (last : ℕ) → FieldsAreOwn last first_sections
fields_begin last = λ number section there. subst (All (IsOwnField last number)) (sym (first_fields number section there)) (All-nil (IsOwnField last number))

module _ (last : ℕ) where
  -- fields are own where they were
  abbrev pub KeepsFields : List LooseSection → List LooseSection → Type 0
  KeepsFields before after = FieldsAreOwn last before → FieldsAreOwn last after

  -- the fields of a section of this number are, where they were
  abbrev pub KeepsOwn : ℕ → LooseSection → LooseSection → Type 0
  KeepsOwn number section new = All (IsOwnField last number) section.fields → All (IsOwnField last number) new.fields

  -- WHAT IS PUT

  set_fields : (before : List LooseSection) (number : ℕ) (section new : LooseSection) → slice_get before number ≡ Some section → KeepsOwn number section new
      → KeepsFields before (set before number new)
  set_fields before number section new there keeps own = λ other found at. elim (same_or_not number other) [
    | inl same ↦
        let is : new ≡ found = same_Some new found (sym (get_set before number section new there) ∙ (ap (slice_get (set before number new)) (sym same) ∙ at)) in
        subst (λ (n : ℕ). All (IsOwnField last n) found.fields) (sym same)
        (subst (λ (s : LooseSection). All (IsOwnField last number) s.fields) is (keeps (own number section there)))
    | inr apart ↦ own other found (sym (get_set_other before number other new apart) ∙ at)
  ]

  put_fields : (sections : List LooseSection) (number : ℕ) (section : LooseSection) (new : Result LooseSection FragCause) → slice_get sections number ≡ Some section
      → Fine (KeepsOwn number section) new → Fine (KeepsFields sections) (of_sections (with_section_or_fault sections number new))
  put_fields sections number section (Ok new) there keeps = made _ (set_fields sections number section new there keeps.holds)
  put_fields sections number section (Err fault) there keeps = refused _

  -- the section of a number, if it is there
  pub there_fields : (put : LooseSection → Result LooseSection FragCause) (sections : List LooseSection) (number : ℕ) (found : Option LooseSection) → slice_get sections number ≡ found
      → ((section : LooseSection) → Fine (KeepsOwn number section) (put section)) → Fine (KeepsFields sections) (of_sections (put_into_there put sections number found))
  there_fields put sections number None there puts = refused _
  there_fields put sections number (Some section) there puts = put_fields sections number section (put section) there (puts section)

  -- fields that are the same are own
  kept_by : (number : ℕ) (section new : LooseSection) → new.fields ≡ section.fields → KeepsOwn number section new
  kept_by number section new same own = subst (All (IsOwnField last number)) (sym same) own

  -- bytes
  pub bytes_own : (pos : Pos) (number : ℕ) (bytes : List ℕ) (section : LooseSection) → KeepsOwn number section (with_bytes pos bytes section)
  bytes_own pos number bytes section = kept_by number section (with_bytes pos bytes section) (run_keeps (λ s. s.fields) pos section refl)

  -- a field more, which is own
  pushed_own : (number : ℕ) (section new : LooseSection) (field : Field) → new.fields ≡ section.fields ++ field ∷ [] → IsOwnField last number field → KeepsOwn number section new
  pushed_own number section new field is one own = subst (All (IsOwnField last number)) (sym is) (All-push (IsOwnField last number) section.fields field own one)

  -- a field over plain bytes
  pub field_own : (pos : Pos) (number : ℕ) (size : FieldSize) (role : FieldRole) (form : Form) (section : LooseSection)
      → KeepsOwn number section (with_field pos number size role form section)
  field_own pos number size role form section = pushed_own number section (with_field pos number size role form section) _ refl (record { own = refl; target = λ in_item branch. absurd cc })

  -- one in an item that grows: where that is a jump, it holds a target
  pub growing_own : (pos : Pos) (number : ℕ) (kind : Growth) (suffix : Option Suffix) (form : Form) (section : LooseSection)
      → ((growth_role kind suffix).kind ≡ Branch → HoldsTarget last form) → KeepsOwn number section (with_growing pos number kind suffix form section)
  growing_own pos number kind suffix form section target =
      pushed_own number section (with_growing pos number kind suffix form section) _ refl (record { own = refl; target = λ in_item branch. target branch })

  -- SECTIONS THAT ARE ENTERED

  -- behind a section more there is it, and each that was there
  last_or_before : (xs : List LooseSection) (x : LooseSection) (n : ℕ) (y : LooseSection) → slice_get (xs ++ x ∷ []) n ≡ Some y → (slice_get xs n ≡ Some y) ⊎ (x ≡ y)
  last_or_before [] x zero y there = inr (same_Some x y there)
  last_or_before [] x (suc n) y there = absurd (none-some y there)
  last_or_before (z ∷ xs) x zero y there = inl there
  last_or_before (z ∷ xs) x (suc n) y there = last_or_before xs x n y there

  more_fields : (before : List LooseSection) (new : LooseSection) → new.fields ≡ [] → KeepsFields before (before ++ new ∷ [])
  more_fields before new none own = λ number section there. elim (last_or_before before new number section there) [
    | inl was ↦ own number section was
    | inr same ↦ subst (λ (s : LooseSection). All (IsOwnField last number) s.fields) same (subst (All (IsOwnField last number)) (sym none) (All-nil (IsOwnField last number)))
  ]

  -- a new section has none, and where the section is there already nothing comes
  pub is_fields : (sections : List LooseSection) (pair : List LooseSection × ℕ) → IsEntered sections pair → KeepsFields sections pair.0
  is_fields sections pair is = elim is [
    | inl old ↦ subst (KeepsFields sections) (sym old.same) (λ own. own)
    | inr new ↦ subst (KeepsFields sections) (sym new.last) (more_fields sections new.section new.fields)
  ]

  -- by its name
  pub entered_fields : (sections : List LooseSection) (name : List ℕ) (header : Header) → header.kind ≢ 17 → Fine (λ pair. KeepsFields sections pair.0) (entered_as sections name header)
  entered_fields sections name header other = weaker (as_entered sections name header (λ all. other)) (λ pair is. is_fields sections pair is)
