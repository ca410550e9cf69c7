-- Bytes beside all fields of a section are beside all its relocations in a layout.
use Rattle.std.proofs.Common.{◌≡◌, ℕ, ◌+◌, ◌^◌, ◌<◌, ◌≤◌, ◌⊎◌, inl, inr, Bool, true, false, All, Some, Ok, get_or, refl, sym, subst, arith}
use Rattle.std.specs.Prelude.{slice_get}
use Rattle.asm_symbols.specs.SymbolMap.{SymbolMap}
use Rattle.asm_frags.specs.declared.fields.Field.{Field}
use Rattle.asm_frags.specs.PlainBytes.{field_end, IsBeside}
use Rattle.asm_frags.specs.SectionOf.{SectionOf}
use Rattle.asm_frags.specs.Writing.{LooseSection}
use Rattle.section_laws.specs.Within.{AreBetween, CountsItems, IsWithin}
use Rattle.asm_relax.specs.KeptSections.{LayoutsKeepSections}
use Rattle.asm_relax.specs.Settling.{LaidItem, LaidSections, LooseSections, layout_of}
use Rattle.elf_object.specs.Places.{moved}
use Rattle.loaded_laws.specs.Beside.{IsLeftAlone, HoldsRelocated, RelocationsBeside, FieldsStandBeside, LayoutsKeepCounts, BytesStandBeside}
use Rattle.loaded_laws.proofs.Counts.{kept_is, between_kept}

module _ (layouts : LayoutsKeepSections) (counts : LayoutsKeepCounts) (fields : FieldsStandBeside) (symbols : SymbolMap) (sections : LooseSections) (laid : LaidSections)
    (number item offset : ℕ) (section : LooseSection) (kept : SectionOf LaidItem) (is : layout_of symbols sections ≡ Ok laid)
    (there : slice_get sections number ≡ Some section) (kept_there : slice_get laid number ≡ Some kept) (within : IsWithin section)
    (between : AreBetween section.items item offset (offset + 1)) (beside : All (IsBeside offset (offset + 1)) section.fields)
    (hold : All (HoldsRelocated symbols laid number kept) kept.fields) where
  between_there : AreBetween kept.items item offset (offset + 1)
  between_there =
      let got = kept_is layouts symbols sections laid number section kept is there kept_there in
      subst (λ (s : SectionOf LaidItem). AreBetween s.items item offset (offset + 1)) (sym got.1)
      (between_kept layouts got.0 section.items item offset (offset + 1) between)

  beside_there : All (IsBeside offset (offset + 1)) kept.fields
  beside_there =
      let got = kept_is layouts symbols sections laid number section kept is there kept_there in
      subst (λ (s : SectionOf LaidItem). All (IsBeside offset (offset + 1)) s.fields) (sym got.1) (layouts.beside symbols offset (offset + 1) section.fields beside)

  -- each field leaves the byte alone
  left_alone : (field : Field) → CountsItems kept.fields kept.items field → moved kept.items field.item field.offset < 2 ^ 64 → IsBeside offset (offset + 1) field
      → HoldsRelocated symbols laid number kept field → IsLeftAlone symbols laid number kept (moved kept.items item offset) field
  left_alone field counted low apart holds = by field.in_item refl
    where
      either : IsBeside offset (offset + 1) field → (offset < field.offset) ⊎ (field_end field ≤ offset)
      either (inl ends) = inr ends
      either (inr begins) = inl (omega (arith, begins))

      by : (in_item : Bool) → field.in_item ≡ in_item → IsLeftAlone symbols laid number kept (moved kept.items item offset) field
      by false plain =
          inr (fields.plain kept field item offset (layouts.placed symbols sections laid number kept is kept_there) counted low plain between_there (either apart))
      by true in_item = elim (holds in_item) [
        | inl none ↦ inl none
        | inr long ↦
            inr (fields.inside kept field item offset (layouts.placed symbols sections laid number kept is kept_there) counted low in_item long between_there)
      ]

  all_left_alone : All (IsLeftAlone symbols laid number kept (moved kept.items item offset)) kept.fields
  all_left_alone = λ k d few.
      left_alone (get_or kept.fields k d) (counts.counted symbols sections laid number section kept is there kept_there within k d few)
      (counts.low symbols sections laid number section kept is there kept_there within k d few) (beside_there k d few) (hold k d few)

pub bytes_stand_beside : LayoutsKeepSections → LayoutsKeepCounts → FieldsStandBeside → RelocationsBeside → BytesStandBeside
bytes_stand_beside layouts counts fields relocations symbols sections laid number item offset section kept is there kept_there within between beside hold =
    relocations symbols laid number (moved kept.items item offset) kept
    (all_left_alone layouts counts fields symbols sections laid number item offset section kept is there kept_there within between beside hold)
