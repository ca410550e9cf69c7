-- Fields count the items of a section in each layout.
use Rattle.std.proofs.Common.{◌≡◌, ℕ, zero, suc, ◌^◌, ◌<◌, ◌≤◌, List, [], ◌∷◌, All, Some, Ok, length, get_or, refl, sym, ap, subst, ◌∙◌, arith}
use Rattle.std.specs.Prelude.{map, slice_get, option_map, drop}
use Rattle.std.proofs.lemmas.List.{length-map}
use Rattle.std.proofs.lemmas.List.Elements.{All-map, All-head, All-tail}
use Rattle.std.proofs.lemmas.Option.{none-some, same_Some, slice_get-map}
use Rattle.asm_symbols.specs.SymbolMap.{SymbolMap}
use Rattle.asm_frags.specs.declared.fields.Field.{Field}
use Rattle.asm_frags.specs.PlainBytes.{field_end}
use Rattle.asm_frags.specs.SectionOf.{SectionOf}
use Rattle.asm_frags.specs.Addresses.{item_laid_at}
use Rattle.asm_frags.specs.Substituting.{substituted_field, laid_item}
use Rattle.asm_frags.specs.Writing.{LooseItem, LooseSection}
use Rattle.assigned_forms.specs.Linked.{linked}
use Rattle.section_laws.specs.Within.{AreBetween, CountsItems, IsWithin}
use Rattle.asm_relax.specs.KeptSections.{kept_section, kept_items, kept_fields, IsSmall, LayoutsKeepSections}
use Rattle.asm_relax.specs.Layout.{laid_from}
use Rattle.asm_relax.specs.Settling.{LaidItem, LaidSections, LooseSections, layout_of}
use Rattle.elf_object.specs.Places.{moved}
use Rattle.loaded_laws.specs.Beside.{LayoutsKeepCounts}
use Rattle.loaded_laws.proofs.Shifts.{places_low}

-- a section keeps its number of items
laid_long : (shifts : List ℕ) (items : List LaidItem) → length (laid_from shifts items) ≡ length items
laid_long shifts [] = refl
laid_long shifts (item ∷ items) = let later = laid_long (drop 1 shifts) items in omega (arith, later)

all_there : {X : Type 0} (P : X → Type 0) (xs : List X) (i : ℕ) (x : X) → slice_get xs i ≡ Some x → All P xs → P x
all_there P [] i x there all = absurd (none-some x there)
all_there P (y ∷ xs) zero x there all = subst P (same_Some y x there) (All-head P y xs all)
all_there P (y ∷ xs) (suc i) x there all = all_there P xs i x there (All-tail P y xs all)

module _ (layouts : LayoutsKeepSections) where
  -- items stand before and after the same bytes
  pub between_kept : (own : List ℕ) (items : List LooseItem) (count from to : ℕ) → AreBetween items count from to → AreBetween (kept_items own items) count from to
  between_kept own items count from to between = record {
    enough = let few = between.enough in omega (arith, few, laid_long own (map laid_item items), length-map items laid_item);
    before = layouts.first from count items own between.before;
    after = layouts.others to count items own between.after;
  }

  -- a field counts them as it did
  count_kept : (symbols : SymbolMap) (own : List ℕ) (fields : List Field) (items : List LooseItem) (field : Field) → CountsItems fields items field
      → CountsItems (kept_fields symbols fields) (kept_items own items) (substituted_field (linked symbols) field)
  count_kept symbols own fields items field counts = record {
    between = between_kept own items field.item field.offset (field_end field) counts.between;
    inside = λ in_item.
        let is = counts.inside in_item in
        let got = layouts.item items own is.index is.item is.item_there in
        record {
          index = is.index;
          next = is.next;
          item = item_laid_at got.0 got.1 (laid_item is.item);
          item_there = got.2;
          offset = is.offset;
          number = is.number;
          field_there = slice_get-map (substituted_field (linked symbols)) fields is.number ∙ ap (option_map (substituted_field (linked symbols))) is.field_there;
          growth = is.growth;
          content = is.content;
          suffix = is.suffix;
          role = is.role;
          size = is.size;
        };
  }

  module _ (symbols : SymbolMap) (sections : LooseSections) (laid : LaidSections) (number : ℕ) (section : LooseSection) (kept : SectionOf LaidItem)
      (is : layout_of symbols sections ≡ Ok laid) (there : slice_get sections number ≡ Some section) (kept_there : slice_get laid number ≡ Some kept) where
    -- the section as it is laid out
    pub kept_is : (own : List ℕ) × (kept ≡ kept_section symbols own section)
    kept_is = let got = layouts.section symbols sections laid number section is there in (got.0, same_Some _ _ (sym kept_there ∙ got.1))

    counted_kept : IsWithin section → All (CountsItems kept.fields kept.items) kept.fields
    counted_kept within =
        let own = kept_is.0 in
        subst (λ (s : SectionOf LaidItem). All (CountsItems s.fields s.items) s.fields) (sym kept_is.1)
        (All-map (CountsItems (kept_fields symbols section.fields) (kept_items own section.items)) (substituted_field (linked symbols)) section.fields
        (λ k d low. count_kept symbols own section.fields section.items (get_or section.fields k d) (within.counted k d low)))

    -- a place within the section is low
    low_kept : (count offset : ℕ) → count ≤ length kept.items → offset ≤ length section.bytes → moved kept.items count offset < 2 ^ 64
    low_kept count offset few inside =
        places_low kept count offset (layouts.placed symbols sections laid number kept is kept_there)
        (all_there IsSmall laid number kept kept_there (layouts.small symbols sections laid is)).size few
        (subst (λ (s : SectionOf LaidItem). offset ≤ length s.bytes) (sym kept_is.1) inside)

    fields_low : IsWithin section → All (λ field. moved kept.items field.item field.offset < 2 ^ 64) kept.fields
    fields_low within =
        subst (λ (fields : List Field). All (λ (field : Field). moved kept.items field.item field.offset < 2 ^ 64) fields)
        (ap (λ (s : SectionOf LaidItem). s.fields) (sym kept_is.1))
        (All-map (λ (field : Field). moved kept.items field.item field.offset < 2 ^ 64) (substituted_field (linked symbols)) section.fields
        (λ k d low.
        let field = get_or section.fields k d in
        let few = (within.counted k d low).between.enough in
        let ends = within.fields k d low in
        let long = ap (λ (s : SectionOf LaidItem). length s.items) kept_is.1 in
        low_kept field.item field.offset (omega (arith, few, long, laid_long kept_is.0 (map laid_item section.items), length-map section.items laid_item)) (omega (arith, ends))))

pub layouts_keep_counts : LayoutsKeepSections → LayoutsKeepCounts
layouts_keep_counts layouts = record {
  counted = λ symbols sections laid number section kept is there kept_there within. counted_kept layouts symbols sections laid number section kept is there kept_there within;
  low = λ symbols sections laid number section kept is there kept_there within. fields_low layouts symbols sections laid number section kept is there kept_there within;
}
