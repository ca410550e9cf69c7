-- What a layout keeps of a section: the offsets of its items, and where its fields stand.
use Rattle.std.proofs.Common.{◌≡◌, ℕ, zero, suc, ◌+◌, ◌-◌, ◌≤◌, List, [], ◌∷◌, Option, Some, None, Ok, refl, sym, ap, subst, ◌∙◌}
use Rattle.std.proofs.lemmas.List.Elements.{All-nil, All-cons, All-head, All-tail}
use Rattle.std.specs.Prelude.{map, option_map, take, drop, slice_get, slice_index, All}
use Rattle.std.proofs.lemmas.Option.{none-some, same_Some, slice_get-map, slice_get_within, get_or_from_slice_get}
use Rattle.asm_symbols.specs.SymbolMap.{SymbolMap}
use Rattle.asm_expr.specs.Forms.{Form}
use Rattle.asm_frags.specs.declared.fields.Field.{Field}
use Rattle.asm_frags.specs.PlainBytes.{field_end, IsBeside, FieldsStand}
use Rattle.asm_frags.specs.Writing.{LooseItem, LooseSection}
use Rattle.asm_frags.specs.SectionOf.{SectionOf}
use Rattle.asm_frags.specs.Addresses.{item_laid_at}
use Rattle.asm_frags.specs.Substituting.{substituted_field, laid_item, laid_section}
use Rattle.asm_levels.specs.Shifts.{shifts_of}
use Rattle.assigned_forms.specs.Linked.{linked}
use Rattle.asm_relax.specs.Faults.{or_later, first_of}
use Rattle.asm_relax.specs.RangeChecks.{large_section, section_back, section_misfit, first_fault}
use Rattle.item_rows.specs.ItemRows.{row_count, rows_of, levels_of}
use Rattle.asm_relax.specs.KeptSections.{IsSmall, kept_section, kept_items, LayoutsKeepSections}
use Rattle.asm_relax.specs.Layout.{laid_out_section, laid_out, laid_by, AreSized}
use Rattle.asm_relax.specs.Placing.{placed_section}
use Rattle.asm_relax.specs.Settling.{LaidItem, LooseSections, LaidSections, planned, unless, settled_sections, layout_of}
use Rattle.asm_relax.proofs.LowPlaceLemmas.{not_large}

-- what an answer without a fault holds
unless_is : {A E : Type 0} (fault : Option E) (made answer : A) → unless fault made ≡ Ok answer → answer ≡ made
unless_is None made answer e = cc
unless_is (Some fault) made answer e = absurd cc

layout_is : (symbols : SymbolMap) (sections : LooseSections) (laid : LaidSections) → layout_of symbols sections ≡ Ok laid
    → laid ≡ settled_sections symbols (planned symbols sections)
layout_is symbols sections laid e =
    unless_is (first_fault symbols (settled_sections symbols (planned symbols sections))) (settled_sections symbols (planned symbols sections)) laid e

-- where there is an answer there is no fault
no_fault : {A E : Type 0} (fault : Option E) (made answer : A) → unless fault made ≡ Ok answer → fault ≡ None
no_fault None made answer e = refl
no_fault (Some fault) made answer e = absurd cc

-- neither the one fault nor the later one
neither : {E : Type 0} (one later : Option E) → or_later one later ≡ None → (one ≡ None) × (later ≡ None)
neither None later none = (refl, none)
neither (Some fault) later none = absurd cc

-- sections without this fault are not too large
all_small : (sections : LaidSections) → first_of large_section sections ≡ None → All IsSmall sections
unfolding first_of
all_small [] none = All-nil IsSmall
all_small (section ∷ sections) none =
    let parts = neither (large_section section) (first_of large_section sections) none in
    All-cons IsSmall section sections (record { size = not_large section parts.0 }) (all_small sections parts.1)

laid_small : (symbols : SymbolMap) (sections : LooseSections) (laid : LaidSections) → layout_of symbols sections ≡ Ok laid → All IsSmall laid
unfolding first_fault
laid_small symbols sections laid e =
    let settled = settled_sections symbols (planned symbols sections) in
    let none : first_fault symbols settled ≡ None = no_fault (first_fault symbols settled) settled laid e in
    let large = neither (first_of large_section settled) (or_later (first_of section_back settled) (first_of (section_misfit symbols settled) settled)) none in
    subst (All IsSmall) (sym (layout_is symbols sections laid e)) (all_small settled large.0)

-- the section that is laid out, by the shifts of its own rows
laid_get : (shifts : List ℕ) (sections : LaidSections) (n : ℕ) (section : SectionOf LaidItem) → slice_get sections n ≡ Some section
    → (own : List ℕ) × (slice_get (laid_out shifts sections) n ≡ Some (laid_out_section own section))
laid_get shifts [] n section there = absurd (none-some section there)
laid_get shifts (one ∷ sections) zero section there = let same : one ≡ section = same_Some one section there in (shifts, rw same refl)
laid_get shifts (one ∷ sections) (suc n) section there = laid_get (drop (row_count one) shifts) sections n section there

section_kept : (symbols : SymbolMap) (sections : LooseSections) (laid : LaidSections) (n : ℕ) (section : LooseSection) → layout_of symbols sections ≡ Ok laid
    → slice_get sections n ≡ Some section → (own : List ℕ) × (slice_get laid n ≡ Some (kept_section symbols own section))
unfolding planned settled_sections laid_by
section_kept symbols sections laid n section e there =
    let all = planned symbols sections in
    let substituted = laid_section (linked symbols) in
    let planned_there : slice_get all n ≡ Some (substituted section) = slice_get-map substituted sections n ∙ ap (option_map substituted) there in
    let got = laid_get (shifts_of (rows_of symbols all) (levels_of (rows_of symbols all))) all n (substituted section) planned_there in
    (got.0, ap (λ (found : LaidSections). slice_get found n) (layout_is symbols sections laid e) ∙ got.1)

-- the first item, laid out
abbrev first_laid : LooseItem → List ℕ → LaidItem
first_laid item shifts = item_laid_at (item.offset + slice_index shifts 0) (slice_index shifts 1 - slice_index shifts 0) (laid_item item)

module _ (Holds : ℕ → Type 0) where
  abbrev Loose_holds : LooseItem → Type 0
  Loose_holds item = Holds item.offset

  abbrev Laid_holds : LaidItem → Type 0
  Laid_holds item = Holds item.offset

  -- what is true of the offset of each item stays true where the items are laid out
  offsets_kept : (items : List LooseItem) (shifts : List ℕ) → All Loose_holds items → All Laid_holds (kept_items shifts items)
  offsets_kept [] shifts all = All-nil Laid_holds
  offsets_kept (item ∷ items) shifts all =
      All-cons Laid_holds (first_laid item shifts) (kept_items (drop 1 shifts) items) (All-head Loose_holds item items all)
      (offsets_kept items (drop 1 shifts) (All-tail Loose_holds item items all))

  -- so it does of the first items
  first_kept : (count : ℕ) (items : List LooseItem) (shifts : List ℕ) → All Loose_holds (take count items) → All Laid_holds (take count (kept_items shifts items))
  first_kept zero items shifts all = All-nil Laid_holds
  first_kept (suc count) [] shifts all = All-nil Laid_holds
  first_kept (suc count) (item ∷ items) shifts all =
      All-cons Laid_holds (first_laid item shifts) (take count (kept_items (drop 1 shifts) items)) (All-head Loose_holds item (take count items) all)
      (first_kept count items (drop 1 shifts) (All-tail Loose_holds item (take count items) all))

  -- and of the others
  others_kept : (count : ℕ) (items : List LooseItem) (shifts : List ℕ) → All Loose_holds (drop count items) → All Laid_holds (drop count (kept_items shifts items))
  others_kept zero items shifts all = offsets_kept items shifts all
  others_kept (suc count) [] shifts all = All-nil Laid_holds
  others_kept (suc count) (item ∷ items) shifts all = others_kept count items (drop 1 shifts) all

module _ (substitute : Form → Form) where
  beside_kept : (from to : ℕ) (fields : List Field) → All (IsBeside from to) fields → All (IsBeside from to) (map (substituted_field substitute) fields)
  beside_kept from to [] all = All-nil (IsBeside from to)
  beside_kept from to (field ∷ fields) all =
      All-cons (IsBeside from to) (substituted_field substitute field) (map (substituted_field substitute) fields) (All-head (IsBeside from to) field fields all)
      (beside_kept from to fields (All-tail (IsBeside from to) field fields all))

  stand_kept : (bytes : List ℕ) (from : ℕ) (fields : List Field) → FieldsStand bytes from fields → FieldsStand bytes from (map (substituted_field substitute) fields)
  stand_kept bytes from [] stand = tt
  stand_kept bytes from (field ∷ fields) stand =
      (stand.0, record { within = stand.1.within; zeros = stand.1.zeros }, stand_kept bytes (field_end field) fields stand.2)

item_kept : (items : List LooseItem) (shifts : List ℕ) (index : ℕ) (item : LooseItem) → slice_get items index ≡ Some item
    → (address : ℕ) × (size : ℕ) × (slice_get (kept_items shifts items) index ≡ Some (item_laid_at address size (laid_item item)))
item_kept [] shifts index item there = absurd (none-some item there)
item_kept (one ∷ items) shifts zero item there =
    let same : one ≡ item = same_Some one item there in
    ((laid_item one).offset + slice_index shifts 0, slice_index shifts 1 - slice_index shifts 0, rw same refl)
item_kept (one ∷ items) shifts (suc index) item there = item_kept items (drop 1 shifts) index item there

module _ (placed : (symbols : SymbolMap) (sections : LaidSections) → map placed_section (settled_sections symbols sections) ≡ settled_sections symbols sections)
    (sized : (symbols : SymbolMap) (sections : LaidSections) → All (λ section. AreSized section.items) (settled_sections symbols sections)) where
  module _ (symbols : SymbolMap) (sections : LooseSections) (laid : LaidSections) (n : ℕ) (kept : SectionOf LaidItem) (e : layout_of symbols sections ≡ Ok laid)
      (there : slice_get laid n ≡ Some kept) where
    laid_placed : placed_section kept ≡ kept
    laid_placed =
        let is = layout_is symbols sections laid e in
        let stay : map placed_section laid ≡ laid = ap (map placed_section) is ∙ placed symbols (planned symbols sections) ∙ sym is in
        same_Some (placed_section kept) kept
        (ap (option_map placed_section) (sym there) ∙ sym (slice_get-map placed_section laid n) ∙ ap (λ (all : LaidSections). slice_get all n) stay ∙ there)

    laid_sized : AreSized kept.items
    laid_sized =
        let is = layout_is symbols sections laid e in
        let all : All (λ section. AreSized section.items) laid =
        subst (λ (found : LaidSections). All (λ section. AreSized section.items) found) (sym is) (sized symbols (planned symbols sections)) in
        subst (λ (section : SectionOf LaidItem). AreSized section.items) (get_or_from_slice_get laid n kept kept there) (all n kept (slice_get_within laid n kept there))

  pub sections_are_kept : LayoutsKeepSections
  sections_are_kept = record {
    settled = layout_is;
    small = laid_small;
    section = section_kept;
    placed = laid_placed;
    sized = laid_sized;
    item = item_kept;
    up_to = λ bound. offsets_kept (λ at. at ≤ bound);
    first = λ bound. first_kept (λ at. at ≤ bound);
    others = λ bound. others_kept (λ at. bound ≤ at);
    beside = λ symbols. beside_kept (linked symbols);
    stand = λ symbols. stand_kept (linked symbols);
  }
