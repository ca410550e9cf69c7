-- Where fields and items stand within their bytes, nothing of a layout is far behind: no section of it is too large.
use Rattle.std.proofs.Common.{◌≡◌, ℕ, zero, suc, ◌+◌, ◌-◌, ◌^◌, ◌<◌, ◌≤◌, inl, inr, List, [], ◌∷◌, All, Option, Ok, map, length, drop, refl, sym, ap, ◌∙◌, subst, arith}
use Rattle.std.specs.Prelude.{slice_get, slice_index}
use Rattle.std.specs.Option.{option_map_or}
use Rattle.std.proofs.lemmas.Bool.{cases_lt}
use Rattle.std.proofs.lemmas.List.Elements.{All-nil, All-cons, All-head, All-tail, All-weaker}
use Rattle.std.proofs.lemmas.Grind.{get_or_default_zero}
use Rattle.std.proofs.lemmas.List.{get_or-drop}
use Rattle.asm_expr.specs.Forms.{Form}
use Rattle.asm_symbols.specs.SymbolMap.{SymbolMap}
use Rattle.asm_frags.specs.Addresses.{item_laid_at}
use Rattle.asm_frags.specs.Substituting.{laid_item, laid_section, laid_sections}
use Rattle.asm_frags.specs.Writing.{LooseItem, LooseSection}
use Rattle.assigned_forms.specs.Linked.{linked}
use Rattle.asm_frags.specs.SectionOf.{SectionOf}
use Rattle.asm_levels.specs.Shifts.{shifts_of}
use Rattle.item_rows.specs.ItemRows.{row_count, all_rows, rows_of, levels_of}
use Rattle.asm_relax.specs.ItemValues.{AreLow}
use Rattle.asm_relax.specs.KeptSections.{IsSmall, LayoutsKeepSections}
use Rattle.asm_relax.specs.RangeChecks.{end_shift}
use Rattle.asm_relax.specs.Layout.{laid_from, laid_out_section, laid_out, laid_by}
use Rattle.asm_relax.specs.RisingRows.{Rise, AllRise}
use Rattle.asm_relax.specs.Settling.{LaidItem, LaidSections, planned, settled_sections, layout_of}
use Rattle.section_laws.specs.Within.{IsWithin, AreWithin}
use Rattle.place_laws.specs.Low.{LayoutsAreLow}

-- behind another item the last one is the same
last_behind : (first next : LaidItem) (items : List LaidItem) → end_shift (first ∷ next ∷ items) ≡ end_shift (next ∷ items)
last_behind first next items =
    let one : length (first ∷ next ∷ items) - 1 ≡ suc (length items) = omega arith in
    let other : length (next ∷ items) - 1 ≡ length items = omega arith in
    let moved : Option LaidItem → ℕ = λ found. option_map_or (λ item. item.address + item.size - item.offset) found 0 in
    ap (λ n. moved (slice_get (first ∷ next ∷ items) n)) one ∙ sym (ap (λ n. moved (slice_get (next ∷ items) n)) other)

-- behind the first shift stand the others
next_shift : (shifts : List ℕ) (index : ℕ) → slice_index (drop 1 shifts) index ≡ slice_index shifts (suc index)
next_shift [] index = refl
next_shift (shift ∷ shifts) index = refl

-- the item, laid out by the first shifts
abbrev first_laid : List ℕ → LaidItem → LaidItem
first_laid shifts item = item_laid_at (item.offset + slice_index shifts 0) (slice_index shifts 1 - slice_index shifts 0) item

-- the row behind the last item is moved as far
last_moves : (first : LaidItem) (items : List LaidItem) (shifts : List ℕ) → Rise shifts (first ∷ items)
    → end_shift (laid_from shifts (first ∷ items)) ≡ slice_index shifts (suc (length items))
last_moves first [] shifts rise =
    let up = rise.0 in
    let end : first.offset + slice_index shifts 0 + (slice_index shifts 1 - slice_index shifts 0) - first.offset ≡ slice_index shifts 1 = omega (arith, up) in
    end
last_moves first (next ∷ items) shifts rise =
    last_behind (first_laid shifts first) (first_laid (drop 1 shifts) next) (laid_from (drop 1 (drop 1 shifts)) items) ∙ (last_moves next items (drop 1 shifts) rise.1 ∙ next_shift shifts (suc (length items)))

-- and so is the one behind all items
end_moves : (items : List LaidItem) (shifts : List ℕ) → slice_index shifts 0 ≡ 0 → Rise shifts items → end_shift (laid_from shifts items) ≡ slice_index shifts (length items)
end_moves [] shifts start rise = sym start
end_moves (item ∷ items) shifts start rise = last_moves item items shifts rise

-- no row of a section is moved more than that
rises : (items : List LaidItem) (shifts : List ℕ) → Rise shifts items → (index : ℕ) → index ≤ length items → slice_index shifts index ≤ slice_index shifts (length items)
rises [] shifts rise zero le = omega arith
rises [] shifts rise (suc index) le = absurd (omega (arith, le))
rises (item ∷ items) shifts rise zero le =
    let up = rise.0 in
    let deep = rises items (drop 1 shifts) rise.1 zero (omega arith) in
    let first = next_shift shifts 0 in
    let last = next_shift shifts (length items) in
    omega (arith, up, deep, first, last)
rises (item ∷ items) shifts rise (suc index) le =
    let deep = rises items (drop 1 shifts) rise.1 index (omega (arith, le)) in
    let first = next_shift shifts index in
    let last = next_shift shifts (length items) in
    omega (arith, deep, first, last)

-- all rows are moved by less than 2^64
rows_low : (sections : LaidSections) (shifts : List ℕ) → AllRise shifts sections → All IsSmall (laid_out shifts sections) → (index : ℕ) → index < all_rows sections
    → slice_index shifts index < 2 ^ 64
rows_low [] shifts rise low index few = absurd (omega (arith, few))
rows_low (section ∷ sections) shifts rise low index few = elim (cases_lt index (row_count section)) [
  | inl own ↦
      (let small : length section.bytes + end_shift (laid_from shifts section.items) ≤ 2 ^ 30 =
      (All-head IsSmall (laid_out_section shifts section) (laid_out (drop (row_count section) shifts) sections) low).size in
      let end = end_moves section.items shifts rise.0 rise.1 in
      let up = rises section.items shifts rise.1 index (omega (arith, own)) in
      omega (arith, small, end, up))
  | inr past ↦
      (let rest = All-tail IsSmall (laid_out_section shifts section) (laid_out (drop (row_count section) shifts) sections) low in
      let deep = rows_low sections (drop (row_count section) shifts) rise.2 rest (index - row_count section) (omega (arith, past, few)) in
      let place : row_count section + (index - row_count section) ≡ index = omega (arith, past) in
      let same : slice_index shifts index ≡ slice_index (drop (row_count section) shifts) (index - row_count section) =
      sym (ap (slice_index shifts) place) ∙ sym (get_or-drop (row_count section) shifts (index - row_count section) 0) in
      omega (arith, deep, same))
]

-- THE OFFSETS

-- an item of a section stands behind few plain bytes
abbrev LooseLow : LooseSection → Type 0
LooseLow section = All (λ item. item.offset < 2 ^ 64) section.items

loose_low : (substitute : Form → Form) (sections : List LooseSection) (shifts : List ℕ) → All IsWithin sections → All IsSmall (laid_out shifts (laid_sections substitute sections))
    → All LooseLow sections
loose_low substitute [] shifts within low = All-nil LooseLow
loose_low substitute (section ∷ sections) shifts within low =
    let laid = laid_section substitute section in
    let own = laid_out_section shifts laid in
    let behind = drop (row_count laid) shifts in
    let others = laid_out behind (laid_sections substitute sections) in
    let small : length section.bytes + end_shift (laid_from shifts laid.items) ≤ 2 ^ 30 = (All-head IsSmall own others low).size in
    All-cons LooseLow section sections
    (All-weaker (λ (item : LooseItem). item.offset ≤ length section.bytes) (λ (item : LooseItem). item.offset < 2 ^ 64) (λ item up. omega (arith, up, small))
    section.items (All-head IsWithin section sections within).items)
    (loose_low substitute sections behind (All-tail IsWithin section sections within) (All-tail IsSmall own others low))

-- so does one that has an address
abbrev StandsLow : LaidItem → Type 0
StandsLow item = item.offset < 2 ^ 64

items_low : (items : List LooseItem) → All (λ (item : LooseItem). item.offset < 2 ^ 64) items → All StandsLow (map laid_item items)
items_low [] low = All-nil StandsLow
items_low (item ∷ items) low =
    All-cons StandsLow (laid_item item) (map laid_item items) (All-head (λ (i : LooseItem). i.offset < 2 ^ 64) item items low)
    (items_low items (All-tail (λ (i : LooseItem). i.offset < 2 ^ 64) item items low))

abbrev ItemsStandLow : SectionOf LaidItem → Type 0
ItemsStandLow section = All (λ item. item.offset < 2 ^ 64) section.items

offsets_low : (substitute : Form → Form) (sections : List LooseSection) → All LooseLow sections → All ItemsStandLow (laid_sections substitute sections)
offsets_low substitute [] low = All-nil ItemsStandLow
offsets_low substitute (section ∷ sections) low =
    All-cons ItemsStandLow (laid_section substitute section) (laid_sections substitute sections) (items_low section.items (All-head LooseLow section sections low))
    (offsets_low substitute sections (All-tail LooseLow section sections low))

-- LAYOUTS

-- what is known of layouts
pub record Facts : Type 0 where
  pub layouts : LayoutsKeepSections
  pub rise : (symbols : SymbolMap) (sections : LaidSections) → AllRise (shifts_of (rows_of symbols sections) (levels_of (rows_of symbols sections))) sections
  pub count : (symbols : SymbolMap) (levels : List ℕ) (sections : LaidSections) → length (shifts_of (rows_of symbols sections) levels) ≡ all_rows sections

settled_low : (symbols : SymbolMap) (sections : List LooseSection) → AreWithin sections → All IsSmall (settled_sections symbols (planned symbols sections)) → All LooseLow sections
unfolding planned settled_sections laid_by
settled_low symbols sections within small =
    let all = laid_sections (linked symbols) sections in
    loose_low (linked symbols) sections (shifts_of (rows_of symbols all) (levels_of (rows_of symbols all))) within small

settled_rows : Facts → (symbols : SymbolMap) (sections : List LooseSection) → AreWithin sections → All IsSmall (settled_sections symbols (planned symbols sections))
    → AreLow symbols (levels_of (rows_of symbols (planned symbols sections))) (planned symbols sections)
unfolding planned settled_sections laid_by
settled_rows facts symbols sections within small =
    let all = laid_sections (linked symbols) sections in
    let rows = rows_of symbols all in
    let levels = levels_of rows in
    let shifts = shifts_of rows levels in
    let rise = facts.rise symbols all in
    record {
      offsets = offsets_low (linked symbols) sections (loose_low (linked symbols) sections shifts within small);
      shifts = λ index default few.
          let count = facts.count symbols levels all in
          let there = rows_low all shifts rise small index (omega (arith, count, few)) in
          let same = get_or_default_zero shifts index default few in
          omega (arith, there, same);
    }

settled_small : Facts → (symbols : SymbolMap) (sections : List LooseSection) (laid : LaidSections) → layout_of symbols sections ≡ Ok laid
    → All IsSmall (settled_sections symbols (planned symbols sections))
settled_small facts symbols sections laid is =
    subst (λ (all : LaidSections). All IsSmall all) (facts.layouts.settled symbols sections laid is) (facts.layouts.small symbols sections laid is)

pub layouts_are_low : Facts → LayoutsAreLow
layouts_are_low facts = record {
  items = λ symbols sections laid is within. settled_low symbols sections within (settled_small facts symbols sections laid is);
  rows = λ symbols sections laid is within. settled_rows facts symbols sections within (settled_small facts symbols sections laid is);
}
