-- The bytes of an item that holds no field are beside all relocations.
use Rattle.std.proofs.Common.{◌≡◌, ℕ, suc, ◌+◌, ◌-◌, ◌^◌, ◌<◌, ◌≤◌, ◌⊎◌, inl, inr, Bool, true, false, cond, List, Option, Some, refl, sym, ap, ◌∙◌, arith}
use Rattle.std.specs.Prelude.{slice_get}
use Rattle.std.specs.Option.{option_map_or}
use Rattle.std.proofs.lemmas.Option.{same_Some}
use Rattle.asm_frags.specs.declared.fields.Field.{Field}
use Rattle.asm_frags.specs.Fields.{width}
use Rattle.asm_frags.specs.PlainBytes.{field_end}
use Rattle.asm_frags.specs.SectionOf.{SectionOf}
use Rattle.asm_symbols.specs.SymbolMap.{SymbolMap}
use Rattle.item_contents.specs.declared.contents.Content.TheVariants.{Align, Growing}
use Rattle.item_contents.specs.ItemParts.{AlignOf}
use Rattle.section_laws.specs.Within.{CountsItems}
use Rattle.asm_relax.specs.FieldValues.{less}
use Rattle.asm_relax.specs.Final.{address_in}
use Rattle.asm_relax.specs.Placing.{placed_section, shift_of}
use Rattle.asm_relax.specs.Settling.{LaidItem, LaidSections}
use Rattle.elf_object.specs.Places.{moved, PlacesAreAddresses}
use Rattle.elf_object.specs.Relocations.{field_place}
use Rattle.loaded_laws.specs.Beside.{IsBesideField, IsLeftAlone, HoldsRelocated, size_before}
use Rattle.code_laws.proofs.LoadedBytes.{either_way}
use Rattle.code_laws.proofs.Shifts.{rises, shift_next, take_there, drop_there}

taken_off : (n taken : ℕ) → taken ≤ n → n < 2 ^ 64 → less n taken ≡ n - taken
taken_off n taken le small = omega arith

module _ (addresses : PlacesAreAddresses) (map : SymbolMap) (sections : LaidSections) (number : ℕ) (section : SectionOf LaidItem) (index byte : ℕ) (own : LaidItem) (held : AlignOf)
    (laid : placed_section section ≡ section) (own_there : slice_get section.items index ≡ Some own) (aligns : own.content ≡ Align held) (few : byte < own.size) (field : Field)
    (counts : CountsItems section.fields section.items field) (low : moved section.items field.item field.offset < 2 ^ 64) (holds : HoldsRelocated map sections number section field) where
  abbrev items : List LaidItem
  items = section.items

  -- the place of the byte
  abbrev place : ℕ
  place = own.offset + shift_of index 0 items + byte

  address : address_in items field.item field.offset ≡ moved items field.item field.offset
  address = addresses section field.item field.offset laid counts.between.enough counts.between.before low

  -- an item after the field
  after : field.item ≤ index → moved items field.item field.offset + (field_end field - field.offset) ≤ place
  after le =
      let ends : field_end field ≤ own.offset = drop_there (λ item. field_end field ≤ item.offset) items field.item index own le own_there counts.between.after in
      let up = rises field.item index 0 items le in
      omega (arith, ends, up)

  -- an item before it
  before : index < field.item → (own.offset ≤ field.offset) × (shift_of index 0 items + own.size ≤ shift_of field.item 0 items)
  before lt =
      let low = take_there (λ item. item.offset ≤ field.offset) items field.item index own lt own_there counts.between.before in
      let next = shift_next index 0 items own own_there in
      let up = rises (suc index) field.item 0 items (omega (arith, lt)) in
      (low, omega (arith, next, up))

  module _ (plain : field.in_item ≡ false) where
    plain_place : field_place section field ≡ moved items field.item field.offset
    plain_place = ap (λ b. cond b (less (address_in items field.item field.offset) (width field.size)) (address_in items field.item field.offset)) plain ∙ address

    plain_end : field_end field ≡ field.offset + width field.size
    plain_end = ap (λ b. field.offset + cond b 0 (width field.size)) plain

    plain_beside : (index < field.item) ⊎ (field.item ≤ index) → IsBesideField section place field
    plain_beside (inl lt) =
        let at = plain_place in
        let parts = before lt in
        inl (omega (arith, at, parts.0, parts.1, few))
    plain_beside (inr le) =
        let at = plain_place in
        let end = plain_end in
        let up = after le in
        inr (omega (arith, at, end, up))

  module _ (in_item : field.in_item ≡ true) (long : width field.size ≤ size_before section.items field.item) where
    abbrev at : ℕ
    at = (counts.inside in_item).index

    abbrev other : LaidItem
    other = (counts.inside in_item).item

    other_there : slice_get items at ≡ Some other
    other_there = (counts.inside in_item).item_there

    next : field.item ≡ suc at
    next = (counts.inside in_item).next

    wide_other : width field.size ≤ other.size
    wide_other =
        let n = next in
        let one : field.item - 1 ≡ at = omega (arith, n) in
        let found : size_before items field.item ≡ other.size = ap (λ (o : Option LaidItem). option_map_or (λ (i : LaidItem). i.size) o 0) (ap (slice_get items) one ∙ other_there) in
        omega (arith, long, found)

    grows : shift_of field.item 0 items ≡ shift_of at 0 items + other.size
    grows = ap (λ n. shift_of n 0 items) next ∙ shift_next at 0 items other other_there

    wide : width field.size ≤ moved items field.item field.offset
    wide = let g = grows in let l = wide_other in omega (arith, g, l)

    item_place : field_place section field ≡ moved items field.item field.offset - width field.size
    item_place =
        ap (λ b. cond b (less (address_in items field.item field.offset) (width field.size)) (address_in items field.item field.offset)) in_item
        ∙ ap (λ n. less n (width field.size)) address ∙ taken_off (moved items field.item field.offset) (width field.size) wide low

    item_end : field_end field ≡ field.offset
    item_end = ap (λ b. field.offset + cond b 0 (width field.size)) in_item ∙ (let none : field.offset + 0 ≡ field.offset = omega arith in none)

    -- it is not the item of the field, which grows
    apart : at ≡ index → ⊥
    apart same =
        let is : own ≡ other = same_Some own other (sym own_there ∙ ap (slice_get items) (sym same) ∙ other_there) in
        clash held _ (sym aligns ∙ ap (λ (i : LaidItem). i.content) is ∙ (counts.inside in_item).content)
      where
        clash : (a : AlignOf) (g : _) → Align a ≡ Growing g → ⊥
        clash a g is = cc

    item_beside : (index < field.item) ⊎ (field.item ≤ index) → IsBesideField section place field
    item_beside (inr le) =
        let p = item_place in
        let w = wide in
        let e = item_end in
        let up = after le in
        inr (omega (arith, p, w, e, up))
    item_beside (inl lt) = by (either_way index at)
      where
        by : (index < at) ⊎ (at ≤ index) → IsBesideField section place field
        by (inl earlier) =
            let parts = before lt in
            let own_next = shift_next index 0 items own own_there in
            let up = rises (suc index) at 0 items (omega (arith, earlier)) in
            let g = grows in
            let l = wide_other in
            let p = item_place in
            inl (omega (arith, parts.0, own_next, up, g, l, p, few))
        by (inr later) = let n = next in absurd (apart (omega (arith, later, lt, n)))

  -- the field leaves the byte alone
  pub left_alone : IsLeftAlone map sections number section place field
  left_alone = by field.in_item refl
    where
      by : (in_item : Bool) → field.in_item ≡ in_item → IsLeftAlone map sections number section place field
      by false plain = inr (plain_beside plain (either_way index field.item))
      by true in_item = elim (holds in_item) [
        | inl none ↦ inl none
        | inr long ↦ inr (item_beside in_item long (either_way index field.item))
      ]
