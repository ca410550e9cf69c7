-- Plain bytes before and after fields are beside them in a layout.
use Rattle.std.proofs.Common.{◌≡◌, ℕ, zero, suc, ◌+◌, ◌-◌, ◌^◌, ◌<◌, ◌≤◌, ◌⊎◌, inl, inr, false, true, cond, List, [], ◌∷◌, All, Option, Some, drop, sym, ap, subst, ◌∙◌, arith}
use Rattle.std.specs.Prelude.{slice_get}
use Rattle.std.specs.Option.{option_map_or}
use Rattle.std.proofs.lemmas.List.Elements.{All-cons}
use Rattle.std.proofs.lemmas.Option.{none-some, same_Some}
use Rattle.asm_frags.specs.declared.fields.Field.{Field}
use Rattle.asm_frags.specs.declared.fields.FieldSize.{FieldSize}
use Rattle.asm_frags.specs.declared.fields.FieldSize.TheVariants.{One, Two, Four, Eight}
use Rattle.asm_frags.specs.Fields.{width}
use Rattle.asm_frags.specs.PlainBytes.{field_end}
use Rattle.asm_frags.specs.SectionOf.{SectionOf}
use Rattle.section_laws.specs.Within.{AreBetween, CountsItems}
use Rattle.asm_relax.specs.FieldValues.{less}
use Rattle.asm_relax.specs.Final.{address_in}
use Rattle.asm_relax.specs.Placing.{placed_section, shift_of}
use Rattle.asm_relax.specs.Settling.{LaidItem}
use Rattle.elf_object.specs.Places.{moved, PlacesAreAddresses}
use Rattle.elf_object.specs.Relocations.{field_place}
use Rattle.loaded_laws.specs.Beside.{IsBesideField, size_before, FieldsStandBeside}
use Rattle.loaded_laws.proofs.Shifts.{in_order, shift_next}

some_wide : (size : FieldSize) → 0 < width size
some_wide One = omega arith
some_wide Two = omega arith
some_wide Four = omega arith
some_wide Eight = omega arith

-- one of two numbers is not below the other
either_way : (a b : ℕ) → (a < b) ⊎ (b ≤ a)
either_way zero zero = inr (omega arith)
either_way zero (suc b) = inl (omega arith)
either_way (suc a) zero = inr (omega arith)
either_way (suc a) (suc b) = elim (either_way a b) [ inl lt ↦ inl (omega (arith, lt)) | inr le ↦ inr (omega (arith, le)) ]

taken_off : (n taken : ℕ) → taken ≤ n → n < 2 ^ 64 → less n taken ≡ n - taken
taken_off n taken le small = omega arith

-- an item, and the others after it
after_too : (items : List LaidItem) (index bound : ℕ) (item : LaidItem) → slice_get items index ≡ Some item → bound ≤ item.offset
    → All (λ item. bound ≤ item.offset) (drop (suc index) items) → All (λ item. bound ≤ item.offset) (drop index items)
after_too [] index bound item is up all = absurd (none-some item is)
after_too (x ∷ xs) zero bound item is up all =
    All-cons (λ (item : LaidItem). bound ≤ item.offset) x xs (subst (λ (i : LaidItem). bound ≤ i.offset) (sym (same_Some x item is)) up) all
after_too (x ∷ xs) (suc index) bound item is up all = after_too xs index bound item is up all

module _ (addresses : PlacesAreAddresses) (section : SectionOf LaidItem) (field : Field) (item offset : ℕ) (laid : placed_section section ≡ section)
    (counts : CountsItems section.fields section.items field) (low : moved section.items field.item field.offset < 2 ^ 64)
    (between : AreBetween section.items item offset (offset + 1)) where
  abbrev items : List LaidItem
  items = section.items

  address : address_in items field.item field.offset ≡ moved items field.item field.offset
  address = addresses section field.item field.offset laid counts.between.enough counts.between.before low

  -- a field over plain bytes
  module _ (plain : field.in_item ≡ false) where
    plain_place : field_place section field ≡ moved items field.item field.offset
    plain_place = ap (λ b. cond b (less (address_in items field.item field.offset) (width field.size)) (address_in items field.item field.offset)) plain ∙ address

    plain_end : field_end field ≡ field.offset + width field.size
    plain_end = ap (λ b. field.offset + cond b 0 (width field.size)) plain

    plain_beside : (offset < field.offset) ⊎ (field_end field ≤ offset) → IsBesideField section (moved items item offset) field
    plain_beside (inl before) =
        let place = plain_place in
        let some = some_wide field.size in
        let end = plain_end in
        let up = in_order items item field.item 0 0 offset (field_end field) (omega arith) (omega (arith, before, end)) between.before counts.between.after in
        inl (omega (arith, place, up, before))
    plain_beside (inr after) =
        let place = plain_place in
        let some = some_wide field.size in
        let end = plain_end in
        let up = in_order items field.item item 0 0 field.offset (offset + 1) (omega arith) (omega (arith, after, end)) counts.between.before between.after in
        inr (omega (arith, place, up, after, end))

  -- a field in an item
  module _ (in_item : field.in_item ≡ true) (long : width field.size ≤ size_before section.items field.item) where
    abbrev index : ℕ
    index = (counts.inside in_item).index

    abbrev own : LaidItem
    own = (counts.inside in_item).item

    own_there : slice_get items index ≡ Some own
    own_there = (counts.inside in_item).item_there

    next : field.item ≡ suc index
    next = (counts.inside in_item).next

    wide_own : width field.size ≤ own.size
    wide_own =
        let n = next in
        let one : field.item - 1 ≡ index = omega (arith, n) in
        let found : size_before items field.item ≡ own.size = ap (λ (o : Option LaidItem). option_map_or (λ (i : LaidItem). i.size) o 0) (ap (slice_get items) one ∙ own_there) in
        omega (arith, long, found)

    grows : shift_of field.item 0 items ≡ shift_of index 0 items + own.size
    grows = ap (λ n. shift_of n 0 items) next ∙ shift_next index 0 items own own_there

    wide : width field.size ≤ moved items field.item field.offset
    wide = let g = grows in let l = wide_own in omega (arith, g, l)

    item_place : field_place section field ≡ moved items field.item field.offset - width field.size
    item_place =
        ap (λ b. cond b (less (address_in items field.item field.offset) (width field.size)) (address_in items field.item field.offset)) in_item
        ∙ ap (λ n. less n (width field.size)) address ∙ taken_off (moved items field.item field.offset) (width field.size) wide low

    item_end : field_end field ≡ field.offset
    item_end = ap (λ b. field.offset + cond b 0 (width field.size)) in_item ∙ (let none : field.offset + 0 ≡ field.offset = omega arith in none)

    own_after : All (λ item. field.offset ≤ item.offset) (drop index items)
    own_after =
        after_too items index field.offset own own_there (let same = (counts.inside in_item).offset in omega (arith, same))
        (subst (λ n. All (λ (item : LaidItem). field.offset ≤ item.offset) (drop n items)) next
        (subst (λ n. All (λ (item : LaidItem). n ≤ item.offset) (drop field.item items)) item_end counts.between.after))

    item_beside : (offset < field.offset) ⊎ (field.offset ≤ offset) → IsBesideField section (moved items item offset) field
    item_beside (inl lt) =
        let up = in_order items item index 0 0 offset field.offset (omega arith) lt between.before own_after in
        let g = grows in
        let l = wide_own in
        let p = item_place in
        inl (omega (arith, up, g, l, p, lt))
    item_beside (inr le) =
        let up = in_order items field.item item 0 0 field.offset (offset + 1) (omega arith) (omega (arith, le)) counts.between.before between.after in
        let w = wide in
        let p = item_place in
        inr (omega (arith, up, w, p, le))

pub fields_stand_beside : PlacesAreAddresses → FieldsStandBeside
fields_stand_beside addresses = record {
  plain = λ section field item offset laid counts low plain between beside. plain_beside addresses section field item offset laid counts low between plain beside;
  inside = λ section field item offset laid counts low in_item long between.
      item_beside addresses section field item offset laid counts low between in_item long (either_way offset field.offset);
}
