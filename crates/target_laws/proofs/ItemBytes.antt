-- The bytes of an item of a layout stand beside the fields of its section, but for its own.
use Rattle.std.proofs.Common.{◌≡◌, ℕ, zero, suc, ◌+◌, ◌-◌, ◌^◌, ◌<◌, ◌≤◌, ◌⊎◌, inl, inr, Bool, true, false, cond, List, [], ◌∷◌, All, Option, Some, None, get_or, refl, sym, ap, subst, ◌∙◌, arith}
use Rattle.std.specs.Prelude.{slice_get}
use Rattle.std.specs.Option.{option_map_or}
use Rattle.std.proofs.lemmas.Option.{none-some, same_Some}
use Rattle.asm_symbols.specs.SymbolMap.{SymbolMap}
use Rattle.asm_frags.specs.declared.fields.Field.{Field}
use Rattle.asm_frags.specs.Fields.{width}
use Rattle.asm_frags.specs.PlainBytes.{field_end}
use Rattle.asm_frags.specs.SectionOf.{SectionOf}
use Rattle.item_contents.specs.declared.contents.Content.{Content}
use Rattle.item_contents.specs.declared.contents.Content.TheVariants.{Growing}
use Rattle.item_contents.specs.declared.kinds.Growth.{Growth}
use Rattle.section_laws.specs.Within.{CountsItems}
use Rattle.asm_relax.specs.FieldValues.{less}
use Rattle.asm_relax.specs.Final.{address_in}
use Rattle.asm_relax.specs.Placing.{placed_from, placed_section, shift_of}
use Rattle.asm_relax.specs.Settling.{LaidItem, LaidSections}
use Rattle.elf_object.specs.Places.{moved, PlacesAreAddresses}
use Rattle.elf_object.specs.Relocations.{field_place, field_relocation}
use Rattle.loaded_laws.specs.Beside.{IsBesideField, IsLeftAlone, size_before, HoldsRelocated}
use Rattle.target_laws.proofs.Elements.{take-there, drop-there, either_way}

-- HOW FAR ITEMS MOVE WHAT STANDS AFTER THEM

moves_on : (count s t : ℕ) (items : List LaidItem) → s ≤ t → s ≤ shift_of count t items
moves_on zero s t items le = le
moves_on (suc count) s t [] le = le
moves_on (suc count) s t (x ∷ xs) le = moves_on count s (t + x.size) xs (omega (arith, le))

-- the first items move no farther than more of them
rises : (few more shift : ℕ) (items : List LaidItem) → few ≤ more → shift_of few shift items ≤ shift_of more shift items
rises zero more shift items le = moves_on more shift shift items (omega arith)
rises (suc few) zero shift items le = absurd (omega (arith, le))
rises (suc few) (suc more) shift [] le = omega arith
rises (suc few) (suc more) shift (x ∷ xs) le = rises few more (shift + x.size) xs (omega (arith, le))

-- an item moves what stands after it by its size
pub shift_next : (n s : ℕ) (items : List LaidItem) (x : LaidItem) → slice_get items n ≡ Some x → shift_of (suc n) s items ≡ shift_of n s items + x.size
shift_next n s [] x is = absurd (none-some x is)
shift_next zero s (y ∷ ys) x is = ap (λ (i : LaidItem). s + i.size) (same_Some y x is)
shift_next (suc n) s (y ∷ ys) x is = shift_next n (s + y.size) ys x is

-- an item stands at its offset, moved by the items before it
pub placed_at : (items : List LaidItem) (shift index : ℕ) (item : LaidItem) → slice_get (placed_from shift items) index ≡ Some item
    → item.address ≡ item.offset + shift_of index shift items
unfolding placed_from
placed_at [] shift index item is = absurd (none-some item is)
placed_at (x ∷ xs) shift zero item is = let same = same_Some _ item is in sym (ap (λ (i : LaidItem). i.address) same) ∙ ap (λ (i : LaidItem). i.offset + shift) same
placed_at (x ∷ xs) shift (suc index) item is = placed_at xs (shift + x.size) index item is

taken_off : (n taken : ℕ) → taken ≤ n → n < 2 ^ 64 → less n taken ≡ n - taken
taken_off n taken le small = omega arith

-- A BYTE OF AN ITEM

-- the byte of this number of the item of this index
module _ (addresses : PlacesAreAddresses) (section : SectionOf LaidItem) (laid : placed_section section ≡ section) (index k : ℕ) (item : LaidItem)
    (there : slice_get section.items index ≡ Some item) (inside : k < item.size) where
  abbrev items : List LaidItem
  items = section.items

  abbrev place : ℕ
  place = moved section.items index item.offset + k

  next : shift_of (suc index) 0 items ≡ shift_of index 0 items + item.size
  next = shift_next index 0 items item there

  module _ (field : Field) (counts : CountsItems section.fields section.items field) (low : moved section.items field.item field.offset < 2 ^ 64) where
    address : address_in items field.item field.offset ≡ moved items field.item field.offset
    address = addresses section field.item field.offset laid counts.between.enough counts.between.before low

    -- the item stands before the field, or after it
    before : index < field.item → item.offset ≤ field.offset
    before few = take-there (λ (i : LaidItem). i.offset ≤ field.offset) items field.item index item there few counts.between.before

    after : field.item ≤ index → field_end field ≤ item.offset
    after few = drop-there (λ (i : LaidItem). field_end field ≤ i.offset) items field.item index item there few counts.between.after

    -- over plain bytes
    module _ (plain : field.in_item ≡ false) where
      plain_place : field_place section field ≡ moved items field.item field.offset
      plain_place = ap (λ b. cond b (less (address_in items field.item field.offset) (width field.size)) (address_in items field.item field.offset)) plain ∙ address

      plain_end : field_end field ≡ field.offset + width field.size
      plain_end = ap (λ b. field.offset + cond b 0 (width field.size)) plain

      plain_by : (index < field.item) ⊎ (field.item ≤ index) → IsBesideField section place field
      plain_by (inl few) =
          let up = rises (suc index) field.item 0 items (omega (arith, few)) in
          let n = next in
          let p = plain_place in
          let b = before few in
          inl (omega (arith, up, n, p, b, inside))
      plain_by (inr few) =
          let up = rises field.item index 0 items few in
          let p = plain_place in
          let a = after few in
          let e = plain_end in
          inr (omega (arith, up, p, a, e))

    -- in an item
    module _ (in_item : field.in_item ≡ true) (long : width field.size ≤ size_before section.items field.item) where
      abbrev number : ℕ
      number = (counts.inside in_item).index

      abbrev own : LaidItem
      own = (counts.inside in_item).item

      own_there : slice_get items number ≡ Some own
      own_there = (counts.inside in_item).item_there

      own_next : field.item ≡ suc number
      own_next = (counts.inside in_item).next

      wide_own : width field.size ≤ own.size
      wide_own =
          let n = own_next in
          let one : field.item - 1 ≡ number = omega (arith, n) in
          let found : size_before items field.item ≡ own.size = ap (λ (o : Option LaidItem). option_map_or (λ (i : LaidItem). i.size) o 0) (ap (slice_get items) one ∙ own_there) in
          omega (arith, long, found)

      grows : shift_of field.item 0 items ≡ shift_of number 0 items + own.size
      grows = ap (λ n. shift_of n 0 items) own_next ∙ shift_next number 0 items own own_there

      wide : width field.size ≤ moved items field.item field.offset
      wide = let g = grows in let l = wide_own in omega (arith, g, l)

      item_place : field_place section field ≡ moved items field.item field.offset - width field.size
      item_place =
          ap (λ b. cond b (less (address_in items field.item field.offset) (width field.size)) (address_in items field.item field.offset)) in_item
          ∙ ap (λ n. less n (width field.size)) address ∙ taken_off (moved items field.item field.offset) (width field.size) wide low

      item_end : field_end field ≡ field.offset
      item_end = ap (λ b. field.offset + cond b 0 (width field.size)) in_item ∙ (let none : field.offset + 0 ≡ field.offset = omega arith in none)

      -- another item
      other_by : (index < number) ⊎ (number < index) → IsBesideField section place field
      other_by (inl few) =
          let n = own_next in
          let up = rises (suc index) number 0 items (omega (arith, few)) in
          let b = before (omega (arith, few, n)) in
          let one = next in
          let g = grows in
          let l = wide_own in
          let p = item_place in
          inl (omega (arith, up, b, one, g, l, p, inside))
      other_by (inr few) =
          let n = own_next in
          let up = rises field.item index 0 items (omega (arith, few, n)) in
          let a = after (omega (arith, few, n)) in
          let e = item_end in
          let w = wide in
          let p = item_place in
          inr (omega (arith, up, a, e, w, p))

      -- the same item, before its field
      same_item : number ≡ index → k + width field.size < item.size → IsBesideField section place field
      same_item same few =
          let found : own ≡ item = same_Some own item (sym own_there ∙ ap (slice_get items) same ∙ there) in
          let size : own.size ≡ item.size = ap (λ (i : LaidItem). i.size) found in
          let at : item.offset ≡ field.offset = sym (ap (λ (i : LaidItem). i.offset) found) ∙ (counts.inside in_item).offset in
          let shift : shift_of number 0 items ≡ shift_of index 0 items = ap (λ n. shift_of n 0 items) same in
          let g = grows in
          let p = item_place in
          inl (omega (arith, size, at, shift, g, p, few))

-- ALL FIELDS

module _ (addresses : PlacesAreAddresses) (symbols : SymbolMap) (sections : LaidSections) (n : ℕ) (section : SectionOf LaidItem) (laid : placed_section section ≡ section)
    (index k : ℕ) (item : LaidItem) (there : slice_get section.items index ≡ Some item) (inside : k < item.size) (kind : Growth) (number : ℕ)
    (content : item.content ≡ Growing (record { kind = kind; field = number })) (own : Field) (own_there : slice_get section.fields number ≡ Some own)
    (free : (field_relocation symbols sections n section own ≡ None) ⊎ (k + width own.size < item.size)) where
  -- what the field of an item is by its number
  same_number : (one other : Growth) (a b : ℕ) → Growing (record { kind = one; field = a }) ≡ Growing (record { kind = other; field = b }) → a ≡ b
  same_number one other a b is = ap (λ (c : Content). elim c [ Growing grown ↦ grown.field | _ ↦ a ]) is

  alone : (field : Field) → CountsItems section.fields section.items field → moved section.items field.item field.offset < 2 ^ 64
      → HoldsRelocated symbols sections n section field → IsLeftAlone symbols sections n section (moved section.items index item.offset + k) field
  alone field counts low hold = by field.in_item refl
    where
      by : (in_item : Bool) → field.in_item ≡ in_item → IsLeftAlone symbols sections n section (moved section.items index item.offset + k) field
      by false plain = inr (plain_by addresses section laid index k item there inside field counts low plain (either_way index field.item))
      by true in_item = within (hold in_item)
        where
          within : (field_relocation symbols sections n section field ≡ None) ⊎ (width field.size ≤ size_before section.items field.item)
              → IsLeftAlone symbols sections n section (moved section.items index item.offset + k) field
          within (inl none) = inl none
          within (inr long) = of (either_way (counts.inside in_item).index index)
            where
              own_too : (counts.inside in_item).index ≡ index → IsLeftAlone symbols sections n section (moved section.items index item.offset + k) field
              own_too same =
                  let is = counts.inside in_item in
                  let found : is.item ≡ item = same_Some is.item item (sym is.item_there ∙ ap (slice_get section.items) same ∙ there) in
                  let contents = sym is.content ∙ ap (λ (i : LaidItem). i.content) found ∙ content in
                  let numbers = same_number is.growth kind is.number number contents in
                  let fields : field ≡ own = same_Some field own (sym is.field_there ∙ ap (slice_get section.fields) numbers ∙ own_there) in
                  elim free [
                    | inl none ↦ inl (subst (λ (f : Field). field_relocation symbols sections n section f ≡ None) (sym fields) none)
                    | inr few ↦ inr (same_item addresses section laid index k item there inside field counts low in_item long same
                        (subst (λ (f : Field). k + width f.size < item.size) (sym fields) few))
                  ]

              of : ((counts.inside in_item).index < index) ⊎ (index ≤ (counts.inside in_item).index) → IsLeftAlone symbols sections n section (moved section.items index item.offset + k) field
              of (inl few) = inr (other_by addresses section laid index k item there inside field counts low in_item long (inr few))
              of (inr le) = elim (either_way index (counts.inside in_item).index) [
                | inl few ↦ inr (other_by addresses section laid index k item there inside field counts low in_item long (inl few))
                | inr same ↦ own_too (omega (arith, le, same))
              ]

  pub all_alone : All (CountsItems section.fields section.items) section.fields → All (λ field. moved section.items field.item field.offset < 2 ^ 64) section.fields
      → All (HoldsRelocated symbols sections n section) section.fields
      → All (IsLeftAlone symbols sections n section (moved section.items index item.offset + k)) section.fields
  all_alone counts low hold = λ i d few. alone (get_or section.fields i d) (counts i d few) (low i d few) (hold i d few)
