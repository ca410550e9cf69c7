-- The field of a branch where it is loaded.
use Rattle.std.proofs.Common.{◌≡◌, ℕ, zero, suc, ◌+◌, ◌^◌, ◌<◌, ◌≤◌, ◌⊎◌, inl, inr, Bool, true, false, cond, List, [], ◌∷◌, ◌++◌, All, Some, take, drop, length, get_or, refl, sym, ap, ◌∙◌, subst, arith, length-append}
use Rattle.std.specs.Prelude.{slice_get, option_map, unwrap_or}
use Rattle.std.specs.Option.{option_map_or}
use Rattle.std.proofs.lemmas.Option.{none-some, same_Some, slice_get-map, slice_get-get_or}
use Rattle.asm_base.specs.Tokens.{SpelledToken}
use Rattle.asm_base.specs.declared.positions.Pos.{Pos}
use Rattle.asm_symbols.specs.SymbolMap.{SymbolMap}
use Rattle.asm_frags.specs.declared.fields.Field.{Field}
use Rattle.asm_frags.specs.Fields.{width, low_bytes}
use Rattle.asm_frags.specs.PlainBytes.{field_end, FieldsStand}
use Rattle.asm_frags.specs.SectionOf.{SectionOf}
use Rattle.asm_frags.specs.Substituting.{substituted_field}
use Rattle.asm_frags.specs.Writing.{LooseSection, ends_in_run, new_item, item_behind, with_run}
use Rattle.assigned_forms.specs.Linked.{linked}
use Rattle.item_contents.specs.declared.contents.Content.TheVariants.{Run}
use Rattle.section_laws.specs.Within.{AreBetween, CountsItems, IsWithin}
use Rattle.asm_relax.specs.FieldValues.{held_value}
use Rattle.asm_relax.specs.Final.{address_in, address_of}
use Rattle.asm_relax.specs.KeptSections.{kept_section, LayoutsKeepSections}
use Rattle.asm_relax.specs.Placing.{placed_section, shift_of}
use Rattle.asm_relax.specs.Settling.{LaidItem, LaidSections}
use Rattle.elf_file.specs.Places.{PieceAt}
use Rattle.elf_object.specs.Contents.{held_bytes, section_relocations}
use Rattle.elf_object.specs.Image.{image_of}
use Rattle.elf_object.specs.Places.{section_offset, moved, IsFiled, ValuesStand, PlacesAreAddresses}
use Rattle.loaded_laws.specs.Beside.{IsLeftAlone, HoldsRelocated, FieldsStandBeside, RelocationsBeside, ValuesAreAlone, LayoutsKeepCounts}
use Rattle.elf_object.specs.Relocations.{field_relocation}
use Rattle.loaded_laws.specs.Loaded.{IsBesideRelocation}
use Rattle.att_insns.specs.InsnTexts.{InsnText}
use Rattle.asm_values.specs.State.{Placed}
use Rattle.asm_place.specs.Instructions.{with_more, run_end, next_item, next_offset, IsContinued}
use Rattle.asm_place.specs.CodePlaces.{FieldInCode, field_in, with_code, code_fields}
use Rattle.place_laws.specs.Ends.{end_in, items_in, AreFirst, LayoutsKeepItems}
use Rattle.place_laws.specs.Alignments.{RunsMoveNothing}
use Rattle.target_laws.specs.Jumps.{jump_place}
use Rattle.target_laws.specs.Branches.{IsBranchLoaded}
use Rattle.target_laws.proofs.Elements.{get_set, All-there, get_first, get_last, get_after, get_within, either_way}
use Rattle.target_laws.proofs.FieldValues.{low_length}

-- what is known of layouts
pub record Facts : Type 0 where
  pub layouts : LayoutsKeepSections
  pub counts : LayoutsKeepCounts
  pub keep : LayoutsKeepItems
  pub runs : RunsMoveNothing
  pub addresses : PlacesAreAddresses
  pub stand : ValuesStand
  pub beside : FieldsStandBeside
  pub relocations : RelocationsBeside
  pub values : ValuesAreAlone

-- fields stand in order
from_first : (bytes : List ℕ) (from : ℕ) (fields : List Field) (i : ℕ) (field : Field) → FieldsStand bytes from fields → slice_get fields i ≡ Some field → from ≤ field.offset
from_first bytes from [] i field stand is = absurd (none-some field is)
from_first bytes from (first ∷ fields) zero field stand is = subst (λ (f : Field). from ≤ f.offset) (same_Some first field is) stand.0
from_first bytes from (first ∷ fields) (suc i) field stand is =
    let later = from_first bytes (field_end first) fields i field stand.2 is in
    let here = stand.0 in
    omega (arith, later, here)

in_row : (bytes : List ℕ) (from : ℕ) (fields : List Field) (i j : ℕ) (one other : Field) → FieldsStand bytes from fields → i < j → slice_get fields i ≡ Some one
    → slice_get fields j ≡ Some other → field_end one ≤ other.offset
in_row bytes from [] i j one other stand few is there = absurd (none-some one is)
in_row bytes from (first ∷ fields) i zero one other stand few is there = absurd (omega (arith, few))
in_row bytes from (first ∷ fields) zero (suc j) one other stand few is there =
    subst (λ (f : Field). field_end f ≤ other.offset) (same_Some first one is) (from_first bytes (field_end first) fields j other stand.2 there)
in_row bytes from (first ∷ fields) (suc i) (suc j) one other stand few is there = in_row bytes (field_end first) fields i j one other stand.2 (omega (arith, few)) is there

run_long : (pos : Pos) (section : LooseSection) → length (with_run pos section).items ≡ run_end section
run_long pos section = by (ends_in_run section.items)
  where
    by : (b : Bool) → length (cond b section (record section { items = section.items ++ item_behind (length section.bytes) (new_item pos Run) ∷ [] })).items
        ≡ cond b (length section.items) (length section.items + 1)
    by true = refl
    by false = length-append section.items (item_behind (length section.bytes) (new_item pos Run) ∷ [])

module _ (facts : Facts) (symbols : SymbolMap) (laid : LaidSections) (pos : Pos) (tokens : List SpelledToken) (text : InsnText) (before placed : Placed) (code : List ℕ)
    (is : IsBranchLoaded symbols laid pos tokens text before placed code) (held : FieldInCode)
    (lone : code_fields text is.put.coded.forms is.put.coded.made ≡ held ∷ []) where
  abbrev n : ℕ
  n = before.current

  abbrev first : LooseSection
  first = is.put.put.section

  abbrev bytes : List ℕ
  bytes = is.put.coded.made.bytes

  abbrev count : ℕ
  count = length (with_run pos first).items

  abbrev new : LooseSection
  new = with_code pos n bytes (held ∷ []) first

  abbrev pub number : ℕ
  number = length first.fields

  placed_there : slice_get placed.sections n ≡ Some new
  placed_there =
      ap (λ (all : List LooseSection). slice_get all n) is.put.put.put
      ∙ get_set before.sections n first (with_code pos n bytes (code_fields text is.put.coded.forms is.put.coded.made) first) is.put.put.there
      ∙ ap (λ (fields : List FieldInCode). Some (with_code pos n bytes fields first)) lone

  more : IsContinued new (slice_get is.later.later n)
  more = is.later.grows.kept n new placed_there

  abbrev whole : LooseSection
  whole = with_more new more.bytes more.fields more.items

  whole_within : IsWithin whole
  whole_within = All-there IsWithin is.later.later n whole more.there is.later.within

  -- the field that is put
  abbrev pub field_put : Field
  field_put = field_in pos n count (length first.bytes) held

  pub field_is : field_in pos n (next_item before) (next_offset before) held ≡ field_put
  field_is =
      ap (λ k. field_in pos n k (next_offset before) held) (ap (λ f. option_map_or run_end f 0) is.put.put.there ∙ sym (run_long pos first))
      ∙ ap (λ k. field_in pos n count k held) (ap (λ f. option_map_or (λ (s : LooseSection). length s.bytes) f 0) is.put.put.there)

  field_there : slice_get whole.fields number ≡ Some field_put
  field_there = get_first (first.fields ++ field_put ∷ []) more.fields number field_put (get_last first.fields field_put)

  -- IN THE LAYOUT

  abbrev pub kept : SectionOf LaidItem
  kept = is.later.kept

  got_kept : (own : List ℕ) × (slice_get laid n ≡ Some (kept_section symbols own whole))
  got_kept = facts.layouts.section symbols is.later.later laid n whole is.later.is more.there

  kept_is : kept ≡ kept_section symbols got_kept.0 whole
  kept_is = same_Some kept (kept_section symbols got_kept.0 whole) (sym is.later.there ∙ got_kept.1)

  abbrev pub own : Field
  own = substituted_field (linked symbols) field_put

  pub field_kept : slice_get kept.fields number ≡ Some own
  field_kept =
      ap (λ (s : SectionOf LaidItem). slice_get s.fields number) kept_is ∙ slice_get-map (substituted_field (linked symbols)) whole.fields number
      ∙ ap (option_map (substituted_field (linked symbols))) field_there

  items_are : items_in laid n ≡ kept.items
  items_are = ap (λ found. option_map_or (λ (s : SectionOf LaidItem). s.items) found []) is.later.there

  laid_placed : placed_section kept ≡ kept
  laid_placed = facts.layouts.placed symbols is.later.later laid n kept is.later.is is.later.there

  counted : All (CountsItems kept.fields kept.items) kept.fields
  counted = facts.counts.counted symbols is.later.later laid n whole kept is.later.is more.there is.later.there whole_within

  low : All (λ field. moved kept.items field.item field.offset < 2 ^ 64) kept.fields
  low = facts.counts.low symbols is.later.later laid n whole kept is.later.is more.there is.later.there whole_within

  own_counts : CountsItems kept.fields kept.items own
  own_counts = All-there (CountsItems kept.fields kept.items) kept.fields number own field_kept counted

  own_low : moved kept.items own.item own.offset < 2 ^ 64
  own_low = All-there (λ (f : Field). moved kept.items f.item f.offset < 2 ^ 64) kept.fields number own field_kept low

  -- the run before the instruction moves nothing
  run_first : AreFirst (with_run pos first) kept.items
  run_first =
      let all = facts.keep symbols is.later.later laid n whole is.later.is more.there in
      subst (AreFirst (with_run pos first)) items_are
      (record { each = λ index item at. all.each index item (get_first (with_run pos first).items more.items index item at) })

  abbrev pub at : ℕ
  at = moved kept.items own.item own.offset

  pub place_is : at ≡ jump_place laid before + held.at
  place_is =
      let place : jump_place laid before ≡ end_in kept.items first =
      ap (λ found. option_map_or (end_in (items_in laid n)) found 0) is.put.put.there ∙ ap (λ (items : List LaidItem). end_in items first) items_are in
      let run : shift_of count 0 kept.items ≡ shift_of (length first.items) 0 kept.items =
      ap (λ k. shift_of k 0 kept.items) (run_long pos first) ∙ facts.runs pos first kept.items run_first in
      omega (arith, place, run)

  pub address_is : address_of laid n own.item own.offset ≡ at
  unfolding address_of
  address_is =
      ap (λ found. option_map_or (λ (s : SectionOf LaidItem). address_in s.items own.item own.offset) found 0) is.later.there
      ∙ facts.addresses kept own.item own.offset laid_placed own_counts.between.enough own_counts.between.before own_low

  -- IN THE OBJECT

  stand : FieldsStand kept.bytes 0 kept.fields
  stand =
      subst (λ (s : SectionOf LaidItem). FieldsStand s.bytes 0 s.fields) (sym kept_is)
      (facts.layouts.stand symbols whole.bytes 0 whole.fields whole_within.apart)

  filed : IsFiled laid n kept
  filed = record {
    found = is.later.there;
    takes_bytes = is.later.takes_bytes;
    laid = laid_placed;
    sized = facts.layouts.sized symbols is.later.later laid n kept is.later.is is.later.there;
  }

  module _ (value : ℕ) (held_is : held_value symbols laid own ≡ Some value) where
    abbrev value_bytes : List ℕ
    value_bytes = low_bytes held.size value

    piece : PieceAt (image_of symbols laid) (section_offset symbols laid n + at) value_bytes
    piece =
        subst (λ v. PieceAt (image_of symbols laid) (section_offset symbols laid n + at) (held_bytes own (unwrap_or v 0))) held_is
        (facts.stand symbols laid n number kept own filed stand field_kept
        (record { before = own_counts.between.before; behind = own_counts.between.after }))

    -- a byte of the field is beside all other fields
    module _ (k : ℕ) (few : k < width held.size) where
      alone_by : (field : Field) (i : ℕ) → slice_get kept.fields i ≡ Some field → CountsItems kept.fields kept.items field → moved kept.items field.item field.offset < 2 ^ 64
          → HoldsRelocated symbols laid n kept field → (i < number) ⊎ (number ≤ i) → (number < i) ⊎ (i ≤ number)
          → IsLeftAlone symbols laid n kept (moved kept.items own.item (own.offset + k)) field
      alone_by field i there counts low_there hold below above = cases below above
        where
          between : AreBetween kept.items own.item (own.offset + k) (own.offset + k + 1)
          between = record {
            enough = own_counts.between.enough;
            before = weaker own_counts.between.before;
            after = stronger own_counts.between.after;
          }
            where
              weaker : All (λ (item : LaidItem). item.offset ≤ own.offset) (take own.item kept.items) → All (λ (item : LaidItem). item.offset ≤ own.offset + k) (take own.item kept.items)
              weaker all = λ j d inside. (let one = all j d inside in omega (arith, one))

              stronger : All (λ (item : LaidItem). field_end own ≤ item.offset) (drop own.item kept.items)
                  → All (λ (item : LaidItem). own.offset + k + 1 ≤ item.offset) (drop own.item kept.items)
              stronger all = λ j d inside. (let one = all j d inside in omega (arith, one, few))

          apart : (own.offset + k < field.offset) ⊎ (field_end field ≤ own.offset + k) → IsLeftAlone symbols laid n kept (moved kept.items own.item (own.offset + k)) field
          apart beside = by field.in_item refl
            where
              by : (in_item : Bool) → field.in_item ≡ in_item → IsLeftAlone symbols laid n kept (moved kept.items own.item (own.offset + k)) field
              by false plain = inr (facts.beside.plain kept field own.item (own.offset + k) laid_placed counts low_there plain between beside)
              by true in_item = elim (hold in_item) [
                | inl none ↦ inl none
                | inr long ↦ inr (facts.beside.inside kept field own.item (own.offset + k) laid_placed counts low_there in_item long between)
              ]

          cases : (i < number) ⊎ (number ≤ i) → (number < i) ⊎ (i ≤ number) → IsLeftAlone symbols laid n kept (moved kept.items own.item (own.offset + k)) field
          cases (inl less) above = apart (inr (let row = in_row kept.bytes 0 kept.fields i number field own stand less there field_kept in omega (arith, row)))
          cases (inr ge) (inl more_than) = apart (inl (let row = in_row kept.bytes 0 kept.fields number i own field stand more_than field_kept there in omega (arith, row, few)))
          cases (inr ge) (inr le) =
              let same_index : i ≡ number = omega (arith, ge, le) in
              let same : field ≡ own = same_Some field own (sym there ∙ ap (slice_get kept.fields) same_index ∙ field_kept) in
              inl (ap (λ (f : Field). field_relocation symbols laid n kept f) same ∙ facts.values symbols laid n value kept own held_is)

      all_alone : All (IsLeftAlone symbols laid n kept (moved kept.items own.item (own.offset + k))) kept.fields
      all_alone = λ i d inside.
          alone_by (get_or kept.fields i d) i (slice_get-get_or kept.fields i d inside) (counted i d inside) (low i d inside) (is.later.relocated i d inside)
          (either_way i number) (either_way number i)

      pub loaded_byte : at + k < length code → slice_get code (at + k) ≡ slice_get value_bytes k
      loaded_byte within =
          let front = piece.long in
          let long = low_length held.size value in
          let size = is.later.loaded.long in
          let next : moved kept.items own.item (own.offset + k) ≡ at + k = omega arith in
          let beside = subst (λ p. All (IsBesideRelocation p) (section_relocations symbols laid n kept)) next
          (facts.relocations symbols laid n (moved kept.items own.item (own.offset + k)) kept all_alone) in
          let place : section_offset symbols laid n + (at + k) ≡ length piece.front + k = omega (arith, front) in
          is.later.loaded.same (at + k) (omega (arith, size, within)) beside
          ∙ ap (λ (xs : List ℕ). slice_get xs (section_offset symbols laid n + (at + k))) piece.whole
          ∙ ap (slice_get (piece.front ++ (value_bytes ++ piece.rest))) place ∙ get_after piece.front (value_bytes ++ piece.rest) k
          ∙ get_within value_bytes piece.rest k (omega (arith, few, long))
