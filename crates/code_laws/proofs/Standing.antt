-- What is put as an instruction stands in its section as it is loaded, but for its fields.
use Rattle.std.proofs.Common.{◌≡◌, ℕ, ◌+◌, ◌<◌, ◌≤◌, ◌⊎◌, inl, inr, Bool, true, false, cond, List, [], ◌∷◌, ◌++◌, All, Some, length, map, get_or, refl, sym, ap, subst, ◌∙◌, arith, length-append}
use Rattle.std.specs.Prelude.{◌==◌, slice_get}
use Rattle.std.specs.Option.{option_map_or}
use Rattle.std.proofs.lemmas.List.Elements.{All-nil, All-cons, All-append, All-weaker}
use Rattle.std.proofs.lemmas.Option.{same_Some, slice_get-get_or}
use Rattle.asm_base.specs.declared.positions.Pos.{Pos}
use Rattle.asm_symbols.specs.SymbolMap.{SymbolMap}
use Rattle.asm_frags.specs.declared.fields.Field.{Field}
use Rattle.asm_frags.specs.Fields.{width}
use Rattle.asm_frags.specs.PlainBytes.{field_end, IsBeside}
use Rattle.asm_frags.specs.SectionOf.{SectionOf}
use Rattle.asm_frags.specs.Writing.{LooseItem, LooseSection, ends_in_run, new_item, with_item, with_run}
use Rattle.item_contents.specs.declared.contents.Content.TheVariants.{Run}
use Rattle.section_laws.specs.Within.{AreBetween, IsWithin, AreWithin, PutsStayWithin}
use Rattle.asm_relax.specs.KeptSections.{kept_section, LayoutsKeepSections}
use Rattle.asm_relax.specs.Placing.{shift_of}
use Rattle.asm_relax.specs.RangeChecks.{whole_size}
use Rattle.asm_relax.specs.Settling.{LaidItem, LaidSections}
use Rattle.elf_file.specs.Sections.{no_bits}
use Rattle.elf_object.specs.Contents.{section_relocations}
use Rattle.elf_object.specs.Image.{image_of}
use Rattle.elf_object.specs.Places.{section_offset, moved, IsBetween, IsFiled, BytesStand}
use Rattle.asm_place.specs.Instructions.{run_end, with_more, IsContinued}
use Rattle.asm_place.specs.CodePlaces.{FieldInCode, blanked, field_in, with_code, IsCodePut}
use Rattle.place_laws.specs.Ends.{end_in, items_in, place_in, AreFirst, LayoutsKeepItems}
use Rattle.place_laws.specs.Alignments.{RunsMoveNothing}
use Rattle.place_laws.specs.Statements.{PlacesAreInside}
use Rattle.loaded_laws.specs.Loaded.{IsBesideRelocation, IsLoaded}
use Rattle.loaded_laws.specs.Beside.{HoldsRelocated, BytesStandBeside}
use Rattle.loaded_laws.specs.Codes.{IsOutside, StandsBeside}
use Rattle.code_laws.specs.Sections.{IsLoadedLater}
use Rattle.code_laws.specs.Codes.{LoadedCodesStand}
use Rattle.code_laws.proofs.Lists.{get_set, All-there, get_first, get_after, get_within, take_first, drop_first, one_piece, piece_get}
use Rattle.code_laws.proofs.CodeBytes.{blank_long, get_blanked}

-- what is known of layouts, of objects and of what is put
pub record Facts : Type 0 where
  pub layouts : LayoutsKeepSections
  pub keep : LayoutsKeepItems
  pub runs : RunsMoveNothing
  pub inside : PlacesAreInside
  pub puts : PutsStayWithin
  pub stand : BytesStand
  pub beside : BytesStandBeside

-- a run is an item without bytes
run_bytes : (test : Bool) (pos : Pos) (section : LooseSection) → (cond test section (with_item (new_item pos Run) section)).bytes ≡ section.bytes
run_bytes true pos section = refl
run_bytes false pos section = refl

run_count : (test : Bool) (pos : Pos) (section : LooseSection)
    → length (cond test section (with_item (new_item pos Run) section)).items ≡ cond test (length section.items) (length section.items + 1)
run_count true pos section = refl
run_count false pos section = length-append section.items _

-- the fields of an instruction are beside its other bytes
own_beside : (pos : Pos) (number item offset k : ℕ) (fields : List FieldInCode) → IsOutside k fields
    → All (IsBeside (offset + k) (offset + k + 1)) (map (field_in pos number item offset) fields)
own_beside pos number item offset k [] out = All-nil _
own_beside pos number item offset k (field ∷ fields) out =
    All-cons (IsBeside (offset + k) (offset + k + 1)) (field_in pos number item offset field) (map (field_in pos number item offset) fields)
    (either out.0) (own_beside pos number item offset k fields out.1)
  where
    either : (k < field.at) ⊎ (field.at + width field.size ≤ k) → IsBeside (offset + k) (offset + k + 1) (field_in pos number item offset field)
    either (inl low) = inr (omega (arith, low))
    either (inr high) = inl (omega (arith, high))

module _ (facts : Facts) (symbols : SymbolMap) (laid : LaidSections) (number : ℕ) (before after : List LooseSection) (pos : Pos) (bytes : List ℕ) (fields : List FieldInCode)
    (code : List ℕ) (all_within : AreWithin before) (put : IsCodePut before after number pos bytes fields) (l : IsLoadedLater symbols laid number after code) where
  abbrev section : LooseSection
  section = put.section

  abbrev run : LooseSection
  run = with_run pos section

  abbrev new : LooseSection
  new = with_code pos number bytes fields section

  new_there : slice_get after number ≡ Some new
  new_there = ap (λ (all : List LooseSection). slice_get all number) put.put ∙ get_set before number section new put.there

  more : IsContinued new (slice_get l.later number)
  more = l.grows.kept number new new_there

  abbrev whole : LooseSection
  whole = with_more new more.bytes more.fields more.items

  abbrev own : List ℕ
  own = (facts.layouts.section symbols l.later laid number whole l.is more.there).0

  abbrev kept : SectionOf LaidItem
  kept = kept_section symbols own whole

  kept_there : slice_get laid number ≡ Some kept
  kept_there = (facts.layouts.section symbols l.later laid number whole l.is more.there).1

  kept_is : l.kept ≡ kept
  kept_is = same_Some l.kept kept (sym l.there ∙ kept_there)

  within : IsWithin section
  within = All-there IsWithin before number section put.there all_within

  within_run : IsWithin run
  within_run = facts.puts.run pos section within

  abbrev item : ℕ
  item = length run.items

  abbrev offset : ℕ
  offset = length section.bytes

  same_bytes : length run.bytes ≡ offset
  same_bytes = ap (λ (xs : List ℕ). length xs) (run_bytes (ends_in_run section.items) pos section)

  long : length (blanked bytes fields) ≡ length bytes
  long = blank_long bytes fields put.apart

  new_long : length new.bytes ≡ offset + length bytes
  new_long = let count = length-append section.bytes (blanked bytes fields) in let same = long in omega (arith, count, same)

  -- the items before the instruction, and those after it
  between : (k : ℕ) → k < length bytes → AreBetween whole.items item (offset + k) (offset + k + 1)
  between k few = record {
    enough = let count = length-append run.items more.items in omega (arith, count);
    before =
        subst (λ (items : List LooseItem). All (λ item. item.offset ≤ offset + k) items) (sym (take_first run.items more.items))
        (All-weaker (λ (i : LooseItem). i.offset ≤ length run.bytes) (λ (i : LooseItem). i.offset ≤ offset + k)
        (λ i low. let same = same_bytes in omega (arith, low, same)) run.items within_run.items);
    after =
        subst (λ (items : List LooseItem). All (λ item. offset + k + 1 ≤ item.offset) items) (sym (drop_first run.items more.items))
        (All-weaker (λ (i : LooseItem). length new.bytes ≤ i.offset) (λ (i : LooseItem). offset + k + 1 ≤ i.offset)
        (λ i high. let same = new_long in omega (arith, high, same, few)) more.items more.items_behind);
  }

  kept_between : (k : ℕ) → k < length bytes → IsBetween kept.items item (offset + k) (offset + k + 1)
  kept_between k few = record {
    before = facts.layouts.first (offset + k) item whole.items own (between k few).before;
    behind = facts.layouts.others (offset + k + 1) item whole.items own (between k few).after;
  }

  -- no field has the byte
  free : (k : ℕ) → k < length bytes → IsOutside k fields → All (IsBeside (offset + k) (offset + k + 1)) whole.fields
  free k few out =
      All-append (IsBeside (offset + k) (offset + k + 1)) (section.fields ++ map (field_in pos number item offset) fields) more.fields
      (All-append (IsBeside (offset + k) (offset + k + 1)) section.fields (map (field_in pos number item offset) fields)
      (All-weaker (λ (field : Field). field_end field ≤ length section.bytes) (IsBeside (offset + k) (offset + k + 1))
      (λ field low. inl (omega (arith, low))) section.fields within.fields)
      (own_beside pos number item offset k fields out))
      (All-weaker (λ (field : Field). length new.bytes ≤ field.offset) (IsBeside (offset + k) (offset + k + 1))
      (λ field high. let same = new_long in inr (omega (arith, high, same, few))) more.fields more.fields_behind)

  -- which byte it is
  get_whole : (k : ℕ) → k < length bytes → IsOutside k fields → slice_get whole.bytes (offset + k) ≡ slice_get bytes k
  get_whole k few out =
      let same = new_long in
      get_within new.bytes more.bytes (offset + k) (omega (arith, same, few)) ∙ get_after section.bytes (blanked bytes fields) k
      ∙ get_blanked bytes fields put.apart k few out

  filed : IsFiled laid number kept
  filed = record {
    found = kept_there;
    takes_bytes = subst (λ (s : SectionOf LaidItem). (s.kind == no_bits) ≡ false) kept_is l.takes_bytes;
    laid = facts.layouts.placed symbols l.later laid number kept l.is kept_there;
    sized = facts.layouts.sized symbols l.later laid number kept l.is kept_there;
  }

  whole_within : IsWithin whole
  whole_within = All-there IsWithin l.later number whole more.there l.within

  loaded : IsLoaded (image_of symbols laid) (section_offset symbols laid number) (whole_size kept) (section_relocations symbols laid number kept) code
  loaded =
      subst (λ (s : SectionOf LaidItem). IsLoaded (image_of symbols laid) (section_offset symbols laid number) (whole_size s) (section_relocations symbols laid number s) code)
      kept_is l.loaded

  relocated : All (HoldsRelocated symbols laid number kept) kept.fields
  relocated = subst (λ (s : SectionOf LaidItem). All (HoldsRelocated symbols laid number s) s.fields) kept_is l.relocated

  items_are : items_in laid number ≡ kept.items
  items_are = ap (λ found. option_map_or (λ (s : SectionOf LaidItem). s.items) found []) kept_there

  -- the items before the instruction are the first ones of the layout
  first : AreFirst run (items_in laid number)
  first =
      let all = facts.keep symbols l.later laid number whole l.is more.there in
      record { each = λ index item found. all.each index item (get_first run.items more.items index item found) }

  abbrev place : ℕ
  place = place_in laid number before

  place_is : place ≡ offset + shift_of item 0 (items_in laid number)
  place_is =
      let none = facts.runs pos section (items_in laid number) first in
      let count : item ≡ run_end section = run_count (ends_in_run section.items) pos section in
      let same = ap (λ n. shift_of n 0 (items_in laid number)) count in
      let at : place ≡ end_in (items_in laid number) section = ap (λ found. option_map_or (end_in (items_in laid number)) found 0) put.there in
      omega (arith, none, same, at)

  moved_is : (k : ℕ) → moved kept.items item (offset + k) ≡ place + k
  moved_is k =
      let at = place_is in
      let same = ap (λ (items : List LaidItem). shift_of item 0 items) items_are in
      omega (arith, at, same)

  -- it moves the place of what is put next
  next_is : place_in laid number after ≡ place + length bytes
  next_is =
      let at : place_in laid number after ≡ end_in (items_in laid number) new = ap (λ found. option_map_or (end_in (items_in laid number)) found 0) new_there in
      let start = place_is in
      let size = new_long in
      omega (arith, at, start, size)

  -- the instruction ends within the section
  ends : place + length bytes ≤ whole_size kept
  ends =
      let up = (facts.inside after laid number new kept (record { symbols = symbols; later = l.later; grows = l.grows; is = l.is }) new_there kept_there).inside in
      let at = next_is in
      omega (arith, up, at)

  -- the byte in the object
  object_byte : (k byte : ℕ) → k < length bytes → IsOutside k fields → slice_get bytes k ≡ Some byte
      → slice_get (image_of symbols laid) (section_offset symbols laid number + (place + k)) ≡ Some byte
  object_byte k byte few out is =
      let fits : offset + k ≤ length kept.bytes =
      let same = new_long in let count = length-append new.bytes more.bytes in omega (arith, same, count, few) in
      let piece = facts.stand symbols laid number item (offset + k) kept (byte ∷ []) filed fits
      (one_piece kept.bytes (offset + k) byte (get_whole k few out ∙ is))
      (facts.layouts.beside symbols (offset + k) (offset + k + 1) whole.fields (free k few out)) (kept_between k few) in
      ap (λ n. slice_get (image_of symbols laid) (section_offset symbols laid number + n)) (sym (moved_is k))
      ∙ piece_get (image_of symbols laid) (section_offset symbols laid number + moved kept.items item (offset + k)) byte piece

  -- no relocation changes it
  beside : (k : ℕ) → k < length bytes → IsOutside k fields → All (IsBesideRelocation (place + k)) (section_relocations symbols laid number kept)
  beside k few out =
      subst (λ n. All (IsBesideRelocation n) (section_relocations symbols laid number kept)) (moved_is k)
      (facts.beside symbols l.later laid number item (offset + k) whole kept l.is more.there kept_there whole_within (between k few) (free k few out) relocated)

  stands : StandsBeside bytes code place fields
  stands = record {
    within = let size = loaded.long in let up = ends in omega (arith, size, up);
    same = λ k few out.
        let byte = get_or bytes k 0 in
        let is = slice_get-get_or bytes k 0 few in
        let up = ends in
        loaded.same (place + k) (omega (arith, up, few)) (beside k few out) ∙ object_byte k byte few out is ∙ sym is;
  }

pub loaded_codes_stand : Facts → LoadedCodesStand
loaded_codes_stand facts symbols laid number before after pos bytes fields code within put l = record {
  moves = next_is facts symbols laid number before after pos bytes fields code within put l;
  stands = stands facts symbols laid number before after pos bytes fields code within put l;
}
