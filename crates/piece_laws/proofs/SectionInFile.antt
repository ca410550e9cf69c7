-- What stands in a section stands in the file.
use Rattle.std.proofs.Common.{◌≡◌, ℕ, suc, ◌+◌, inl, inr, false, List, Some, Ok, length, refl, sym, ap, ◌∙◌, subst, arith}
use Rattle.std.specs.Prelude.{slice_get, option_map}
use Rattle.std.specs.Option.{option_map_or}
use Rattle.std.proofs.lemmas.Option.{same_Some, slice_get-map}
use Rattle.asm_base.specs.declared.positions.Pos.{Pos}
use Rattle.asm_symbols.specs.SymbolMap.{SymbolMap}
use Rattle.asm_frags.specs.declared.fields.Field.{Field}
use Rattle.asm_frags.specs.PlainBytes.{field_end}
use Rattle.asm_frags.specs.Addresses.{item_laid_at}
use Rattle.asm_frags.specs.SectionOf.{SectionOf}
use Rattle.asm_frags.specs.Substituting.{substituted_field, laid_item}
use Rattle.asm_frags.specs.Writing.{LooseItem, LooseSection, takes_zeros_alone}
use Rattle.assigned_forms.specs.Linked.{linked}
use Rattle.item_contents.specs.declared.contents.Content.TheVariants.{Run}
use Rattle.item_contents.specs.Contents.{MayHave}
use Rattle.asm_relax.specs.KeptSections.{kept_section, LayoutsKeepSections}
use Rattle.asm_relax.specs.Placing.{placed_from, shift_of}
use Rattle.asm_relax.specs.Settling.{LaidItem, LaidSections, layout_of}
use Rattle.elf_file.specs.Places.{PieceAt}
use Rattle.elf_object.specs.Contents.{field_bytes, item_bytes}
use Rattle.elf_object.specs.FieldRelocations.{SaidFieldsHaveOne, ValuelessFieldsHaveOne, ValuesHaveNone}
use Rattle.elf_object.specs.Image.{image_of}
use Rattle.elf_object.specs.RelocationLaws.{RelocationsMeanForms}
use Rattle.elf_object.specs.Places.{section_offset, moved, BytesStand, ValuesStand, IsFiled, IsBetween, ItemsStand}
use Rattle.table_pieces.specs.declared.ends.SectionEnd.{SectionEnd}
use Rattle.table_pieces.specs.Ends.{end_place}
use Rattle.section_laws.specs.Within.{IsWithin, AreBetween}
use Rattle.table_pieces.specs.Found.{PlainAt, FieldAt, ItemAt, RunAt, item_at}
use Rattle.piece_laws.specs.LaidTables.{place_address}
use Rattle.piece_laws.proofs.Lists.{all_there}
use Rattle.piece_laws.proofs.Shifts.{shift_next}

-- what is known of the bytes of all objects
pub record FileFacts : Type 0 where
  pub layouts : LayoutsKeepSections
  pub bytes : BytesStand
  pub values : ValuesStand
  pub items : ItemsStand
  pub one : SaidFieldsHaveOne
  pub valueless : ValuelessFieldsHaveOne
  pub valued : ValuesHaveNone
  pub mean : RelocationsMeanForms
  pub addresses : (items : List LaidItem) (index : ℕ) → slice_get (placed_from 0 items) index
      ≡ option_map (λ item. item_laid_at (item.offset + shift_of index 0 items) item.size item) (slice_get items index)

module _ (facts : FileFacts) (symbols : SymbolMap) (sections : List LooseSection) (laid : LaidSections) (n : ℕ) (held : LooseSection)
    (is : layout_of symbols sections ≡ Ok laid) (holds_it : slice_get sections n ≡ Some held) (takes : takes_zeros_alone held ≡ false) (low : IsWithin held) where
  -- how far its rows are moved
  abbrev own : List ℕ
  own = (facts.layouts.section symbols sections laid n held is holds_it).0

  -- the section as it is laid out
  abbrev pub kept : SectionOf LaidItem
  kept = kept_section symbols own held

  pub kept_there : slice_get laid n ≡ Some kept
  kept_there = (facts.layouts.section symbols sections laid n held is holds_it).1

  filed : IsFiled laid n kept
  filed = record {
    found = kept_there;
    takes_bytes = takes;
    laid = facts.layouts.placed symbols sections laid n kept is kept_there;
    sized = facts.layouts.sized symbols sections laid n kept is kept_there;
  }

  -- where an end of the section stands in the layout
  abbrev pub at_end : SectionEnd → ℕ
  at_end end = moved kept.items end.items end.bytes

  -- it is the address of its place
  pub end_address : (end : SectionEnd) → place_address laid (end_place n end) ≡ at_end end
  end_address end = ap (λ found. option_map_or (λ (section : SectionOf LaidItem). moved section.items end.items end.bytes) found 0) kept_there

  -- an item as it is laid out: its size, how far it moves what is behind it, and where its bytes stand in the file
  pub record LaidThere (index : ℕ) (item : LooseItem) : Type 0 where
    pub found : LaidItem
    pub there : slice_get kept.items index ≡ Some found
    pub content : found.content ≡ item.content
    pub may : MayHave item.content found.size
    pub next : shift_of (suc index) 0 kept.items ≡ shift_of index 0 kept.items + found.size
    pub stands : PieceAt (image_of symbols laid) (section_offset symbols laid n + moved kept.items index item.offset) (item_bytes symbols laid kept item.content found.size)

  -- each item that is found in the section is laid out so
  pub laid_there : (index : ℕ) (item : LooseItem) → ItemAt held index item → LaidThere index item
  laid_there index item has =
      let got = facts.layouts.item held.items own index item has.there in
      let settled_item = item_laid_at got.0 got.1 (laid_item item) in
      let stays : slice_get (placed_from 0 kept.items) index ≡ Some settled_item =
      ap (λ (s : SectionOf LaidItem). slice_get s.items index) (facts.layouts.placed symbols sections laid n kept is kept_there) ∙ got.2 in
      let moves : slice_get (placed_from 0 kept.items) index ≡ Some (item_laid_at (item.offset + shift_of index 0 kept.items) got.1 settled_item) =
      facts.addresses kept.items index
      ∙ ap (option_map (λ (i : LaidItem). item_laid_at (i.offset + shift_of index 0 kept.items) i.size i)) got.2 in
      let address : got.0 ≡ moved kept.items index item.offset = ap (λ (i : LaidItem). i.address) (same_Some _ _ (sym stays ∙ moves)) in
      record {
        found = settled_item;
        there = got.2;
        content = refl;
        may = all_there (λ (i : LaidItem). MayHave i.content i.size) kept.items index settled_item got.2
            (facts.layouts.sized symbols sections laid n kept is kept_there);
        next = shift_next kept.items index 0 settled_item got.2;
        stands = subst (λ at. PieceAt (image_of symbols laid) (section_offset symbols laid n + at) (item_bytes symbols laid kept item.content got.1)) address
            (facts.items symbols laid n index kept settled_item filed got.2 has.within
            (facts.layouts.first item.offset index held.items own has.first));
      }

  -- a run that begins has no bytes of its own, and so what stands in it is moved no farther
  pub run_moves : (pos : Pos) (end : SectionEnd) (count : ℕ) → RunAt held pos end count → moved kept.items count end.bytes ≡ at_end end
  run_moves pos end count (inl same) = ap (λ c. moved kept.items c end.bytes) same
  run_moves pos end count (inr (next, item)) =
      let there = laid_there end.items (item_at pos end Run) item in
      let none : there.found.size ≡ 0 = there.may in
      let one : count ≡ suc end.items = omega (arith, next) in
      let moves = there.next in
      ap (λ c. moved kept.items c end.bytes) one ∙ omega (arith, moves, none)

  -- the first items stand before these bytes and the others behind them, where they are laid out too
  between_kept : (count from to : ℕ) → AreBetween held.items count from to → IsBetween kept.items count from to
  between_kept count from to between = record {
    before = facts.layouts.first from count held.items own between.before;
    behind = facts.layouts.others to count held.items own between.after;
  }

  -- plain bytes stand in the file
  pub plain_stands : (count offset : ℕ) (bytes : List ℕ) → PlainAt held count offset bytes
      → PieceAt (image_of symbols laid) (section_offset symbols laid n + moved kept.items count offset) bytes
  plain_stands count offset bytes at =
      let within = at.within in
      facts.bytes symbols laid n count offset kept bytes filed (omega (arith, within)) at.there
      (facts.layouts.beside symbols offset (offset + length bytes) held.fields at.apart) (between_kept count offset (offset + length bytes) at.between)

  -- a field, with assigned symbols expanded in its form
  pub field_there : (index : ℕ) (field : Field) → slice_get held.fields index ≡ Some field → slice_get kept.fields index ≡ Some (substituted_field (linked symbols) field)
  field_there index field has =
      slice_get-map (substituted_field (linked symbols)) held.fields index ∙ ap (option_map (substituted_field (linked symbols))) has

  -- the value of a field stands in the file
  pub field_stands : (index : ℕ) (field : Field) → FieldAt held index field
      → PieceAt (image_of symbols laid) (section_offset symbols laid n + moved kept.items field.item field.offset)
      (field_bytes symbols laid (substituted_field (linked symbols) field))
  field_stands index field at =
      facts.values symbols laid n index kept (substituted_field (linked symbols) field) filed
      (facts.layouts.stand symbols held.bytes 0 held.fields low.apart) (field_there index field at.there)
      (between_kept field.item field.offset (field_end field) at.between)
