-- Where marks stand in a layout.
use Rattle.std.proofs.Common.{◌≡◌, ℕ, ◌+◌, ◌^◌, ◌<◌, ◌≤◌, List, [], ◌∷◌, All, Some, Ok, length, drop, refl, sym, ap, ◌∙◌, arith}
use Rattle.std.specs.Prelude.{map, slice_get}
use Rattle.std.specs.Option.{option_map_or}
use Rattle.std.proofs.lemmas.List.{length-map}
use Rattle.std.proofs.lemmas.List.Elements.{All-weaker}
use Rattle.asm_expr.specs.Forms.{wrapped}
use Rattle.asm_symbols.specs.SymbolMap.{SymbolMap}
use Rattle.asm_frags.specs.SectionOf.{SectionOf}
use Rattle.asm_frags.specs.Substituting.{laid_item}
use Rattle.asm_frags.specs.Writing.{LooseSection}
use Rattle.asm_relax.specs.Final.{shift_in, address_in, address_of}
use Rattle.asm_relax.specs.KeptSections.{kept_section, LayoutsKeepSections}
use Rattle.asm_relax.specs.Layout.{laid_from}
use Rattle.asm_relax.specs.Placing.{placed_from, placed_section, shift_of}
use Rattle.asm_relax.specs.Settling.{LaidItem, LaidSections, layout_of}
use Rattle.asm_base.specs.declared.places.SectionPlace.{SectionPlace}
use Rattle.section_laws.specs.Within.{IsWithin}
use Rattle.table_pieces.specs.StandingPlaces.{HoldsItems}
use Rattle.elf_object.specs.Places.{moved}
use Rattle.piece_laws.specs.LaidTables.{IsSmall}
use Rattle.piece_laws.specs.LaidTables.{place_address}
use Rattle.piece_laws.proofs.Lists.{all_there}

-- a section keeps its number of items
pub laid_long : (shifts : List ℕ) (items : List LaidItem) → length (laid_from shifts items) ≡ length items
laid_long shifts [] = refl
laid_long shifts (item ∷ items) = let later = laid_long (drop 1 shifts) items in omega (arith, later)

module _ (layouts : LayoutsKeepSections)
    (shift : (items : List LaidItem) (before : ℕ) → before ≤ length items → All (λ item. item.offset < 2 ^ 64) items
    → shift_in (placed_from 0 items) before ≡ wrapped (shift_of before 0 items))
    (symbols : SymbolMap) (sections : List LooseSection) (laid : LaidSections) (is : layout_of symbols sections ≡ Ok laid) (within : All IsWithin sections)
    (small : All IsSmall laid) where
  -- a place behind some of the items of a section that is there is told as its address, modulo 2^64
  pub told_is : (at : SectionPlace) → HoldsItems sections at.section at.place.item
      → address_of laid at.section at.place.item at.place.offset ≡ wrapped (place_address laid at)
  unfolding address_of
  told_is at has =
      let own = (layouts.section symbols sections laid at.section has.held is has.there).0 in
      let kept = kept_section symbols own has.held in
      let there : slice_get laid at.section ≡ Some kept = (layouts.section symbols sections laid at.section has.held is has.there).1 in
      let stays : placed_section kept ≡ kept = layouts.placed symbols sections laid at.section kept is there in
      let bytes : moved kept.items (length kept.items) (length kept.bytes) ≤ 2 ^ 30 = (all_there IsSmall laid at.section kept there small).size in
      let few : length has.held.bytes ≤ 2 ^ 30 = omega (arith, bytes) in
      let low : All (λ (item : LaidItem). item.offset < 2 ^ 64) kept.items =
      All-weaker (λ (item : LaidItem). item.offset ≤ length has.held.bytes) (λ (item : LaidItem). item.offset < 2 ^ 64)
      (λ item before. omega (arith, before, few)) kept.items
      (layouts.up_to (length has.held.bytes) has.held.items own (all_there IsWithin sections at.section has.held has.there within).items) in
      let enough = has.enough in
      let long = length-map has.held.items laid_item in
      let count = laid_long own (map laid_item has.held.items) in
      let moves : shift_in kept.items at.place.item ≡ wrapped (shift_of at.place.item 0 kept.items) =
      ap (λ (section : SectionOf LaidItem). shift_in section.items at.place.item) (sym stays)
      ∙ shift kept.items at.place.item (omega (arith, enough, long, count)) low in
      let told : address_of laid at.section at.place.item at.place.offset ≡ wrapped (at.place.offset + shift_in kept.items at.place.item) =
      ap (λ found. option_map_or (λ (section : SectionOf LaidItem). address_in section.items at.place.item at.place.offset) found 0) there in
      let place : place_address laid at ≡ at.place.offset + shift_of at.place.item 0 kept.items =
      ap (λ found. option_map_or (λ (section : SectionOf LaidItem). moved section.items at.place.item at.place.offset) found 0) there in
      omega (arith, moves, told, place)
