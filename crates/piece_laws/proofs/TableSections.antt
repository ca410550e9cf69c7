-- The section of a table in a layout, and what is known of it.
use Rattle.std.proofs.Common.{◌≡◌, ℕ, ◌^◌, ◌<◌, ◌≤◌, false, List, All, Ok, Some, length, map, ◌∙◌}
use Rattle.std.specs.Prelude.{slice_get}
use Rattle.std.proofs.lemmas.List.{length-map}
use Rattle.asm_expr.specs.Forms.{wrapped}
use Rattle.asm_symbols.specs.SymbolMap.{SymbolMap}
use Rattle.asm_frags.specs.Fields.{own_place}
use Rattle.asm_frags.specs.SectionOf.{SectionOf}
use Rattle.asm_frags.specs.Substituting.{laid_item}
use Rattle.asm_frags.specs.Writing.{LooseSection, takes_zeros_alone}
use Rattle.item_contents.specs.declared.contents.Content.{Content}
use Rattle.item_contents.specs.Contents.{MayHave, bytes_of}
use Rattle.item_rows.specs.ItemRows.{rows_of, levels_of}
use Rattle.asm_relax.specs.Final.{shift_in, address_of}
use Rattle.asm_relax.specs.ItemValues.{AreLow}
use Rattle.asm_relax.specs.Placing.{placed_from, shift_of}
use Rattle.asm_relax.specs.SettledRoom.{SettledHaveRoom}
use Rattle.asm_relax.specs.Settling.{LaidItem, LaidSections, planned, layout_of}
use Rattle.elf_object.specs.Image.{image_of}
use Rattle.elf_object.specs.Places.{section_offset, moved}
use Rattle.asm_base.specs.declared.places.SectionPlace.{SectionPlace}
use Rattle.table_pieces.specs.declared.ends.SectionEnd.{SectionEnd}
use Rattle.table_pieces.specs.Ends.{end_place}
use Rattle.section_laws.specs.Within.{IsWithin}
use Rattle.table_pieces.specs.StandingPlaces.{HoldsItems}
use Rattle.piece_laws.specs.HeldDistances.{DistancesAreHeld, FormsAreExpanded, PlacesAreApart, AddressesAreLinked}
use Rattle.table_pieces.specs.Ready.{SymbolHolds}
use Rattle.piece_laws.specs.LaidTables.{IsSmall, place_address, LaidTable}
use Rattle.piece_laws.proofs.Lists.{all_there}
use Rattle.piece_laws.proofs.LaidMarks.{laid_long, told_is}
use Rattle.piece_laws.proofs.MarkSymbols.{LabelFacts}
use Rattle.piece_laws.proofs.SectionInFile as section_in_file
use Rattle.piece_laws.proofs.SectionInFile.{FileFacts}

-- what is known of all pieces of tables
pub record PieceFacts : Type 0 where
  pub file : FileFacts
  pub labels : LabelFacts
  pub held : DistancesAreHeld
  pub expanded : FormsAreExpanded
  pub apart : PlacesAreApart
  pub linked : AddressesAreLinked
  pub room : SettledHaveRoom
  pub sized : (content : Content) (size value : ℕ) → MayHave content size → length (bytes_of content size value) ≡ size
  pub shift : (items : List LaidItem) (before : ℕ) → before ≤ length items → All (λ item. item.offset < 2 ^ 64) items
      → shift_in (placed_from 0 items) before ≡ wrapped (shift_of before 0 items)

-- a section of a layout
pub record TableSection : Type 0 where
  pub symbols : SymbolMap
  pub sections : List LooseSection
  pub laid : LaidSections
  pub number : ℕ
  pub held : LooseSection
  pub is : layout_of symbols sections ≡ Ok laid
  pub found : slice_get sections number ≡ Some held
  pub takes : takes_zeros_alone held ≡ false
  pub low : IsWithin held
  pub few : length symbols.symbols ≤ own_place
  pub small : (kept : SectionOf LaidItem) → slice_get laid number ≡ Some kept → IsSmall kept
  pub stand : All (SymbolHolds sections) symbols.symbols
  pub rows : AreLow symbols (levels_of (rows_of symbols (planned symbols sections))) (planned symbols sections)
  pub told : (at : SectionPlace) → HoldsItems sections at.section at.place.item
      → address_of laid at.section at.place.item at.place.offset ≡ wrapped (place_address laid at)

-- so it is of a section of the layout of ready symbols and sections
abbrev pub table_section : PieceFacts → LaidTable → TableSection
table_section facts t = record {
  symbols = t.symbols;
  sections = t.sections;
  laid = t.laid;
  number = t.number;
  held = t.held;
  is = t.is;
  found = t.found;
  takes = t.takes;
  low = all_there IsWithin t.sections t.number t.held t.found t.within;
  few = t.few;
  small = λ kept found. all_there IsSmall t.laid t.number kept found t.low.small;
  stand = t.stand;
  rows = t.low.rows;
  told = told_is facts.file.layouts facts.shift t.symbols t.sections t.laid t.is t.within t.low.small;
}

module _ (facts : PieceFacts) (t : TableSection) where
  -- the bytes of the object file
  abbrev pub image : List ℕ
  image = image_of t.symbols t.laid

  -- where the section begins in it
  abbrev pub base : ℕ
  base = section_offset t.symbols t.laid t.number

  -- the section as it is laid out
  abbrev pub kept : SectionOf LaidItem
  kept = section_in_file.kept facts.file t.symbols t.sections t.laid t.number t.held t.is t.found t.takes t.low

  -- where an end of the section stands in the layout
  abbrev pub at_end : SectionEnd → ℕ
  at_end end = moved kept.items end.items end.bytes

  -- its items are as many as before
  pub kept_long : length kept.items ≡ length t.held.items
  kept_long = laid_long own_shifts (map laid_item t.held.items) ∙ length-map t.held.items laid_item
    where
      own_shifts : List ℕ
      own_shifts = (facts.file.layouts.section t.symbols t.sections t.laid t.number t.held t.is t.found).0

  -- it is not too large
  pub kept_small : IsSmall kept
  kept_small = t.small kept (section_in_file.kept_there facts.file t.symbols t.sections t.laid t.number t.held t.is t.found t.takes t.low)

  -- an end stands at the address of its place
  pub end_is : (end : SectionEnd) → place_address t.laid (end_place t.number end) ≡ at_end end
  end_is = section_in_file.end_address facts.file t.symbols t.sections t.laid t.number t.held t.is t.found t.takes t.low
