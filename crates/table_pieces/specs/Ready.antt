-- What holds before a table is put, and goes on holding behind it.
use Rattle.std.specs.Prelude.{◌≡◌, ℕ, ◌^◌, ◌≤◌, ◌⊎◌, List, length, All, Some, slice_get}
use Rattle.asm_base.specs.declared.places.Place.{Place}
use Rattle.asm_frags.specs.Writing.{LooseSection}
use Rattle.asm_symbols.specs.declared.entries.Meaning.TheVariants.{Label, Space}
use Rattle.asm_symbols.specs.declared.entries.Spot.{Spot}
use Rattle.asm_symbols.specs.declared.entries.Symbol.{Symbol}
use Rattle.asm_symbols.specs.SymbolMap.{SymbolMap}
use Rattle.section_laws.specs.Within.{IsWithin}
use Rattle.table_pieces.specs.Labels.{PlacesAreLabels}
use Rattle.table_pieces.specs.Pieces.{Tables}
use Rattle.table_pieces.specs.Standing.{AllExtend}
use Rattle.table_pieces.specs.StandingPlaces.{HoldsItems, GetsStanding}

-- the place stands in the section of this number, behind some of its plain bytes and items
pub record IsInSection (sections : List LooseSection) (number : ℕ) (place : Place) : Type 0 where
  pub held : LooseSection
  pub there : slice_get sections number ≡ Some held
  pub items : place.item ≤ length held.items
  pub bytes : place.offset ≤ length held.bytes

-- a symbol that has a place stands in a section that is there, behind some of its items
abbrev pub SymbolHolds : List LooseSection → Symbol → Type 0
SymbolHolds sections symbol = (spot : Spot) → (symbol.meaning ≡ Label spot) ⊎ (symbol.meaning ≡ Space spot) → HoldsItems sections spot.place.section spot.place.place.item

-- before a table is put, items and fields stand within their sections, there are at most 2^24 symbols, those with the name of a place are labels there,
-- and all that have a place stand in a section
pub record AreReady (tables : Tables) : Type 0 where
  pub within : All IsWithin tables.sections
  pub few : length tables.symbols.symbols ≤ 2 ^ 24
  pub named : PlacesAreLabels tables.symbols
  pub stand : All (SymbolHolds tables.sections) tables.symbols.symbols

-- where sections stay, with more behind, so do places in them; and with labels whose places stand there, all symbols that have a place stand there
pub record SectionsKeepPlaces : Type 0 where
  pub items : (before after : List LooseSection) (number items : ℕ) → AllExtend before after → HoldsItems before number items → HoldsItems after number items
  pub place : (before after : List LooseSection) (number : ℕ) (place : Place) → AllExtend before after → IsInSection before number place
      → IsInSection after number place
  pub symbols : (before after : List LooseSection) (map labelled : SymbolMap) → AllExtend before after → All (SymbolHolds before) map.symbols
      → GetsStanding after map labelled → All (SymbolHolds after) labelled.symbols
