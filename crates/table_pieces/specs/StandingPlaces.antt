-- Places that stand in their sections: those of marks, and of the labels that pieces bring.
use Rattle.std.specs.Prelude.{◌≡◌, ℕ, ◌≤◌, List, [], ◌∷◌, ◌++◌, length, All, Some, slice_get}
use Rattle.asm_base.specs.declared.positions.Pos.{Pos}
use Rattle.asm_frags.specs.Writing.{LooseSection}
use Rattle.asm_symbols.specs.declared.entries.Meaning.TheVariants.{Label}
use Rattle.asm_symbols.specs.declared.entries.Spot.{Spot}
use Rattle.asm_symbols.specs.declared.entries.Symbol.{Symbol}
use Rattle.asm_symbols.specs.SymbolMap.{SymbolMap}
use Rattle.table_pieces.specs.declared.marks.Mark.{Mark}
use Rattle.table_pieces.specs.declared.marks.Mark.TheVariants.{Here, At}
use Rattle.table_pieces.specs.Pieces as put
use Rattle.table_pieces.specs.Pieces.{Piece, Tables, pieces_put}

-- the section of this number is there, with at least so many items
pub record HoldsItems (sections : List LooseSection) (number items : ℕ) : Type 0 where
  pub held : LooseSection
  pub there : slice_get sections number ≡ Some held
  pub enough : items ≤ length held.items

-- the symbol is a label whose place stands in its section
abbrev pub LabelStands : List LooseSection → Symbol → Type 0
LabelStands sections symbol = (spot : Spot) × (symbol.meaning ≡ Label spot) × HoldsItems sections spot.place.section spot.place.place.item

-- labels whose places stand in the sections are put last in the map
pub record GetsStanding (sections : List LooseSection) (before after : SymbolMap) : Type 0 where
  pub labels : List Symbol
  pub all : after.symbols ≡ before.symbols ++ labels
  pub each : All (LabelStands sections) labels

-- the place of a mark stands in its section
abbrev pub MarkStands : List LooseSection → Mark → Type 0
MarkStands sections Here = Unit {0}
MarkStands sections (At at) = HoldsItems sections at.section at.place.item

-- the places of a piece stand in their sections
abbrev pub PlacesStand : List LooseSection → Piece → Type 0
PlacesStand sections (put.plain bytes) = Unit {0}
PlacesStand sections (put.number distance) = MarkStands sections distance.to × MarkStands sections distance.from
PlacesStand sections (put.pointer place) = HoldsItems sections place.section place.place.item
PlacesStand sections (put.address place) = HoldsItems sections place.section place.place.item
PlacesStand sections (put.field size form) = Unit {0}
PlacesStand sections (put.advance distance) = MarkStands sections distance.to × MarkStands sections distance.from
PlacesStand sections (put.leb128 distance) = MarkStands sections distance.to × MarkStands sections distance.from
PlacesStand sections (put.padding log) = Unit {0}

-- so do those of all these pieces
abbrev pub AllPlacesStand : List LooseSection → List Piece → Type 0
AllPlacesStand sections [] = Unit {0}
AllPlacesStand sections (piece ∷ pieces) = PlacesStand sections piece × AllPlacesStand sections pieces

-- then those of the labels that the pieces bring do; and labels are added up
pub record PiecesBringStanding : Type 0 where
  pub pieces : (sections : List LooseSection) (section : ℕ) (pos : Pos) (pieces : List Piece) (tables : Tables) → AllPlacesStand sections pieces
      → GetsStanding sections tables.symbols (pieces_put section pos pieces tables).symbols
  pub same : (sections : List LooseSection) (map : SymbolMap) → GetsStanding sections map map
  pub on : (sections : List LooseSection) (before middle after : SymbolMap) → GetsStanding sections before middle → GetsStanding sections middle after
      → GetsStanding sections before after
