-- The labels of places.
use Rattle.std.specs.Prelude.{◌≡◌, ℕ, List, ◌++◌, All, IsSomeAnd, None, slice_get}
use Rattle.asm_symbols.specs.declared.entries.Meaning.TheVariants.{Label}
use Rattle.asm_symbols.specs.declared.entries.Spot.{Spot}
use Rattle.asm_symbols.specs.declared.entries.Symbol.{Symbol}
use Rattle.asm_symbols.specs.SymbolMap.{SymbolMap}
use Rattle.asm_base.specs.declared.places.SectionPlace.{SectionPlace}
use Rattle.table_pieces.specs.Marks.{place_name}

-- the spot is at the place
pub record IsSpot (at : SectionPlace) (spot : Spot) : Type 0 where
  pub section : spot.place.section ≡ at.section
  pub item : spot.place.place.item ≡ at.place.item
  pub offset : spot.place.place.offset ≡ at.place.offset

-- the symbol is a label at the place, and is local
pub record IsLabelAt (at : SectionPlace) (symbol : Symbol) : Type 0 where
  pub spot : Spot
  pub means : symbol.meaning ≡ Label spot
  pub place : IsSpot at spot
  pub unbound : symbol.binding ≡ None

-- each symbol that has the name of a place is a label there
abbrev pub PlacesAreLabels : SymbolMap → Type 0
PlacesAreLabels map = All (λ symbol. (at : SectionPlace) → symbol.name ≡ place_name at → IsLabelAt at symbol) map.symbols

-- the symbol of this number is a label at the place
abbrev pub NamesPlace : SymbolMap → ℕ → SectionPlace → Type 0
NamesPlace map number at = IsSomeAnd (slice_get map.symbols number) (IsLabelAt at)

-- the map became this one: labels of places are last, and all else is as it was
pub record GetsLabels (before after : SymbolMap) : Type 0 where
  pub labels : List Symbol
  pub all : after.symbols ≡ before.symbols ++ labels
  pub each : All (λ label. (at : SectionPlace) × (label.name ≡ place_name at) × IsLabelAt at label) labels
  pub files : after.files ≡ before.files
  pub counts : after.counts ≡ before.counts
  pub sizes : after.sizes ≡ before.sizes
