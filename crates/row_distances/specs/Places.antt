-- Where symbols stand among rows.
use Rattle.std.specs.Prelude.{ℕ, ◌+◌, ◌==◌, nat_lt, List, Option, None, Some, slice_get, slice_index, if◌then◌else◌}
use Rattle.std.specs.Option.{option_map_or}
use Rattle.asm_base.specs.declared.places.SectionPlace.{SectionPlace}
use Rattle.asm_expr.specs.Forms.{wrapped}
use Rattle.asm_expr.specs.Knowledge.{Told, absent, label}
use Rattle.asm_symbols.specs.declared.entries.Meaning.{Meaning}
use Rattle.asm_symbols.specs.declared.entries.Meaning.TheVariants.{Undefined, Label, Common, Space, Assigned}
use Rattle.asm_symbols.specs.SymbolMap.{SymbolMap}
use Rattle.row_distances.specs.declared.places.OwnPlace.{OwnPlace}

-- where a symbol of this meaning stands: a label or space of the object
abbrev pub meant_place : Meaning → Option SectionPlace
meant_place Undefined = None
meant_place (Label spot) = Some spot.place
meant_place (Common size align) = None
meant_place (Space spot) = Some spot.place
meant_place (Assigned form) = None

-- where the symbol at this index stands; one index stands for the place of an item itself
unfoldable pub place_of : SymbolMap → OwnPlace → ℕ → Option SectionPlace
place_of map own index =
    if index == own.symbol then Some own.place else option_map_or (λ symbol. meant_place symbol.meaning) (slice_get map.symbols index) None

-- the row that moves a place, by the first row of each section
abbrev pub row_at : List ℕ → SectionPlace → ℕ
row_at starts place = slice_index starts place.section + place.place.item

-- the row that moves a place, if it is one of so many
abbrev pub row_among : List ℕ → SectionPlace → ℕ → Option ℕ
row_among starts place count = if nat_lt (row_at starts place) count then Some (row_at starts place) else None

-- the same, where there is a place
abbrev pub row_for : List ℕ → Option SectionPlace → ℕ → Option ℕ
row_for starts None count = None
row_for starts (Some place) count = row_among starts place count

-- the address of a place where the rows are moved so far
abbrev pub address_at : List ℕ → List ℕ → SectionPlace → ℕ
address_at starts shifts place = wrapped (place.place.offset + slice_index shifts (row_at starts place))

-- a place is known as a label of its section at its address
abbrev pub place_told : List ℕ → List ℕ → Option SectionPlace → Told
place_told starts shifts None = absent
place_told starts shifts (Some place) = label place.section (address_at starts shifts place)

-- what the symbol at this index is known as where the rows are moved so far
abbrev pub row_told : SymbolMap → OwnPlace → List ℕ → List ℕ → ℕ → Told
row_told map own starts shifts index = place_told starts shifts (place_of map own index)

-- how far a place is moved where the rows are moved so far
abbrev pub moved_by : List ℕ → List ℕ → Option SectionPlace → ℕ
moved_by starts shifts None = 0
moved_by starts shifts (Some place) = slice_index shifts (row_at starts place)
