-- What distances lead from and to, and the labels that name places in forms.
use Rattle.std.specs.Prelude.{◌≡◌, ℕ, ◌+◌, ◌-◌, ◌^◌, ◌<◌, ◌==◌, [], ◌∷◌, ◌++◌, false, length, Option, None, Some}
use Rattle.asm_expr.specs.declared.naming.Name.{Name}
use Rattle.asm_expr.specs.declared.naming.Name.TheVariants as naming
use Rattle.asm_expr.specs.Forms.{Form, term_of, constant_form, symbol_form, joined, plus_times}
use Rattle.asm_frags.specs.Fields.{own_place}
use Rattle.asm_symbols.specs.declared.entries.Meaning.TheVariants.{Label}
use Rattle.asm_symbols.specs.declared.entries.Spot.{Spot}
use Rattle.asm_symbols.specs.declared.entries.Symbol.{Symbol}
use Rattle.asm_symbols.specs.Interning.{number_of, undefined}
use Rattle.asm_symbols.specs.SymbolMap.{SymbolMap, names, index_of}
use Rattle.asm_base.specs.declared.places.SectionPlace.{SectionPlace}
use Rattle.table_pieces.specs.declared.marks.Distance.{Distance}
use Rattle.table_pieces.specs.declared.marks.Mark.{Mark}
use Rattle.table_pieces.specs.declared.marks.Mark.TheVariants.{Here, At}

-- the name of a place
abbrev pub place_name : SectionPlace → Name
place_name at = naming.Place at.section at.place.item at.place.offset

-- the spot of a label that is made when all statements stand: no statement counts its distance to another label, so that its stretch is its own
abbrev pub spot_of : SectionPlace → ℕ → Spot
spot_of at number = record { place = at; stretch = 2 ^ 63 + number; at = 0 }

-- the label of a place, which is the symbol of this number
abbrev pub label_symbol : SectionPlace → ℕ → Symbol
label_symbol at number = record (undefined (place_name at)) { meaning = Label (spot_of at number) }

-- the map with the label last, unless a symbol has its name already
abbrev pub with_label_by : Option ℕ → SymbolMap → SectionPlace → SymbolMap
with_label_by (Some number) map at = map
with_label_by None map at = record map { symbols = map.symbols ++ label_symbol at (length map.symbols) ∷ [] }

-- the map where the place has a label
unfoldable pub with_label : SymbolMap → SectionPlace → SymbolMap
with_label map at = with_label_by (index_of (place_name at) (names map.symbols)) map at

-- the map where a mark has a symbol
abbrev pub with_mark : SymbolMap → Mark → SymbolMap
with_mark map Here = map
with_mark map (At at) = with_label map at

-- the number of a mark's symbol: that of the field's own place, or of a label, which is the next one where there is none
abbrev pub mark_number : SymbolMap → Mark → ℕ
mark_number map Here = own_place
mark_number map (At at) = number_of map (place_name at)

-- the map where both marks of a distance have symbols
abbrev pub with_marks : SymbolMap → Distance → SymbolMap
with_marks map distance = with_mark (with_mark map distance.to) distance.from

-- the form of a distance: the one symbol and a number, less the other symbol
abbrev pub distance_form : SymbolMap → Distance → Form
distance_form map distance =
    plus_times (joined false (symbol_form (mark_number map distance.to)) (constant_form distance.plus)) (2 ^ 64 - 1)
    (symbol_form (mark_number (with_mark map distance.to) distance.from))

-- the form of the address of a place: its label
abbrev pub address_form : SymbolMap → SectionPlace → Form
address_form map at = symbol_form (number_of map (place_name at))

-- the form of a distance between marks with two symbols: the one counts once, and the other minus once
abbrev pub HaveTwoTerms : Type 0
HaveTwoTerms = (map : SymbolMap) (distance : Distance)
    → (mark_number map distance.to == mark_number (with_mark map distance.to) distance.from) ≡ false → distance.plus < 2 ^ 64
    → distance_form map distance
    ≡ record {
      terms = term_of (mark_number map distance.to) 1 ∷ term_of (mark_number (with_mark map distance.to) distance.from) (2 ^ 64 - 1) ∷ [];
      constant = distance.plus;
    }
