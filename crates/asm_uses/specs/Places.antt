-- Where what is put into a section next goes, and what is known of symbols and names there.
use Rattle.std.specs.Prelude.{ℕ, ◌+◌, ◌*◌, ◌^◌, ◌==◌, Bool, true, false, List, length, Option, None, Some, Result, Ok, slice_get, if◌then◌else◌}
use Rattle.std.specs.List.{list_any}
use Rattle.std.specs.Option.{option_map_or}
use Rattle.asm_operands.specs.declared.place_faults.PlaceCause.{PlaceCause}
use Rattle.asm_uses.specs.declared.tables.Naming.{Naming}
use Rattle.asm_base.specs.declared.positions.Pos.{Pos}
use Rattle.asm_expr.specs.declared.naming.Name.{Name}
use Rattle.asm_expr.specs.declared.naming.Name.TheVariants.{Place}
use Rattle.asm_expr.specs.Forms.{Form}
use Rattle.asm_expr.specs.Knowledge.{Told, label, Knowledge}
use Rattle.asm_frags.specs.KnownExtents.{extent_of}
use Rattle.asm_frags.specs.Writing.{LooseSection}
use Rattle.asm_symbols.specs.declared.entries.Spot.{Spot}
use Rattle.asm_symbols.specs.declared.entries.Definition.TheVariants.{Label}
use Rattle.asm_symbols.specs.SymbolMap.{SymbolMap, names, index_of}
use Rattle.asm_symbols.specs.Counting.{meant_name}
use Rattle.asm_symbols.specs.Interning.{number_of}
use Rattle.asm_symbols.specs.Looking.{told}
use Rattle.asm_symbols.specs.Defining.{defined}
use Rattle.asm_base.specs.Refusals.{◌>>=◌}
use Rattle.asm_uses.specs.Tables.{Table, change_named, allowed}

-- behind the bytes and items of a section: labels of one stretch have only plain bytes and items of one possible size between them
abbrev pub spot_in : ℕ → LooseSection → Spot
spot_in number section =
    let extent = extent_of section.items in
    record {
      place = record { section = number; place = record { item = length section.items; offset = length section.bytes } };
      stretch = number * 2 ^ 32 + extent.breaks;
      at = length section.bytes + extent.bytes;
    }

-- the beginning of a section that is not there
abbrev pub no_spot : ℕ → Spot
no_spot number = record { place = record { section = number; place = record { item = 0; offset = 0 } }; stretch = 0; at = 0 }

-- behind the bytes and items of the section of this number
unfoldable pub spot_at : List LooseSection → ℕ → Spot
spot_at sections number = option_map_or (spot_in number) (slice_get sections number) (no_spot number)

-- the name of the place itself
abbrev pub here_name : Spot → Name
here_name spot = Place spot.place.section spot.place.place.item spot.place.place.offset

-- the place itself is a label, and all else is what the symbol map tells
abbrev pub told_at : SymbolMap → ℕ → Spot → ℕ → Told
told_at map place spot index = if index == place then label spot.stretch spot.at else told map index

-- what is known at this place, where each name of the statement's expressions has a symbol in the map: the place is the next symbol, unless it is one
abbrev pub known_at : SymbolMap → Spot → Knowledge
known_at map spot =
    let place = number_of map (here_name spot) in
    record { told = told_at map place spot; meant = λ written. number_of map (meant_name map.counts written); place = place }

-- a form keeps the place where it does not cancel
abbrev pub uses_place : ℕ → Form → Bool
uses_place place form = list_any (λ term. term.symbol == place) form.terms

-- then the place becomes a symbol of its own, unless it is one already
abbrev pub here_by : Pos → Spot → Option ℕ → Table → Result Table PlaceCause
here_by pos spot (Some index) table = Ok table
here_by pos spot None table = change_named pos (λ map index. defined map index (Label spot)) (here_name spot) table

-- the place becomes a symbol where a form keeps it
unfoldable pub name_here : Pos → Spot → Bool → Table → Result Table PlaceCause
name_here pos spot false table = Ok table
name_here pos spot true table = here_by pos spot (index_of (here_name spot) (names table.symbols.symbols)) table

-- the names are allowed or refused, and the place becomes a symbol where a form keeps it
abbrev pub end_naming : Pos → Naming → Spot → Bool → Table → Result Table PlaceCause
end_naming pos naming spot keeps table = allowed naming table >>= name_here pos spot keeps
