-- Rows whose places stand in their sections, and the labels that their table brings.
use Rattle.std.specs.Prelude.{◌≡◌, ℕ, List, All, Ok}
use Rattle.asm_frags.specs.Writing.{LooseSection}
use Rattle.section_laws.specs.Within.{IsWithin}
use Rattle.line_directives.specs.Meanings.{rows_of}
use Rattle.line_directives.specs.Taking.{LineTable, LineDirective, table_of}
use Rattle.table_pieces.specs.Pieces.{Tables}
use Rattle.table_pieces.specs.StandingPlaces.{HoldsItems, GetsStanding}
use Rattle.line_table.specs.Placing.{placed}

-- the place of each row that the directives mean stands in its section, behind some of its items
abbrev pub RowPlacesStand : List LooseSection → List LineDirective → Type 0
RowPlacesStand sections directives = (section : ℕ) → All (λ row. HoldsItems sections section row.0.item) (rows_of section directives)

-- where the places of rows stand, so do those of the labels that their table brings
abbrev pub LabelsStand : Type 0
LabelsStand = (directives : List LineDirective) (lines : LineTable) (tables after : Tables) → All IsWithin tables.sections
    → table_of directives ≡ Ok lines → RowPlacesStand tables.sections directives → placed lines tables ≡ Ok after
    → GetsStanding after.sections tables.symbols after.symbols
