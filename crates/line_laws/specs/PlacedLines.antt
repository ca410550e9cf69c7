-- What is known of rows and of what was placed before a line table is put.
use Rattle.std.specs.Prelude.{◌≡◌, ℕ, false, List, All, IsSomeAnd, slice_get}
use Rattle.asm_base.specs.declared.places.Place.{Place}
use Rattle.asm_frags.specs.Writing.{LooseSection, takes_zeros_alone}
use Rattle.section_laws.specs.Within.{IsWithin}
use Rattle.line_directives.specs.Meanings.{rows_of}
use Rattle.line_directives.specs.Order.{IsInRange, RowsRise}
use Rattle.line_directives.specs.Taking.{LineDirective, numbered_file, loc}
use Rattle.table_pieces.specs.Labels.{PlacesAreLabels}
use Rattle.table_pieces.specs.Pieces.{Tables}
use Rattle.table_pieces.specs.Ready.{SymbolHolds}
use Rattle.line_table.specs.Sequences.{end_in}

-- a row stands in a section that is there and takes more than zeros
abbrev pub RowStands : List LooseSection → LineDirective → Type 0
RowStands sections (numbered_file pos number directory name) = Unit {0}
RowStands sections (loc line at) = IsSomeAnd (slice_get sections at.section) (λ held. takes_zeros_alone held ≡ false)

-- the beginning of a section
abbrev pub at_begin : Place
at_begin = record { item = 0; offset = 0 }

-- the numbers of directives are in their ranges, rows stand in sections that take bytes, and the places of each section's rows never fall, up to its end
pub record RowsReady (sections : List LooseSection) (directives : List LineDirective) : Type 0 where
  pub ranges : All IsInRange directives
  pub stand : All (RowStands sections) directives
  pub rise : (number : ℕ) → RowsRise at_begin (rows_of number directives) (end_in number sections)

-- items and fields stand within their sections, symbols with the name of a place are labels there, and all that have a place stand in a section
pub record TablesReady (tables : Tables) : Type 0 where
  pub within : All IsWithin tables.sections
  pub named : PlacesAreLabels tables.symbols
  pub stand : All (SymbolHolds tables.sections) tables.symbols.symbols
