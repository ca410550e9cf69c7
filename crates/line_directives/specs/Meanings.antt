-- The rows that directives mean, and the rows of a section as they are made of these.
use Rattle.std.specs.Prelude.{◌≡◌, ℕ, Bool, true, List, [], ◌∷◌, Option, None, Some, Ok, ◌==◌, if◌then◌else◌}
use Rattle.asm_base.specs.declared.places.Place.{Place}
use Rattle.asm_base.specs.declared.places.SectionPlace.{SectionPlace}
use Rattle.line_rows.specs.declared.rows.LineRow.{LineRow}
use Rattle.line_rows.specs.declared.sections.Distance.{Distance}
use Rattle.line_rows.specs.Sections.{with_rows}
use Rattle.line_directives.specs.declared.sequences.Sequence.{Sequence}
use Rattle.line_directives.specs.Numbered.{under}
use Rattle.line_directives.specs.Rows.{row_with}
use Rattle.line_directives.specs.Sequences.{distance_to, with_row_at}
use Rattle.line_directives.specs.Taking.{LineTable, LineDirective, numbered_file, loc, table_of}

-- a row, and its place in its section
abbrev pub RowAt : Type 0
RowAt = Place × LineRow

-- a row in front of others, if it is in the section of this number
abbrev pub row_in : ℕ → SectionPlace → LineRow → List RowAt → List RowAt
row_in section at row rows = if at.section == section then (at.place, row) ∷ rows else rows

-- the rows of the section of this number, in source order: each `.loc` is one, and `is_stmt` and `isa` stay until another says so, over all sections
abbrev pub rows_in : ℕ → Bool → ℕ → List LineDirective → List RowAt
rows_in section is_stmt isa [] = []
rows_in section is_stmt isa (numbered_file pos number directory name ∷ directives) = rows_in section is_stmt isa directives
rows_in section is_stmt isa (loc line at ∷ directives) =
    row_in section at (row_with is_stmt isa line)
    (rows_in section (row_with is_stmt isa line).is_stmt (row_with is_stmt isa line).isa directives)

-- those of a whole source, which begins with `is_stmt` 1 and `isa` 0
abbrev pub rows_of : ℕ → List LineDirective → List RowAt
rows_of section directives = rows_in section true 0 directives

-- rows put behind those of a section, one after the other
abbrev pub rows_onto : Option Sequence → List RowAt → Option Sequence
rows_onto sequence [] = sequence
rows_onto sequence (row ∷ rows) = rows_onto (Some (with_row_at row.0 row.1 sequence)) rows

-- each row with its distance from the one before it
abbrev pub with_distances : Place → List RowAt → List (Distance × LineRow)
with_distances last [] = []
with_distances last (row ∷ rows) = (distance_to last row.0, row.1) ∷ with_distances row.0 rows

-- the last of places, of which this one is the first
abbrev pub last_place : Place → List RowAt → Place
last_place last [] = last
last_place last (row ∷ rows) = last_place row.0 rows

-- the last of rows, of which this one is the first
abbrev pub last_row : LineRow → List RowAt → LineRow
last_row last [] = last
last_row last (row ∷ rows) = last_row row.1 rows

-- the rows of each section are made of those that the directives mean there, one after the other
abbrev pub RowsAreMeant : Type 0
RowsAreMeant = (directives : List LineDirective) (table : LineTable) (section : ℕ) → table_of directives ≡ Ok table
    → under section table.sequences ≡ rows_onto None (rows_of section directives)

-- rows behind others are made of them and their distances
abbrev pub RowsAreMade : Type 0
RowsAreMade = (sequence : Sequence) (rows : List RowAt)
    → rows_onto (Some sequence) rows ≡ Some (record {
      start = sequence.start;
      last = last_place sequence.last rows;
      row = last_row sequence.row rows;
      rows = with_rows (with_distances sequence.last rows) sequence.rows;
    })
