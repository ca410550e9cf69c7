-- The rows of each section, as `.loc` makes them.
use Rattle.std.specs.Prelude.{ℕ, ◌-◌, List, Option, None, Some, nat_le, ◌==◌, ◌&&◌, if◌then◌else◌}
use Rattle.asm_base.specs.declared.places.Place.{Place}
use Rattle.asm_base.specs.declared.places.SectionPlace.{SectionPlace}
use Rattle.line_rows.specs.declared.rows.LineRow.{LineRow}
use Rattle.line_rows.specs.declared.sections.Distance.{Distance}
use Rattle.line_rows.specs.declared.sections.Distance.TheVariants.{Known, Between}
use Rattle.line_rows.specs.Sections.{first_made, with_row}
use Rattle.line_directives.specs.declared.sequences.Sequence.{Sequence}
use Rattle.line_directives.specs.Numbered.{under, put_under}

-- how far a place is from one before it: known where no item stands between them
abbrev pub distance_to : Place → Place → Distance
distance_to last place =
    if (last.item == place.item) && nat_le last.offset place.offset then Known (place.offset - last.offset) else Between last place

-- the rows of a section with one more
abbrev pub with_row_at : Place → LineRow → Option Sequence → Sequence
with_row_at place row None = record { start = place; last = place; row = row; rows = first_made row }
with_row_at place row (Some sequence) =
    record { start = sequence.start; last = place; row = row; rows = with_row (distance_to sequence.last place) row sequence.rows }

-- those of all sections, by the number of the section
abbrev pub with_row_in : SectionPlace → LineRow → List (Option Sequence) → List (Option Sequence)
with_row_in at row sequences = put_under at.section (with_row_at at.place row (under at.section sequences)) sequences
