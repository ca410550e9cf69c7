-- Rows at their places in a layout, and the last one at or before a place.
use Rattle.std.specs.Prelude.{ℕ, ◌+◌, ◌-◌, ◌≤◌, List, [], ◌∷◌, Option, None, Some, nat_lt, nat_le, if◌then◌else◌}
use Rattle.line_rows.specs.declared.rows.LineRow.{LineRow}
use Rattle.line_rows.specs.Writing.{IsWritten, Later, Sequence, IsRow}

-- a row at a place, and the bytes of its distance from the one before it
pub record PlacedRow : Type 0 where
  pub place : ℕ
  pub digits : List ℕ
  pub row : LineRow

-- the rows of a section: the place of the first one, those behind it, the place of the section's end
pub record PlacedRows : Type 0 where
  pub start : ℕ
  pub first : LineRow
  pub others : List PlacedRow
  pub end : ℕ
  pub digits : List ℕ

-- the place of the last row, or this one where there is none
abbrev pub last_place : ℕ → List PlacedRow → ℕ
last_place place [] = place
last_place place (next ∷ rows) = last_place next.place rows

-- the rows behind one at this place, each with its distance from the one before it
abbrev pub later_of : ℕ → List PlacedRow → List Later
later_of place [] = []
later_of place (next ∷ rows) =
    record { advance = record { distance = next.place - place; digits = next.digits }; row = next.row } ∷ later_of next.place rows

-- their sequence, from this address
abbrev pub sequence_of : ℕ → PlacedRows → Sequence
sequence_of address rows = record {
  address = address;
  first = rows.first;
  others = later_of rows.start rows.others;
  end = record { distance = rows.end - last_place rows.start rows.others; digits = rows.digits };
}

-- no place is before the one before it, or past the end
abbrev pub AreRising : ℕ → List PlacedRow → ℕ → Type 0
AreRising place [] end = place ≤ end
AreRising place (next ∷ rows) end = (place ≤ next.place) × AreRising next.place rows end

-- the numbers are in their ranges, and all digits are those of the distances
abbrev pub AreWritten : ℕ → List PlacedRow → ℕ → List ℕ → Type 0
AreWritten place [] end digits = IsWritten (record { distance = end - place; digits = digits })
AreWritten place (next ∷ rows) end digits =
    IsWritten (record { distance = next.place - place; digits = next.digits }) × IsRow next.row × AreWritten next.place rows end digits

-- the last row at or before a place, behind one that is
abbrev pub last_at : ℕ → LineRow → List PlacedRow → LineRow
last_at at row [] = row
last_at at row (next ∷ rows) = if nat_le next.place at then last_at at next.row rows else row

-- what is due so far behind the first row
abbrev pub placed_due : ℕ → PlacedRows → Option LineRow
placed_due at rows = if nat_lt (rows.start + at) rows.end then Some (last_at (rows.start + at) rows.first rows.others) else None
