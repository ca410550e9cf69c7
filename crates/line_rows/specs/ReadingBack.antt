-- What is read of rows and sequences that are written.
use Rattle.std.specs.Prelude.{◌≡◌, ℕ, ◌-◌, ◌^◌, ◌<◌, List, ◌∷◌, ◌++◌, length}
use Rattle.line_rows.specs.declared.rows.LineRow.{LineRow}
use Rattle.line_rows.specs.declared.sections.Distance.{Distance}
use Rattle.line_rows.specs.Machine.{first_row}
use Rattle.line_rows.specs.Places.{PlacedRows, sequence_of, AreRising, AreWritten}
use Rattle.line_rows.specs.Sections.{first_made, with_rows, filled, laid_rows, gap_count, digits_of}
use Rattle.line_rows.specs.Writing.{Advance, IsRow, IsSequence, registers_of, row_bytes, later_bytes}

-- rows in the order of their places, each distance in bytes of its own, are a sequence
abbrev pub PlacedRowsAreSequences : Type 0
PlacedRowsAreSequences =
    (address : ℕ) (rows : PlacedRows) → address < 2 ^ 64 → IsRow rows.first → rows.end - rows.start < 2 ^ 64
    → AreRising rows.start rows.others rows.end → AreWritten rows.start rows.others rows.end rows.digits → IsSequence (sequence_of address rows)

-- the bytes of a section's rows, made one after another, with their gaps filled by these advances
abbrev pub filled_rows : LineRow → List (Distance × LineRow) → List Advance → List ℕ
filled_rows first rows advances =
    filled 0 (with_rows rows (first_made first)).gaps (digits_of advances) (with_rows rows (first_made first)).bytes

-- with the section's end behind them they are those of a sequence, whatever bytes of the distances the gaps are filled with
abbrev pub FilledRowsAreSequences : Type 0
FilledRowsAreSequences =
    (first : LineRow) (rows : List (Distance × LineRow)) (advances : List Advance) (end : Advance) (tail : List ℕ)
    → length advances ≡ gap_count rows
    → filled_rows first rows advances ++ 0x02 ∷ (end.digits ++ 0x00 ∷ 0x01 ∷ 0x01 ∷ tail)
    ≡ row_bytes (registers_of first_row) first ++ 0x01 ∷ later_bytes (registers_of first) (laid_rows rows advances) end tail
