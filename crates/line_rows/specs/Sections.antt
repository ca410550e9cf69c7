-- The rows of a section as bytes, made one after another, with gaps where a distance is not known yet.
use Rattle.std.specs.Prelude.{ℕ, ◌+◌, ◌-◌, List, [], ◌∷◌, ◌++◌, length, take, drop, map}
use Rattle.line_rows.specs.declared.rows.LineRow.{LineRow}
use Rattle.line_rows.specs.declared.rows.Registers.{Registers}
use Rattle.line_rows.specs.declared.sections.Distance.{Distance}
use Rattle.line_rows.specs.declared.sections.Distance.TheVariants.{Known, Between}
use Rattle.line_rows.specs.declared.sections.Gap.{Gap}
use Rattle.leb128.specs.Digits.{uleb_bytes}
use Rattle.line_rows.specs.Machine.{first_row}
use Rattle.line_rows.specs.Writing.{registers_of, row_bytes, known_row_bytes, Advance, Later}

-- the bytes so far, where in them the bytes of a distance are due, and the registers behind the last row
pub record Made : Type 0 where
  pub bytes : List ℕ
  pub gaps : List Gap
  pub registers : Registers

-- the first row of a section
abbrev pub first_made : LineRow → Made
first_made row = record { bytes = row_bytes (registers_of first_row) row ++ 0x01 ∷ []; gaps = []; registers = registers_of row }

-- a row behind others
abbrev pub with_row : Distance → LineRow → Made → Made
with_row (Known distance) row made = record made { bytes = made.bytes ++ known_row_bytes made.registers row distance; registers = registers_of row }
with_row (Between from to) row made = record {
  bytes = made.bytes ++ (row_bytes made.registers row ++ 0x02 ∷ 0x01 ∷ []);
  gaps = made.gaps ++ record { at = length made.bytes + length (row_bytes made.registers row) + 1; from = from; to = to } ∷ [];
  registers = registers_of row;
}

-- rows behind others
abbrev pub with_rows : List (Distance × LineRow) → Made → Made
with_rows [] made = made
with_rows ((distance, row) ∷ rows) made = with_rows rows (with_row distance row made)

-- the bytes with the gaps filled; `from` bytes stand before them
abbrev pub filled : ℕ → List Gap → List (List ℕ) → List ℕ → List ℕ
filled from [] numbers bytes = bytes
filled from (gap ∷ gaps) [] bytes = bytes
filled from (gap ∷ gaps) (number ∷ numbers) bytes =
    take (gap.at - from) bytes ++ (number ++ filled gap.at gaps numbers (drop (gap.at - from) bytes))

-- the rows as they are due, the layout giving the distance of each gap
abbrev pub laid_rows : List (Distance × LineRow) → List Advance → List Later
laid_rows [] advances = []
laid_rows ((Known distance, row) ∷ rows) advances =
    record { advance = record { distance = distance; digits = uleb_bytes distance }; row = row } ∷ laid_rows rows advances
laid_rows ((Between from to, row) ∷ rows) [] = []
laid_rows ((Between from to, row) ∷ rows) (advance ∷ advances) = record { advance = advance; row = row } ∷ laid_rows rows advances

-- how many gaps there are
abbrev pub gap_count : List (Distance × LineRow) → ℕ
gap_count [] = 0
gap_count ((Known distance, row) ∷ rows) = gap_count rows
gap_count ((Between from to, row) ∷ rows) = gap_count rows + 1

-- the LEB128 bytes of advances
abbrev pub digits_of : List Advance → List (List ℕ)
digits_of advances = map (λ advance. advance.digits) advances
