-- Rows that were made one after another are, with their gaps filled, the rows of a sequence.
use Rattle.std.proofs.Common.{◌≡◌, ℕ, ◌+◌, ◌-◌, ◌≤◌, length, take, drop, List, [], ◌∷◌, ◌++◌, refl, sym, ◌∙◌, ap, subst, arith}
use Rattle.std.proofs.Math.Seq.{take-append_seam, drop-append_seam}
use Rattle.std.proofs.lemmas.List.{append-nil, append_assoc, length-append, length-drop, take-append-le, drop-append-le}
use Rattle.asm_base.specs.declared.places.Place.{Place}
use Rattle.line_rows.specs.declared.rows.LineRow.{LineRow}
use Rattle.line_rows.specs.declared.rows.Registers.{Registers}
use Rattle.line_rows.specs.declared.sections.Distance.{Distance}
use Rattle.line_rows.specs.declared.sections.Distance.TheVariants.{Known, Between}
use Rattle.line_rows.specs.declared.sections.Gap.{Gap}
use Rattle.leb128.specs.Digits.{uleb_bytes}
use Rattle.line_rows.specs.Machine.{first_row}
use Rattle.line_rows.specs.Writing.{registers_of, row_bytes, known_row_bytes, Advance, later_bytes}
use Rattle.line_rows.specs.Sections.{Made, first_made, with_row, with_rows, filled, laid_rows, gap_count, digits_of}

-- no gap is before the one before it, and none past the end
abbrev AreGaps : ℕ → List Gap → ℕ → Type 0
AreGaps from [] end = Unit {0}
AreGaps from (gap ∷ gaps) end = (from ≤ gap.at) × (gap.at ≤ end) × AreGaps gap.at gaps end

further : (from : ℕ) (gaps : List Gap) (end more : ℕ) → end ≤ more → AreGaps from gaps end → AreGaps from gaps more
further from [] end more fits good = tt
further from (gap ∷ gaps) end more fits (rises, below, good) = (rises, omega (arith, below, fits), further gap.at gaps end more fits good)

from_none : (gaps : List Gap) (end : ℕ) → AreGaps 0 gaps end → AreGaps 0 gaps (0 + end)
from_none gaps end good = further 0 gaps end (0 + end) (omega arith) good

one_more : (from : ℕ) (gaps : List Gap) (end : ℕ) (last : Gap) (more : ℕ) → from ≤ last.at → end ≤ last.at → last.at ≤ more → AreGaps from gaps end → AreGaps from (gaps ++ last ∷ []) more
one_more from [] end last more starts behind fits good = (starts, fits, tt)
one_more from (gap ∷ gaps) end last more starts behind fits (rises, below, good) =
    (rises, omega (arith, below, behind, fits), one_more gap.at gaps end last more (omega (arith, below, behind)) behind fits good)

left_end : (from gap : ℕ) (bytes : List ℕ) → from ≤ gap → gap ≤ from + length bytes → from + length bytes ≡ gap + length (drop (gap - from) bytes)
left_end from gap bytes rises below =
    let less : length (drop (gap - from) bytes) ≡ length bytes - (gap - from) = length-drop (gap - from) bytes in omega (arith, less, rises, below)

left_gaps : (from gap : ℕ) (gaps : List Gap) (bytes : List ℕ) → from ≤ gap → gap ≤ from + length bytes → AreGaps gap gaps (from + length bytes)
    → AreGaps gap gaps (gap + length (drop (gap - from) bytes))
left_gaps from gap gaps bytes rises below good = subst (AreGaps gap gaps) (left_end from gap bytes rises below) good

-- bytes behind all gaps
filled_more : (from : ℕ) (gaps : List Gap) (numbers : List (List ℕ)) (bytes more : List ℕ) → AreGaps from gaps (from + length bytes)
    → filled from gaps numbers (bytes ++ more) ≡ filled from gaps numbers bytes ++ more
filled_more from [] numbers bytes more good = refl
filled_more from (gap ∷ gaps) [] bytes more good = refl
filled_more from (gap ∷ gaps) (number ∷ numbers) bytes more (rises, below, good) =
    let near : gap.at - from ≤ length bytes = omega (arith, rises, below) in
    let rest : List ℕ = drop (gap.at - from) bytes in
    ap (λ front. front ++ (number ++ filled gap.at gaps numbers (drop (gap.at - from) (bytes ++ more)))) (take-append-le (gap.at - from) bytes more near)
    ∙ ap (λ left. take (gap.at - from) bytes ++ (number ++ filled gap.at gaps numbers left)) (drop-append-le (gap.at - from) bytes more near)
    ∙ ap (λ left. take (gap.at - from) bytes ++ (number ++ left)) (filled_more gap.at gaps numbers rest more (left_gaps from gap.at gaps bytes rises below good))
    ∙ ap (λ left. take (gap.at - from) bytes ++ left) (sym (append_assoc number (filled gap.at gaps numbers rest) more))
    ∙ sym (append_assoc (take (gap.at - from) bytes) (number ++ filled gap.at gaps numbers rest) more)

-- a gap behind all others
filled_gap : (from : ℕ) (last : Gap) (gaps : List Gap) (numbers : List (List ℕ)) (number bytes more : List ℕ) → last.at ≡ from + length bytes
    → length numbers ≡ length gaps → AreGaps from gaps (from + length bytes)
    → filled from (gaps ++ last ∷ []) (numbers ++ number ∷ []) (bytes ++ more) ≡ filled from gaps numbers bytes ++ (number ++ more)
filled_gap from last [] [] number bytes more is counts good =
    let same : last.at - from ≡ length bytes = omega (arith, is) in
    ap (λ n. take n (bytes ++ more) ++ (number ++ drop n (bytes ++ more))) same
    ∙ ap (λ front. front ++ (number ++ drop (length bytes) (bytes ++ more))) (take-append_seam bytes more)
    ∙ ap (λ left. bytes ++ (number ++ left)) (drop-append_seam bytes more)
filled_gap from last [] (other ∷ numbers) number bytes more is counts good = absurd (let none : ⊥ = omega (arith, counts) in none)
filled_gap from last (gap ∷ gaps) [] number bytes more is counts good = absurd (let none : ⊥ = omega (arith, counts) in none)
filled_gap from last (gap ∷ gaps) (other ∷ numbers) number bytes more is counts (rises, below, good) =
    let near : gap.at - from ≤ length bytes = omega (arith, rises, below) in
    let rest : List ℕ = drop (gap.at - from) bytes in
    let end : last.at ≡ gap.at + length rest = is ∙ left_end from gap.at bytes rises below in
    ap (λ front. front ++ (other ++ filled gap.at (gaps ++ last ∷ []) (numbers ++ number ∷ []) (drop (gap.at - from) (bytes ++ more)))) (take-append-le (gap.at - from) bytes more near)
    ∙ ap (λ left. take (gap.at - from) bytes ++ (other ++ filled gap.at (gaps ++ last ∷ []) (numbers ++ number ∷ []) left)) (drop-append-le (gap.at - from) bytes more near)
    ∙ ap (λ left. take (gap.at - from) bytes ++ (other ++ left))
    (filled_gap gap.at last gaps numbers number rest more end (omega (arith, counts)) (left_gaps from gap.at gaps bytes rises below good))
    ∙ ap (λ left. take (gap.at - from) bytes ++ left) (sym (append_assoc other (filled gap.at gaps numbers rest) (number ++ more)))
    ∙ sym (append_assoc (take (gap.at - from) bytes) (other ++ filled gap.at gaps numbers rest) (number ++ more))

abbrev end_bytes : Advance → List ℕ → List ℕ
end_bytes end tail = 0x02 ∷ (end.digits ++ 0x00 ∷ 0x01 ∷ 0x01 ∷ tail)

-- a known distance
known_joined : (all : List ℕ) (before : Registers) (row : LineRow) (distance : ℕ) (more : List ℕ)
    → (all ++ known_row_bytes before row distance) ++ more ≡ all ++ (row_bytes before row ++ 0x02 ∷ (uleb_bytes distance ++ 0x01 ∷ more))
known_joined all before row distance more =
    append_assoc all (known_row_bytes before row distance) more
    ∙ ap (λ bytes. all ++ bytes) (append_assoc (row_bytes before row ++ 0x02 ∷ uleb_bytes distance) (0x01 ∷ []) more
    ∙ append_assoc (row_bytes before row) (0x02 ∷ uleb_bytes distance) (0x01 ∷ more))

gap_apart : (bytes row : List ℕ) → bytes ++ (row ++ 0x02 ∷ 0x01 ∷ []) ≡ (bytes ++ (row ++ 0x02 ∷ [])) ++ 0x01 ∷ []
gap_apart bytes row =
    ap (λ row. bytes ++ row) (sym (append_assoc row (0x02 ∷ []) (0x01 ∷ []))) ∙ sym (append_assoc bytes (row ++ 0x02 ∷ []) (0x01 ∷ []))

gap_joined : (all row number more : List ℕ)
    → ((all ++ (row ++ 0x02 ∷ [])) ++ (number ++ 0x01 ∷ [])) ++ more ≡ all ++ (row ++ 0x02 ∷ (number ++ 0x01 ∷ more))
gap_joined all row number more =
    append_assoc (all ++ (row ++ 0x02 ∷ [])) (number ++ 0x01 ∷ []) more
    ∙ append_assoc all (row ++ 0x02 ∷ []) ((number ++ 0x01 ∷ []) ++ more)
    ∙ ap (λ bytes. all ++ bytes) (append_assoc row (0x02 ∷ []) ((number ++ 0x01 ∷ []) ++ more))
    ∙ ap (λ bytes. all ++ (row ++ 0x02 ∷ bytes)) (append_assoc number (0x01 ∷ []) more)

-- a row with a gap
gap_filled : (from to : Place) (made : Made) (row number : List ℕ) (numbers : List (List ℕ)) (more : List ℕ) → length numbers ≡ length made.gaps
    → AreGaps 0 made.gaps (length made.bytes)
    → filled 0 (made.gaps ++ record { at = length made.bytes + length row + 1; from = from; to = to } ∷ []) (numbers ++ number ∷ []) (made.bytes ++ (row ++ 0x02 ∷ 0x01 ∷ [])) ++ more
    ≡ filled 0 made.gaps numbers made.bytes ++ (row ++ 0x02 ∷ (number ++ 0x01 ∷ more))
gap_filled from to made row number numbers more counts good =
    let front : List ℕ = made.bytes ++ (row ++ 0x02 ∷ []) in
    let one : length front ≡ length made.bytes + length (row ++ 0x02 ∷ []) = length-append made.bytes (row ++ 0x02 ∷ []) in
    let two : length (row ++ 0x02 ∷ []) ≡ length row + 1 = length-append row (0x02 ∷ []) in
    let last : Gap = record { at = length made.bytes + length row + 1; from = from; to = to } in
    ap (λ bytes. filled 0 (made.gaps ++ last ∷ []) (numbers ++ number ∷ []) bytes ++ more) (gap_apart made.bytes row)
    ∙ ap (λ bytes. bytes ++ more) (filled_gap 0 last made.gaps numbers number front (0x01 ∷ []) (omega (arith, one, two)) counts
    (further 0 made.gaps (length made.bytes) (0 + length front) (omega (arith, one)) good))
    ∙ ap (λ bytes. (bytes ++ (number ++ 0x01 ∷ [])) ++ more) (filled_more 0 made.gaps numbers made.bytes (row ++ 0x02 ∷ []) (from_none made.gaps (length made.bytes) good))
    ∙ gap_joined (filled 0 made.gaps numbers made.bytes) row number more

-- rows behind others
rows_filled : (rows : List (Distance × LineRow)) (made : Made) (numbers : List (List ℕ)) (advances : List Advance) (end : Advance) (tail : List ℕ)
    → AreGaps 0 made.gaps (length made.bytes) → length numbers ≡ length made.gaps → length advances ≡ gap_count rows
    → filled 0 (with_rows rows made).gaps (numbers ++ digits_of advances) (with_rows rows made).bytes ++ end_bytes end tail
    ≡ filled 0 made.gaps numbers made.bytes ++ later_bytes made.registers (laid_rows rows advances) end tail
rows_filled [] made numbers [] end tail good counts count =
    ap (λ numbers. filled 0 made.gaps numbers made.bytes ++ end_bytes end tail) (append-nil numbers)
rows_filled [] made numbers (advance ∷ advances) end tail good counts count = absurd (let none : ⊥ = omega (arith, count) in none)
rows_filled ((Known distance, row) ∷ rows) made numbers advances end tail good counts count =
    let more : List ℕ = known_row_bytes made.registers row distance in
    let long : length (made.bytes ++ more) ≡ length made.bytes + length more = length-append made.bytes more in
    rows_filled rows (with_row (Known distance) row made) numbers advances end tail
    (further 0 made.gaps (length made.bytes) (length (made.bytes ++ more)) (omega (arith, long)) good) counts count
    ∙ ap (λ bytes. bytes ++ later_bytes (registers_of row) (laid_rows rows advances) end tail) (filled_more 0 made.gaps numbers made.bytes more (from_none made.gaps (length made.bytes) good))
    ∙ known_joined (filled 0 made.gaps numbers made.bytes) made.registers row distance (later_bytes (registers_of row) (laid_rows rows advances) end tail)
rows_filled ((Between from to, row) ∷ rows) made numbers [] end tail good counts count = absurd (let none : ⊥ = omega (arith, count) in none)
rows_filled ((Between from to, row) ∷ rows) made numbers (advance ∷ advances) end tail good counts count =
    let part : List ℕ = row_bytes made.registers row in
    let last : Gap = record { at = length made.bytes + length part + 1; from = from; to = to } in
    let one : length (made.bytes ++ (part ++ 0x02 ∷ 0x01 ∷ [])) ≡ length made.bytes + length (part ++ 0x02 ∷ 0x01 ∷ []) = length-append made.bytes (part ++ 0x02 ∷ 0x01 ∷ []) in
    let two : length (part ++ 0x02 ∷ 0x01 ∷ []) ≡ length part + 2 = length-append part (0x02 ∷ 0x01 ∷ []) in
    let three : length (numbers ++ advance.digits ∷ []) ≡ length numbers + 1 = length-append numbers (advance.digits ∷ []) in
    let four : length (made.gaps ++ last ∷ []) ≡ length made.gaps + 1 = length-append made.gaps (last ∷ []) in
    ap (λ numbers. filled 0 (with_rows rows (with_row (Between from to) row made)).gaps numbers (with_rows rows (with_row (Between from to) row made)).bytes ++ end_bytes end tail)
    (sym (append_assoc numbers (advance.digits ∷ []) (digits_of advances)))
    ∙ rows_filled rows (with_row (Between from to) row made) (numbers ++ advance.digits ∷ []) advances end tail
    (one_more 0 made.gaps (length made.bytes) last (length (made.bytes ++ (part ++ 0x02 ∷ 0x01 ∷ []))) (omega arith) (omega arith) (omega (arith, one, two)) good)
    (omega (arith, three, four, counts)) (omega (arith, count))
    ∙ gap_filled from to made part advance.digits numbers (later_bytes (registers_of row) (laid_rows rows advances) end tail) counts good

-- the rows of a section, its end behind them, are those of a sequence
pub section_filled : (first : LineRow) (rows : List (Distance × LineRow)) (advances : List Advance) (end : Advance) (tail : List ℕ)
    → length advances ≡ gap_count rows
    → filled 0 (with_rows rows (first_made first)).gaps (digits_of advances) (with_rows rows (first_made first)).bytes ++ end_bytes end tail
    ≡ row_bytes (registers_of first_row) first ++ 0x01 ∷ later_bytes (registers_of first) (laid_rows rows advances) end tail
section_filled first rows advances end tail count =
    rows_filled rows (first_made first) [] advances end tail tt refl count
    ∙ append_assoc (row_bytes (registers_of first_row) first) (0x01 ∷ []) (later_bytes (registers_of first) (laid_rows rows advances) end tail)
