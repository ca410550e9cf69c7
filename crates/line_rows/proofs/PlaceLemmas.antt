-- Distances from row to row add up to places.
use Rattle.std.proofs.Common.{◌≡◌, ℕ, ◌+◌, ◌-◌, ◌^◌, ◌<◌, ◌≤◌, List, [], ◌∷◌, None, Some, nat_lt, nat_le, if◌then◌else◌, refl, sym, ◌∙◌, ap, subst, arith}
use Rattle.line_rows.specs.declared.rows.LineRow.{LineRow}
use Rattle.line_rows.specs.Writing.{Advance, IsRow, AreLater, IsSequence, end_place, last_row, row_due}
use Rattle.line_rows.specs.Places.{PlacedRow, PlacedRows, last_place, later_of, sequence_of, AreRising, AreWritten, last_at, placed_due}

-- a place counted from the first one
on : (start here next : ℕ) → start ≤ here → here ≤ next → here - start + (next - here) ≡ next - start
on start here next rises more = omega (arith, rises, more)

same_test : (start next at : ℕ) → start ≤ next → nat_le (next - start) at ≡ nat_le next (start + at)
same_test start next at rises = grind (arith, rises)

same_end : (start end at : ℕ) → start ≤ end → nat_lt at (end - start) ≡ nat_lt (start + at) end
same_end start end at rises = grind (arith, rises)

last_same : (start here at end : ℕ) (row : LineRow) (rows : List PlacedRow) → start ≤ here → AreRising here rows end
    → last_row at (here - start) row (later_of here rows) ≡ last_at (start + at) row rows
last_same start here at end row [] rises good = refl
last_same start here at end row (next ∷ rows) rises (more, good) =
    ap (λ place. if nat_le place at then last_row at place next.row (later_of next.place rows) else row) (on start here next.place rises more)
    ∙ ap (λ b. if b then last_row at (next.place - start) next.row (later_of next.place rows) else row)
    (same_test start next.place at (omega (arith, rises, more)))
    ∙ ap (λ found. if nat_le next.place (start + at) then found else row) (last_same start next.place at end next.row rows (omega (arith, rises, more)) good)

end_same : (start here end : ℕ) (digits : List ℕ) (rows : List PlacedRow) → start ≤ here → AreRising here rows end
    → end_place (here - start) (later_of here rows) (record { distance = end - last_place here rows; digits = digits }) ≡ end - start
end_same start here end digits [] rises good = on start here end rises good
end_same start here end digits (next ∷ rows) rises (more, good) =
    ap (λ place. end_place place (later_of next.place rows) (record { distance = end - last_place next.place rows; digits = digits })) (on start here next.place rises more)
    ∙ end_same start next.place end digits rows (omega (arith, rises, more)) good

end_rises : (here end : ℕ) (rows : List PlacedRow) → AreRising here rows end → here ≤ end
end_rises here end [] good = good
end_rises here end (next ∷ rows) (more, good) = let behind = end_rises next.place end rows good in omega (arith, more, behind)

none_less : (start : ℕ) → 0 ≡ start - start
none_less start = omega arith

pub places_due : (address at : ℕ) (rows : PlacedRows) → AreRising rows.start rows.others rows.end → row_due at (sequence_of address rows) ≡ placed_due at rows
places_due address at rows good =
    let end : Advance = record { distance = rows.end - last_place rows.start rows.others; digits = rows.digits } in
    ap (λ place. if nat_lt at (end_place place (later_of rows.start rows.others) end) then Some (last_row at place rows.first (later_of rows.start rows.others)) else None) (none_less rows.start)
    ∙ ap (λ place. if nat_lt at place then Some (last_row at (rows.start - rows.start) rows.first (later_of rows.start rows.others)) else None)
    (end_same rows.start rows.start rows.end rows.digits rows.others (omega arith) good)
    ∙ ap (λ b. if b then Some (last_row at (rows.start - rows.start) rows.first (later_of rows.start rows.others)) else None)
    (same_end rows.start rows.end at (end_rises rows.start rows.end rows.others good))
    ∙ ap (λ row. if nat_lt (rows.start + at) rows.end then Some row else None) (last_same rows.start rows.start at rows.end rows.first rows.others (omega arith) good)

later_good : (start here end : ℕ) (digits : List ℕ) (rows : List PlacedRow) → start ≤ here → end - start < 2 ^ 64 → AreRising here rows end → AreWritten here rows end digits
    → AreLater (here - start) (later_of here rows) (record { distance = end - last_place here rows; digits = digits })
later_good start here end digits [] rises small good is = (is, let same = on start here end rises good in omega (arith, same, small))
later_good start here end digits (next ∷ rows) rises small (more, good) (one, row, is) =
    let same : here - start + (next.place - here) ≡ next.place - start = on start here next.place rises more in
    let behind : next.place ≤ end = end_rises next.place end rows good in (
      one,
      omega (arith, same, behind, small),
      row,
      subst (λ place. AreLater place (later_of next.place rows) (record { distance = end - last_place next.place rows; digits = digits })) (sym same)
          (later_good start next.place end digits rows (omega (arith, rises, more)) small good is),
    )

-- rows in order, whose digits are those of their distances, are a sequence
pub places_written : (address : ℕ) (rows : PlacedRows) → address < 2 ^ 64 → IsRow rows.first → rows.end - rows.start < 2 ^ 64 → AreRising rows.start rows.others rows.end
    → AreWritten rows.start rows.others rows.end rows.digits → IsSequence (sequence_of address rows)
places_written address rows fits row small good is = (
  fits,
  row,
  subst (λ place. AreLater place (later_of rows.start rows.others) (record { distance = rows.end - last_place rows.start rows.others; digits = rows.digits })) (sym (none_less rows.start))
      (later_good rows.start rows.start rows.end rows.digits rows.others (omega arith) small good is),
)
