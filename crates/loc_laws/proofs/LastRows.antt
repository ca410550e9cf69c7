-- The row that is due at a place is the last one that does not stand behind it.
use Rattle.std.proofs.Common.{◌≡◌, ℕ, ◌+◌, ◌-◌, ◌<◌, ◌≤◌, nat_le, nat_lt, true, false, if◌then◌else◌, List, [], ◌∷◌, ◌++◌, map, None, Some, refl, ap, ◌∙◌, arith}
use Rattle.std.proofs.lemmas.Bool.Decides.{nat_tests}
use Rattle.asm_base.specs.declared.places.Place.{Place}
use Rattle.line_rows.specs.declared.rows.LineRow.{LineRow}
use Rattle.line_rows.specs.Places.{PlacedRow, last_at, placed_due}
use Rattle.line_directives.specs.Meanings.{RowAt, last_row}

module _ (address : Place → ℕ) (here : ℕ) where
  -- none of these stands behind the place
  abbrev pub AreBefore : List RowAt → Type 0
  AreBefore [] = Unit {0}
  AreBefore (row ∷ rows) = (address row.0 ≤ here) × AreBefore rows

  -- the first of these does, if there is one
  abbrev pub AreBehind : List RowAt → Type 0
  AreBehind [] = Unit {0}
  AreBehind (row ∷ rows) = here < address row.0

  abbrev placed_row : RowAt → PlacedRow
  placed_row row = record { place = address row.0; digits = []; row = row.1 }

  pub last_found : (found : LineRow) (rows others : List RowAt) → AreBefore rows → AreBehind others
      → last_at here found (map placed_row (rows ++ others)) ≡ last_row found rows
  last_found found [] [] before behind = refl
  last_found found [] (row ∷ others) before behind =
      ap (λ b. if b then last_at here row.1 (map placed_row others) else found) (let test : nat_le (address row.0) here ≡ false = grind (arith, nat_tests, behind) in test)
  last_found found (row ∷ rows) others before behind =
      let first = before.0 in
      ap (λ b. if b then last_at here row.1 (map placed_row (rows ++ others)) else found)
      (let test : nat_le (address row.0) here ≡ true = grind (arith, nat_tests, first) in test)
      ∙ last_found row.1 rows others before.1 behind

  -- it is due so far behind the first row
  pub due_there : (first : RowAt) (rows others : List RowAt) (end : ℕ) → address first.0 ≤ here → here < end → AreBefore rows → AreBehind others
      → placed_due (here - address first.0) (record { start = address first.0; first = first.1; others = map placed_row (rows ++ others); end = end; digits = [] })
      ≡ Some (last_row first.1 rows)
  due_there first rows others end starts ends before behind =
      let at : address first.0 + (here - address first.0) ≡ here = omega (arith, starts) in
      ap (λ (n : ℕ). if nat_lt n end then Some (last_at n first.1 (map placed_row (rows ++ others))) else None) at
      ∙ ap (λ b. if b then Some (last_at here first.1 (map placed_row (rows ++ others))) else None) (let test : nat_lt here end ≡ true = grind (arith, nat_tests, ends) in test)
      ∙ ap Some (last_found first.1 rows others before behind)
