use Rattle.std.proofs.Common.{◌≡◌, ℕ, zero, suc, ◌-◌, ◌<◌, ◌==◌, nat_le, true, false, if◌then◌else◌, List, [], ◌∷◌, length, refl, sym, ap, ◌∙◌, arith}
use Rattle.std.proofs.lemmas.Bool.Decides.{nat_tests}
use Rattle.cfi_checks.specs.declared.rows.WrittenRow.{WrittenRow}
use Rattle.cfi_checks.specs.declared.rows.RowFrom.{RowFrom}
use Rattle.cfi_checks.specs.Rows.{entry_row, row_behind, row_at}
use Rattle.cfi_checks.specs.Places.{AreBegun, from_at, last_of}

-- a row that begins behind the item leaves the row before it in force
not_yet : (before : WrittenRow) (next : RowFrom) (rows : List RowFrom) (j : ℕ) → j < next.item → row_behind before (next ∷ rows) j ≡ row_behind before rows j
not_yet before next rows j later =
    let t : nat_le next.item j ≡ false = grind (arith, nat_tests) in
    ap (λ b. row_behind (if b then next.row else before) rows j) t

-- all rows that do leave it there
later_stay : (before : WrittenRow) (rows : List RowFrom) (j : ℕ) → ((k : ℕ) → k < length rows → j < (from_at rows k).item) → row_behind before rows j ≡ before
later_stay before [] j later = refl
later_stay before (next ∷ rows) j later =
    not_yet before next rows j (later 0 (omega arith)) ∙ later_stay before rows j (λ k h. later (suc k) (omega arith))

-- the last of so many rows, or the one before them
abbrev last_behind : WrittenRow → List RowFrom → ℕ → WrittenRow
last_behind before rows zero = before
last_behind before rows (suc n) = (from_at rows n).row

-- of one row and others
last_of_more : (before : WrittenRow) (next : RowFrom) (rows : List RowFrom) (n : ℕ) → last_behind next.row rows n ≡ (from_at (next ∷ rows) n).row
last_of_more before next rows zero = refl
last_of_more before next rows (suc n) = refl

-- the last of the rows that have begun is in force
last_stays : (before : WrittenRow) (rows : List RowFrom) (j count : ℕ) → AreBegun rows j count → row_behind before rows j ≡ last_behind before rows count
last_stays before rows j zero are = later_stay before rows j (λ k h. are.later k (omega arith) h)
last_stays before [] j (suc n) are = absurd (let w = are.within in omega arith)
last_stays before (next ∷ rows) j (suc n) are =
    ap (λ b. row_behind (if b then next.row else before) rows j) first ∙ last_stays next.row rows j n rest ∙ last_of_more before next rows n
  where
    first : nat_le next.item j ≡ true
    first = let l = are.begun 0 (omega arith) in grind (arith, nat_tests)

    rest : AreBegun rows j n
    rest = record {
      within = let w = are.within in omega arith;
      begun = λ k h. are.begun (suc k) (omega arith);
      later = λ k h l. are.later (suc k) (omega arith) (omega arith);
    }

-- the same by a test of the number
by_number : (rows : List RowFrom) (count : ℕ) → last_behind entry_row rows count ≡ last_of rows count
by_number rows zero = refl
by_number rows (suc n) =
    let e : suc n - 1 ≡ n = omega arith in
    let t : (suc n == 0) ≡ false = grind (arith, nat_tests) in
    sym (ap (λ b. if b then entry_row else (from_at rows (suc n - 1)).row) t ∙ ap (λ k. (from_at rows k).row) e)

-- the row in force at an item is the last of the rows that have begun there
pub in_force : (rows : List RowFrom) (j count : ℕ) → AreBegun rows j count → row_at rows j ≡ last_of rows count
in_force rows j count are = last_stays entry_row rows j count are ∙ by_number rows count
