-- No top is above 9, and levels within the tops are not.
use Rattle.std.proofs.Common.{◌≡◌, ℕ, ◌+◌, ◌*◌, ◌<◌, ◌≤◌, zero, suc, List, [], ◌∷◌, length, get_or, sum, ap, arith}
use Rattle.std.specs.List.{All}
use Rattle.std.proofs.lemmas.List.{length-map, get_or_default}
use Rattle.std.proofs.lemmas.List.Sums.{sum_by-cons}
use Rattle.asm_levels.specs.declared.rows.RowSize.{RowSize}
use Rattle.asm_levels.specs.declared.rows.RowSize.TheVariants.{Fixed, Align, Org, Jump, Leb128, Advance, End}
use Rattle.asm_levels.specs.declared.rows.Row.{Row}
use Rattle.asm_levels.specs.Shifts.{shifts_of}
use Rattle.asm_levels.specs.Needs.{top, tops, levels_needed, need}

pub top-le : (size : RowSize) → top size ≤ 9
unfolding top
top-le (Fixed bytes) = omega arith
top-le (Align log most) = omega arith
top-le (Org from ahead behind) = omega arith
top-le (Jump conditional distance) = omega arith
top-le (Leb128 signed distance) = omega arith
top-le (Advance distance) = omega arith
top-le End = omega arith

pub tops-le : (rows : List Row) (index : ℕ) → get_or (tops rows) index 0 ≤ 9
tops-le [] index = omega arith
tops-le (row ∷ rows) zero = top-le row.size
tops-le (row ∷ rows) (suc index) = tops-le rows index

pub sum-tops-le : (rows : List Row) → sum (tops rows) ≤ 9 * length rows
sum-tops-le [] = omega arith
sum-tops-le (row ∷ rows) =
    let step : sum (tops (row ∷ rows)) ≡ top row.size + sum (tops rows) = sum_by-cons (λ x. x) (top row.size) (tops rows) in
    let here = top-le row.size in
    let rest = sum-tops-le rows in
    omega arith

-- levels within the tops are at most 9
pub nine_from : (rows : List Row) (levels : List ℕ) → length levels ≡ length (tops rows) → ((index : ℕ) → index < length (tops rows) → get_or levels index 0 ≤ get_or (tops rows) index 0) → All (λ level. level ≤ 9) levels
nine_from rows levels long within = λ index default inside. (
    let here : get_or levels index default ≡ get_or levels index 0 = get_or_default levels index default 0 inside in
    let low = within index (omega arith) in
    let nine = tops-le rows index in
    omega arith
    )

pub length-tops : (rows : List Row) → length (tops rows) ≡ length rows
length-tops rows = length-map rows (λ row. top row.size)

-- what is needed at the shifts of these levels
pub need_is : (rows : List Row) (levels shifts : List ℕ) → shifts ≡ shifts_of rows levels → levels_needed shifts rows ≡ need rows levels
unfolding need
need_is rows levels shifts is = ap (λ (xs : List ℕ). levels_needed xs rows) is
