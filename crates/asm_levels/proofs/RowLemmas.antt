-- What a row keeps by the list that it stands in.
use Rattle.std.proofs.Common.{◌≡◌, ℕ, ◌*◌, ◌^◌, ◌<◌, ◌≤◌, List, length, get_or, sym, subst, arith}
use Rattle.std.specs.List.{All}
use Rattle.std.proofs.lemmas.List.Sums.{sum_by-le}
use Rattle.asm_levels.specs.declared.rows.Row.{Row}
use Rattle.asm_levels.specs.Sizes.{most_bytes, most_in}
use Rattle.asm_levels.specs.Standing.{RowStands, AllStand}

pub row_stands : (rows : List Row) (index : ℕ) (row : Row) → index < length rows → row ≡ get_or rows index row → AllStand rows → RowStands (length rows) index row
row_stands rows index row inside here stand = subst (λ (r : Row). RowStands (length rows) index r) (sym here) (stand index row inside)

-- few rows of few bytes each
pub few_bytes : (rows : List Row) → All (λ row. most_bytes row.size ≤ 2 ^ 34) rows → length rows < 2 ^ 28 → most_in rows < 2 ^ 62
few_bytes rows each few =
    let all : most_in rows ≤ length rows * 2 ^ 34 = sum_by-le (λ row. most_bytes row.size) (2 ^ 34) rows each in
    omega arith
