-- Rows that fit one by one fit together.
use Rattle.std.proofs.Common.{ℕ, ◌*◌, ◌^◌, ◌<◌, ◌≤◌, List, length, get_or, arith}
use Rattle.std.proofs.lemmas.List.Sums.{sum_by-le}
use Rattle.asm_levels.specs.declared.rows.Row.{Row}
use Rattle.asm_levels.specs.Sizes.{most_bytes, most_in}
use Rattle.layer_rows.specs.Fitting.{RowFits, RowsFit}

pub rows_fit : (rows : List Row) → ((index : ℕ) (default : Row) → index < length rows → RowFits (length rows) index (get_or rows index default)) → length rows < 2 ^ 28 → RowsFit rows
rows_fit rows each few =
    let most : most_in rows ≤ length rows * 2 ^ 29 = sum_by-le (λ (row : Row). most_bytes row.size) (2 ^ 29) rows (λ index default inside. (each index default inside).bytes) in
    record {
      stand = λ index default inside. (each index default inside).stands;
      bytes = omega arith;
      few = few;
    }
