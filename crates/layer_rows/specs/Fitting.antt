-- Rows of which a plan can be made.
use Rattle.std.specs.Prelude.{ℕ, ◌^◌, ◌<◌, ◌≤◌, List, length}
use Rattle.asm_levels.specs.declared.rows.Row.{Row}
use Rattle.asm_levels.specs.Sizes.{most_bytes, most_in}
use Rattle.asm_levels.specs.Standing.{RowStands, AllStand}

-- the row of this index stands among so many, and has at most 2^29 bytes
pub record RowFits (count index : ℕ) (row : Row) : Type 0 where
  pub stands : RowStands count index row
  pub bytes : most_bytes row.size ≤ 2 ^ 29

-- what a plan asks of its rows
pub record RowsFit (rows : List Row) : Type 0 where
  pub stand : AllStand rows
  pub bytes : most_in rows < 2 ^ 62
  pub few : length rows < 2 ^ 28
