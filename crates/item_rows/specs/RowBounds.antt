-- What the rows of items keep, so that they can be laid out.
use Rattle.std.specs.Prelude.{◌≡◌, ℕ, ◌+◌, ◌^◌, ◌<◌, ◌≤◌, List, length, slice_index_or}
use Rattle.asm_levels.specs.declared.rows.RowSize.{RowSize}
use Rattle.asm_levels.specs.declared.rows.Row.{Row}
use Rattle.asm_levels.specs.Sizes.{most_bytes}
use Rattle.asm_levels.specs.Standing.{AlignStands, OrgStands, NamesRows}

-- the size of the row of this number names rows among so many, and has at most 2^34 bytes
pub record SizeFits (count number : ℕ) (size : RowSize) : Type 0 where
  pub align : AlignStands size
  pub org : OrgStands (number + 1) size
  pub names : NamesRows count size
  pub few : most_bytes size ≤ 2 ^ 34

-- the answer is this size, and fits
abbrev pub IsRowSize : ℕ → ℕ → RowSize → RowSize → Type 0
IsRowSize count number size answer = (answer ≡ size) × SizeFits count number answer

-- the row of this number fits, and has at most 2^33 plain bytes of its section before it
pub record RowFits (count number : ℕ) (row : Row) : Type 0 where
  pub size : SizeFits count number row.size
  pub offset : row.offset ≤ 2 ^ 33

-- fewer than 2^28 rows, each of which fits
pub record AllFit (count : ℕ) (rows : List Row) : Type 0 where
  pub each : (number : ℕ) (default : Row) → number < length rows → RowFits count number (slice_index_or rows number default)
  pub few : length rows < 2 ^ 28
