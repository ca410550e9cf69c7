-- The levels of rows: how many each has, and which one its distance needs.
use Rattle.std.specs.Prelude.{ℕ, nat_lt, Bool, List, map, count_by}
use Rattle.item_bytes.specs.Levels.{jump_level, leb128_level, advance_level}
use Rattle.asm_levels.specs.declared.rows.RowSize.{RowSize}
use Rattle.asm_levels.specs.declared.rows.RowSize.TheVariants.{Fixed, Align, Org, Jump, Leb128, Advance, End}
use Rattle.asm_levels.specs.declared.rows.Row.{Row}
use Rattle.asm_levels.specs.Distances.{distance_value}
use Rattle.asm_levels.specs.Shifts.{shifts_of}

-- the least level that holds the row's distance where the rows are moved so far, or the highest where none does
unfoldable pub needed : List ℕ → RowSize → ℕ
needed shifts (Fixed bytes) = 0
needed shifts (Align log most) = 0
needed shifts (Org from ahead behind) = 0
needed shifts (Jump conditional distance) = jump_level (distance_value shifts distance)
needed shifts (Leb128 signed distance) = leb128_level signed (distance_value shifts distance)
needed shifts (Advance distance) = advance_level (distance_value shifts distance)
needed shifts End = 0

-- the number of levels above the lowest
unfoldable pub top : RowSize → ℕ
top (Fixed bytes) = 0
top (Align log most) = 0
top (Org from ahead behind) = 0
top (Jump conditional distance) = 1
top (Leb128 signed distance) = 9
top (Advance distance) = 4
top End = 0

-- the number of levels above the lowest of each row
abbrev pub tops : List Row → List ℕ
tops rows = map (λ row. top row.size) rows

-- the level that each row needs where the rows are moved so far
abbrev pub levels_needed : List ℕ → List Row → List ℕ
levels_needed shifts rows = map (λ row. needed shifts row.size) rows

-- the level that each row needs where the rows have these levels
unfoldable pub need : List Row → List ℕ → List ℕ
need rows levels = levels_needed (shifts_of rows levels) rows

-- the level is not the highest
abbrev pub is_below_top : RowSize → ℕ → Bool
is_below_top size level = nat_lt level (top size)

-- there is more than one level
abbrev pub has_levels : RowSize → Bool
has_levels size = is_below_top size 0

-- how many rows have more than one level
abbrev pub several : List Row → ℕ
several rows = count_by (λ row. has_levels row.size) rows
