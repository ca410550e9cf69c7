-- The sizes of rows, in bytes.
use Rattle.std.specs.Prelude.{ℕ, ◌+◌, ◌-◌, ◌%◌, ◌^◌, nat_le, List, slice_index, sum_by, if◌then◌else◌}
use Rattle.item_bytes.specs.Levels.{jump_size, advance_size}
use Rattle.asm_levels.specs.declared.rows.RowSize.{RowSize}
use Rattle.asm_levels.specs.declared.rows.RowSize.TheVariants.{Fixed, Align, Org, Jump, Leb128, Advance, End}
use Rattle.asm_levels.specs.declared.rows.Row.{Row}

-- the number of bytes from an address up to the next multiple of the alignment (GNU as manual, ".p2align")
abbrev pub padding : ℕ → ℕ → ℕ
padding alignment address = (alignment - address % alignment) % alignment

-- so many bytes, or none where they are more than the most
abbrev pub unless_above : ℕ → ℕ → ℕ
unless_above most bytes = if nat_le bytes most then bytes else 0

-- how far the row is moved that an `.org` counts from, and 0 for other rows
abbrev pub start_of : List ℕ → RowSize → ℕ
start_of shifts (Fixed bytes) = 0
start_of shifts (Align log most) = 0
start_of shifts (Org from ahead behind) = slice_index shifts from
start_of shifts (Jump conditional distance) = 0
start_of shifts (Leb128 signed distance) = 0
start_of shifts (Advance distance) = 0
start_of shifts End = 0

-- the size of a row of this level at this address, where the row that an `.org` counts from is moved so far
abbrev pub size_from : ℕ → RowSize → ℕ → ℕ → ℕ
size_from start (Fixed bytes) level address = bytes
size_from start (Align log most) level address = unless_above most (padding (2 ^ log) address)
size_from start (Org from ahead behind) level address = (start + ahead) - (address + behind)
size_from start (Jump conditional distance) level address = jump_size conditional level
size_from start (Leb128 signed distance) level address = level + 1
size_from start (Advance distance) level address = advance_size level
size_from start End level address = 0

-- the size of a row of this level at this address, by the shifts of the rows up to it
unfoldable pub size_at : List ℕ → RowSize → ℕ → ℕ → ℕ
size_at shifts size level address = size_from (start_of shifts size) size level address

-- a bound on the bytes of a row, at any level and address; of an `.org`, on those past the row that it counts from
unfoldable pub most_bytes : RowSize → ℕ
most_bytes (Fixed bytes) = bytes
most_bytes (Align log most) = 2 ^ log
most_bytes (Org from ahead behind) = ahead
most_bytes (Jump conditional distance) = 6
most_bytes (Leb128 signed distance) = 10
most_bytes (Advance distance) = 5
most_bytes End = 0

-- the most bytes of all rows
abbrev pub most_in : List Row → ℕ
most_in rows = sum_by (λ row. most_bytes row.size) rows
