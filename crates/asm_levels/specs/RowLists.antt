-- Lists of rows: where what the size of each moves ends, whose sizes depend on their addresses, and whose levels are others.
use Rattle.std.specs.Prelude.{◌≡◌, ◌⊎◌, ℕ, ◌+◌, ◌-◌, ◌<◌, ◌≤◌, Bool, true, false, List, length, slice_index, slice_index_or}
use Rattle.asm_levels.specs.declared.rows.RowSize.{RowSize}
use Rattle.asm_levels.specs.declared.rows.RowSize.TheVariants.{Fixed, Align, Org, Jump, Leb128, Advance, End}
use Rattle.asm_levels.specs.declared.rows.Row.{Row}

-- the row is an end mark
abbrev pub is_end : RowSize → Bool
is_end (Fixed bytes) = false
is_end (Align log most) = false
is_end (Org from ahead behind) = false
is_end (Jump conditional distance) = false
is_end (Leb128 signed distance) = false
is_end (Advance distance) = false
is_end End = true

-- the size of the row depends on its address
abbrev pub depends_on_address : RowSize → Bool
depends_on_address (Fixed bytes) = false
depends_on_address (Align log most) = true
depends_on_address (Org from ahead behind) = true
depends_on_address (Jump conditional distance) = false
depends_on_address (Leb128 signed distance) = false
depends_on_address (Advance distance) = false
depends_on_address End = false

-- what a row's size moves stands before this index: up to the end mark of its section, or to the last row
pub record IsMovedBefore (rows : List Row) (row to : ℕ) : Type 0 where
  pub after : row < to
  pub within : to ≤ length rows
  pub inner : (index : ℕ) (default : Row) → row ≤ index → index + 1 < to → is_end (slice_index_or rows index default).size ≡ false
  pub last : (default : Row) → to < length rows → is_end (slice_index_or rows (to - 1) default).size ≡ true

-- for each row, what stands before this index is moved by its size
pub record AreEnds (rows : List Row) (ends : List ℕ) : Type 0 where
  pub count : length ends ≡ length rows
  pub each : (index : ℕ) → index < length rows → IsMovedBefore rows index (slice_index ends index)

-- the index is among the first so many of the list
abbrev pub IsAmong : ℕ → ℕ → List ℕ → Type 0
IsAmong index count list = (at : ℕ) × (at < count) × (slice_index list at ≡ index)

-- the rows whose size depends on their address, in order
pub record AreDependents (rows : List Row) (list : List ℕ) : Type 0 where
  pub within : (at : ℕ) → at < length list → slice_index list at < length rows
  pub order : (at later : ℕ) → at < later → later < length list → slice_index list at < slice_index list later
  pub only : (at : ℕ) (default : Row) → at < length list → depends_on_address (slice_index_or rows (slice_index list at) default).size ≡ true
  pub all : (index : ℕ) (default : Row) → index < length rows → depends_on_address (slice_index_or rows index default).size ≡ true
      → IsAmong index (length list) list

-- if there is room for so many rows, the list has each one whose level is another
abbrev pub AreListed : List ℕ → List ℕ → ℕ → List ℕ → Type 0
AreListed before after count list = count ≤ length list → (index : ℕ) → index < length before
    → (slice_index after index ≡ slice_index before index) ⊎ IsAmong index count list
