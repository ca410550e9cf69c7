-- How far rows are moved: by the sizes of the rows of their section before them.
use Rattle.std.specs.Prelude.{◌≡◌, ℕ, ◌+◌, ◌<◌, List, [], ◌∷◌, ◌++◌, length, drop, slice_index, slice_index_or}
use Rattle.asm_levels.specs.declared.rows.RowSize.{RowSize}
use Rattle.asm_levels.specs.declared.rows.RowSize.TheVariants.{Fixed, Align, Org, Jump, Leb128, Advance, End}
use Rattle.asm_levels.specs.declared.rows.Row.{Row}
use Rattle.asm_levels.specs.Sizes.{size_at}

-- the shift of the row behind one of this size and shift, which has so many bytes: 0 behind an end mark
abbrev pub moved_past : RowSize → ℕ → ℕ → ℕ
moved_past (Fixed held) shift bytes = shift + bytes
moved_past (Align log most) shift bytes = shift + bytes
moved_past (Org from ahead behind) shift bytes = shift + bytes
moved_past (Jump conditional distance) shift bytes = shift + bytes
moved_past (Leb128 signed distance) shift bytes = shift + bytes
moved_past (Advance distance) shift bytes = shift + bytes
moved_past End shift bytes = 0

-- how far the row behind this one is moved, which has this level and shift; `shifts` has those of the rows up to it
unfoldable pub shift_behind : List ℕ → Row → ℕ → ℕ → ℕ
shift_behind shifts row level shift = moved_past row.size shift (size_at shifts row.size level (row.offset + shift))

-- the shifts of the rows that are done and of these, the first of which is moved so far
unfoldable pub shifts_from : List ℕ → ℕ → List Row → List ℕ → List ℕ
shifts_from done shift [] levels = done
shifts_from done shift (row ∷ rows) levels =
    shifts_from (done ++ shift ∷ []) (shift_behind (done ++ shift ∷ []) row (slice_index levels 0) shift) rows (drop 1 levels)

-- how far each row is moved where the rows have these levels
unfoldable pub shifts_of : List Row → List ℕ → List ℕ
shifts_of rows levels = shifts_from [] 0 rows levels

-- the first row is not moved, each next one as far as the row before it and by its size, and not behind an end mark
pub record AreInRow (rows : List Row) (levels shifts : List ℕ) : Type 0 where
  pub count : length shifts ≡ length rows
  pub first : slice_index shifts 0 ≡ 0
  pub next : (index : ℕ) (default : Row) → index + 1 < length rows
      → slice_index shifts (index + 1) ≡ shift_behind shifts (slice_index_or rows index default) (slice_index levels index) (slice_index shifts index)
