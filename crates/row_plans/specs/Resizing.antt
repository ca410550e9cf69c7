-- Rows with the sizes that they have had so far, while one after the other gets the size of its level and address.
use Rattle.std.specs.Prelude.{◌≡◌, ◌⊎◌, ℕ, ◌+◌, ◌%◌, ◌^◌, ◌<◌, false, List, length, slice_index, slice_index_or}
use Rattle.asm_levels.specs.declared.rows.RowSize.{RowSize}
use Rattle.asm_levels.specs.declared.rows.Row.{Row}
use Rattle.asm_levels.specs.Sizes.{size_from, size_at}
use Rattle.asm_levels.specs.Shifts.{moved_past}
use Rattle.asm_levels.specs.RowLists.{depends_on_address, IsAmong}

-- each next row is moved as far as the row before it and by the size that this one has so far, modulo 2 ^ 64
pub record AreMoved (rows : List Row) (sizes shifts : List ℕ) : Type 0 where
  pub as_many_shifts : length shifts ≡ length rows
  pub as_many_sizes : length sizes ≡ length rows
  pub first : slice_index shifts 0 ≡ 0
  pub next : (index : ℕ) (default : Row) → index + 1 < length rows
      → slice_index shifts (index + 1) ≡ moved_past (slice_index_or rows index default).size (slice_index shifts index) (slice_index sizes index) % 2 ^ 64

-- the row of this index has the size of its level and address where the rows are moved so far
abbrev pub HasSize : List Row → List ℕ → List ℕ → List ℕ → ℕ → Type 0
HasSize rows levels sizes shifts index = (default : Row) → slice_index sizes index
    ≡ size_at shifts (slice_index_or rows index default).size (slice_index levels index) ((slice_index_or rows index default).offset + slice_index shifts index)

-- the size of a row of this level, where it does not depend on its address
abbrev pub size_of_level : RowSize → ℕ → ℕ
size_of_level size level = size_from 0 size level 0

-- the row of this index has the size of its level, if that does not depend on its address
abbrev pub IsPlainSized : List Row → List ℕ → List ℕ → ℕ → Type 0
IsPlainSized rows levels sizes index = (default : Row) → depends_on_address (slice_index_or rows index default).size ≡ false
    → slice_index sizes index ≡ size_of_level (slice_index_or rows index default).size (slice_index levels index)

-- each row with another size than before, modulo 2 ^ 64, is among the first so many of the list
abbrev pub AreTouched : List ℕ → List ℕ → ℕ → List ℕ → Type 0
AreTouched before after count list = (index : ℕ) → IsAmong index count list ⊎ (slice_index after index % 2 ^ 64 ≡ slice_index before index % 2 ^ 64)

-- the rows have these sizes where they are moved so far: those of their levels, but for the first so many of a list and where they depend on addresses
pub record AreSizedBut (rows : List Row) (levels sizes shifts : List ℕ) (count : ℕ) (list : List ℕ) : Type 0 where
  pub moved : AreMoved rows sizes shifts
  pub plain : (index : ℕ) → index < length rows → IsPlainSized rows levels sizes index ⊎ IsAmong index count list

-- the rows had the sizes `before`, and now those of their levels, where these do not depend on addresses; the list has those with another size
pub record AreResized (rows : List Row) (levels before shifts : List ℕ) (count : ℕ) (list : List ℕ) : Type 0 where
  pub sizes : List ℕ
  pub moved : AreMoved rows sizes shifts
  pub plain : (index : ℕ) → index < length rows → IsPlainSized rows levels sizes index
  pub touched : AreTouched before sizes count list
