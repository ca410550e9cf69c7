-- Which distances span a block of rows, by a tree over the blocks. Its nodes have numbers: the halves of a number are those of the nodes above it.
use Rattle.std.specs.Prelude.{◌≡◌, ◌⊎◌, ℕ, ◌+◌, ◌*◌, ◌/◌, ◌<◌, ◌≤◌, zero, suc, min, max, Bool, true, false, List, length, slice_index, slice_index_or}
use Rattle.asm_levels.specs.declared.distances.Distance.{Distance}
use Rattle.asm_levels.specs.declared.distances.Distance.TheVariants.{Between, Sum}
use Rattle.asm_levels.specs.declared.rows.RowSize.{RowSize}
use Rattle.asm_levels.specs.declared.rows.RowSize.TheVariants.{Fixed, Align, Org, Jump, Leb128, Advance, End}
use Rattle.asm_levels.specs.declared.rows.Row.{Row}
use Rattle.asm_levels.specs.Needs.{has_levels, tops}
use Rattle.asm_levels.specs.RowLists.{IsAmong}

-- the distance stands between these two rows
abbrev pub IsSpan : Distance → ℕ → ℕ → Type 0
IsSpan (Between number ahead behind) first last = (first ≡ min ahead behind) × (last ≡ max ahead behind)
IsSpan (Sum number terms) first last = ⊥

-- the distance of the row does
abbrev pub RowSpans : RowSize → ℕ → ℕ → Type 0
RowSpans (Fixed bytes) first last = ⊥
RowSpans (Align log most) first last = ⊥
RowSpans (Org from ahead behind) first last = ⊥
RowSpans (Jump conditional distance) first last = IsSpan distance first last
RowSpans (Leb128 signed distance) first last = IsSpan distance first last
RowSpans (Advance distance) first last = IsSpan distance first last
RowSpans End first last = ⊥

-- the block of 64 rows in which a row stands
abbrev pub block_of : ℕ → ℕ
block_of row = row / 64

-- the node of the first block of so many rows
abbrev pub first_leaf : ℕ → ℕ
first_leaf count = count / 64 + 1

-- the node of the block in which one of so many rows stands
abbrev pub leaf_of : ℕ → ℕ → ℕ
leaf_of count row = block_of row + first_leaf count

-- the number halved so many times
abbrev pub halved : ℕ → ℕ → ℕ
halved zero number = number
halved (suc times) number = halved times (number / 2)

-- the first node is the second one or above it
abbrev pub IsAbove : ℕ → ℕ → Type 0
IsAbove node leaf = (times : ℕ) × (halved times leaf ≡ node)

-- an entry has this row and this node
abbrev pub IsEntry : List ℕ → List ℕ → ℕ → ℕ → Type 0
IsEntry rows nodes row node = (at : ℕ) × (at < length rows) × (slice_index rows at ≡ row) × (slice_index nodes at ≡ node)

-- the row has an entry at this node or at one above it
abbrev pub HasOwnEntry : List ℕ → List ℕ → ℕ → ℕ → Type 0
HasOwnEntry rows nodes row leaf = (node : ℕ) × (0 < node) × IsAbove node leaf × IsEntry rows nodes row node

-- each row behind the first one, up to the other, has the entries of the row before it
abbrev pub IsFollowed : List Bool → ℕ → ℕ → Type 0
IsFollowed follows first row = (first ≤ row) × ((other : ℕ) → first < other → other ≤ row → slice_index_or follows other false ≡ true)

-- the row, or the one whose entries it has, has an entry at this node or at one above it
abbrev pub HasEntryAbove : List ℕ → List ℕ → List Bool → ℕ → ℕ → Type 0
HasEntryAbove rows nodes follows row leaf = (first : ℕ) × IsFollowed follows first row × HasOwnEntry rows nodes first leaf

-- `heads` and `links` have, plus 1, the last entry of a node and the one of the same node before an entry, and 0 where there is none
pub record AreLinked (count : ℕ) (rows nodes heads links : List ℕ) : Type 0 where
  pub many_nodes : length nodes ≡ length rows
  pub many_links : length links ≡ length rows
  pub within : (at : ℕ) → at < length rows → slice_index rows at < count
  pub head_bound : (node : ℕ) → slice_index heads node ≤ length rows
  pub head_last : (node at : ℕ) → at < length rows → slice_index nodes at ≡ node → at < slice_index heads node
  pub head_of : (node : ℕ) → 0 < slice_index heads node → (at : ℕ) → at + 1 ≡ slice_index heads node → slice_index nodes at ≡ node
  pub link_bound : (at : ℕ) → at < length rows → slice_index links at ≤ at
  pub link_last : (at other : ℕ) → at < length rows → other < at → slice_index nodes other ≡ slice_index nodes at → other < slice_index links at
  pub link_of : (at : ℕ) → at < length rows → 0 < slice_index links at → (other : ℕ) → other + 1 ≡ slice_index links at → slice_index nodes other ≡ slice_index nodes at

-- the entries are those from before, and others of one row
pub record HaveMore (count row : ℕ) (old_rows old_nodes rows nodes heads links : List ℕ) : Type 0 where
  pub linked : AreLinked count rows nodes heads links
  pub kept : (index node : ℕ) → IsEntry old_rows old_nodes index node → IsEntry rows nodes index node
  pub others : (at : ℕ) → at < length rows
      → (slice_index rows at ≡ row) ⊎ ((at < length old_rows) × (slice_index rows at ≡ slice_index old_rows at))

-- the distance of this row stands within a section, and the row has an entry at the node of each block that it spans, or above it
pub record IsWatched (all : List Row) (ends rows nodes : List ℕ) (follows : List Bool) (index : ℕ) : Type 0 where
  pub first : ℕ
  pub last : ℕ
  pub span : (default : Row) → RowSpans (slice_index_or all index default).size first last
  pub section : last < slice_index ends first
  pub entries : (block : ℕ) → block_of first ≤ block → block ≤ block_of last → HasEntryAbove rows nodes follows index (block + first_leaf (length all))

-- the row has one level, or is watched, or is in the list of those that are looked at in each round until they are at their highest level
abbrev pub IsCovered : List Row → List ℕ → List ℕ → List ℕ → List Bool → List ℕ → ℕ → Type 0
IsCovered all ends rows nodes follows wide index = ((default : Row) → has_levels (slice_index_or all index default).size ≡ false)
    ⊎ (IsWatched all ends rows nodes follows index ⊎ IsAmong index (length wide) wide)

-- the row has an entry at the node of the block of one of these rows, or above it
abbrev pub IsTouched : ℕ → List ℕ → List ℕ → List Bool → ℕ → List ℕ → ℕ → Type 0
IsTouched many rows nodes follows count touched index = (at : ℕ) × (at < count)
    × HasEntryAbove rows nodes follows index (leaf_of many (slice_index touched at))

-- each row of the list has several levels
abbrev pub AreSeveral : List Row → List ℕ → Type 0
AreSeveral all list = (at : ℕ) (default : Row) → at < length list → has_levels (slice_index_or all (slice_index list at) default).size ≡ true

-- each row that has the entries of the row before it has several levels
abbrev pub AreFollowers : List Row → List Bool → Type 0
AreFollowers all follows = (row : ℕ) (default : Row) → slice_index_or follows row false ≡ true → has_levels (slice_index_or all row default).size ≡ true

-- for each of these blocks, the row before this one has an entry at its node or above it
abbrev pub IsRun : ℕ → List ℕ → List ℕ → List Bool → ℕ → ℕ → ℕ → Type 0
IsRun many rows nodes follows first last index = (block : ℕ) → first ≤ block → block ≤ last
    → (row : ℕ) × (row + 1 ≡ index) × HasEntryAbove rows nodes follows row (block + first_leaf many)

-- the entries of rows at nodes, and the list of those without entries, as far as the first so many rows ask for them
pub record FirstWatchers (all : List Row) (ends rows nodes heads links : List ℕ) (follows : List Bool) (wide : List ℕ) (count : ℕ) : Type 0 where
  pub linked : AreLinked (length all) rows nodes heads links
  pub many_heads : length heads ≡ 2 * first_leaf (length all)
  pub covered : (index : ℕ) → index < count → IsCovered all ends rows nodes follows wide index
  pub wide_within : (at : ℕ) → at < length wide → slice_index wide at < length all
  pub many_follows : length follows ≡ length all
  pub followers : AreFollowers all follows
  pub several : AreSeveral all rows
  pub wide_several : AreSeveral all wide

-- the same for all rows
abbrev pub AreWatchers : List Row → List ℕ → List ℕ → List ℕ → List ℕ → List ℕ → List Bool → List ℕ → Type 0
AreWatchers all ends rows nodes heads links follows wide = FirstWatchers all ends rows nodes heads links follows wide (length all)

-- the rows from this place of the list on are at their highest level
abbrev pub AreHighest : List Row → List ℕ → ℕ → List ℕ → Type 0
AreHighest all levels from list = (at : ℕ) → from ≤ at → at < length list → slice_index (tops all) (slice_index list at) ≤ slice_index levels (slice_index list at)

-- each row of one list is in the other
pub record HaveSameRows (list other : List ℕ) : Type 0 where
  pub there : (row : ℕ) → IsAmong row (length list) list → IsAmong row (length other) other
  pub back : (row : ℕ) → IsAmong row (length other) other → IsAmong row (length list) list
