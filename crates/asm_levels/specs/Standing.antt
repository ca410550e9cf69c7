-- What a list of rows keeps, so that each row can be laid out.
use Rattle.std.specs.Prelude.{ℕ, ◌+◌, ◌^◌, ◌<◌, ◌≤◌, List, length, slice_index_or}
use Rattle.asm_levels.specs.declared.rows.RowSize.{RowSize}
use Rattle.asm_levels.specs.declared.rows.RowSize.TheVariants.{Fixed, Align, Org, Jump, Leb128, Advance, End}
use Rattle.asm_levels.specs.declared.rows.Row.{Row}
use Rattle.asm_levels.specs.Distances.{DistanceStands}

-- an alignment is 2^30 at most
abbrev pub AlignStands : RowSize → Type 0
AlignStands (Fixed bytes) = Unit {0}
AlignStands (Align log most) = log ≤ 30
AlignStands (Org from ahead behind) = Unit {0}
AlignStands (Jump conditional distance) = Unit {0}
AlignStands (Leb128 signed distance) = Unit {0}
AlignStands (Advance distance) = Unit {0}
AlignStands End = Unit {0}

-- an `.org` counts from one of the first so many rows
abbrev pub OrgStands : ℕ → RowSize → Type 0
OrgStands count (Fixed bytes) = Unit {0}
OrgStands count (Align log most) = Unit {0}
OrgStands count (Org from ahead behind) = from < count
OrgStands count (Jump conditional distance) = Unit {0}
OrgStands count (Leb128 signed distance) = Unit {0}
OrgStands count (Advance distance) = Unit {0}
OrgStands count End = Unit {0}

-- the distance of the row names rows among so many
abbrev pub NamesRows : ℕ → RowSize → Type 0
NamesRows count (Fixed bytes) = Unit {0}
NamesRows count (Align log most) = Unit {0}
NamesRows count (Org from ahead behind) = Unit {0}
NamesRows count (Jump conditional distance) = DistanceStands count distance
NamesRows count (Leb128 signed distance) = DistanceStands count distance
NamesRows count (Advance distance) = DistanceStands count distance
NamesRows count End = Unit {0}

-- the row of this index stands among so many: its alignment, its `.org`, its distance, and at most 2^33 plain bytes before it
pub record RowStands (count index : ℕ) (row : Row) : Type 0 where
  pub align : AlignStands row.size
  pub org : OrgStands (index + 1) row.size
  pub names : NamesRows count row.size
  pub offset : row.offset ≤ 2 ^ 33

-- each row stands among them all
abbrev pub AllStand : List Row → Type 0
AllStand rows = (index : ℕ) (default : Row) → index < length rows → RowStands (length rows) index (slice_index_or rows index default)
