-- No row needs a level above its top.
use Rattle.std.proofs.Common.{ℕ, ◌+◌, ◌%◌, ◌^◌, ◌≤◌, zero, suc, true, false, cond, List, [], ◌∷◌, get_or, arith, nat_le, nat_lt}
use Rattle.std.proofs.lemmas.List.Sums.{prefix_len-le-length}
use Rattle.level_ranks.specs.Rounds.{NeedsWithin}
use Rattle.asm_levels.specs.declared.rows.RowSize.{RowSize}
use Rattle.asm_levels.specs.declared.rows.RowSize.TheVariants.{Fixed, Align, Org, Jump, Leb128, Advance, End}
use Rattle.asm_levels.specs.declared.rows.Row.{Row}
use Rattle.asm_levels.specs.Distances.{distance_value}
use Rattle.asm_levels.specs.Shifts.{shifts_of}
use Rattle.asm_levels.specs.Needs.{needed, top, tops, levels_needed, need}
use Rattle.item_bytes.specs.Levels.{jump_level, unsigned_limits, unsigned_level, without_sign, signed_limits, signed_level, advance_limits, advance_level}

jump-le : (distance : ℕ) → jump_level distance ≤ 1
unfolding jump_level
jump-le distance = elim (nat_lt ((distance + 2 ^ 7) % 2 ^ 64) (2 ^ 8)) as (λ b. cond b 0 1 ≤ 1) [ true ↦ omega arith | false ↦ omega arith ]

pub needed-le : (shifts : List ℕ) (size : RowSize) → needed shifts size ≤ top size
unfolding needed top unsigned_level signed_level advance_level
needed-le shifts (Fixed bytes) = omega arith
needed-le shifts (Align log most) = omega arith
needed-le shifts (Org from ahead behind) = omega arith
needed-le shifts (Jump conditional distance) = jump-le (distance_value shifts distance)
needed-le shifts (Leb128 true distance) = prefix_len-le-length (λ limit. nat_le limit (without_sign (distance_value shifts distance))) signed_limits
needed-le shifts (Leb128 false distance) = prefix_len-le-length (λ limit. nat_le limit (distance_value shifts distance)) unsigned_limits
needed-le shifts (Advance distance) = prefix_len-le-length (λ limit. nat_le limit (distance_value shifts distance)) advance_limits
needed-le shifts End = omega arith

pub levels-le : (shifts : List ℕ) (rows : List Row) (index : ℕ) → get_or (levels_needed shifts rows) index 0 ≤ get_or (tops rows) index 0
levels-le shifts [] index = omega arith
levels-le shifts (row ∷ rows) zero = needed-le shifts row.size
levels-le shifts (row ∷ rows) (suc index) = levels-le shifts rows index

pub need_within : (rows : List Row) → NeedsWithin (need rows) (tops rows)
unfolding need
need_within rows levels index long inside = levels-le (shifts_of rows levels) rows index
