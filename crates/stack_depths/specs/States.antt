-- The states of the work list, and the facts that they have for it: a register lies at a distance.
use Rattle.std.specs.Prelude.{◌+◌, ◌-◌, ◌%◌, ◌^◌, ◌==◌, ◌&&◌, ℕ, nat_lt, Bool, true, false, Option, None, Some, List, get_or, slice_get, if◌then◌else◌, is_some, sum_by}
use Rattle.work_lists.specs.Exact.{Fact, says, Rules, look}
use Rattle.insn_effects.specs.Followed.{FollowedMove, followed_by}
use Rattle.code_functions.specs.declared.items.CodeItem.{CodeItem}
use Rattle.stack_depths.specs.declared.values.Distance.{Distance}
use Rattle.stack_depths.specs.Distances.{Distances, has_bit, entry_distance}

-- a distance as a number
abbrev pub value_of : Option Distance → Option ℕ
value_of None = None
value_of (Some d) = Some d.value

-- the distance that a register is known to have
abbrev pub known : List (Option Distance) → Distances
known s q = value_of (get_or s q None)

-- the same where a walk leads to the item
abbrev pub known_at : Option (List (Option Distance)) → Distances
known_at None q = None
known_at (Some s) q = known s q

-- what a table of distances has of all items
abbrev pub Depths : Type 0
Depths = List (Option (List (Option Distance)))

-- the distances at an item
unfoldable pub distances_in : Depths → ℕ → Distances
distances_in depths j q = if nat_lt q 7 then known_at (look depths j) q else None

-- whether a walk leads to an item
unfoldable pub reached_in : Depths → ℕ → Bool
reached_in depths j = is_some (look depths j)

-- what two distances agree on
abbrev pub meet_of : Option ℕ → Option ℕ → Option ℕ
meet_of None b = None
meet_of (Some a) None = None
meet_of (Some a) (Some b) = if a == b then Some a else None

-- the distance is this number
abbrev pub is_number : Option ℕ → ℕ → Bool
is_number None k = false
is_number (Some d) k = d == k

-- register q lies at k
abbrev pub lies : Distances → Fact → Bool
lies before (says q k) = nat_lt q 7 && is_number (before q) k

-- what a register that no move changes lies at comes from where it lay
abbrev pub source_unless : Bool → (q k : ℕ) → Option Fact
source_unless true q k = None
source_unless false q k = Some (says q k)

-- the distance of the base from which k comes when a number is added
abbrev pub source_moved : FollowedMove → ℕ → Option Fact
source_moved m k = if nat_lt k (2 ^ 64) then Some (says m.base ((k + (2 ^ 64 - m.add % (2 ^ 64))) % (2 ^ 64))) else None

-- the same by whether a move changes the register
abbrev pub source_by : Option FollowedMove → Bool → (q k : ℕ) → Option Fact
source_by None written q k = source_unless written q k
source_by (Some m) written q k = if m.to == q then source_moved m k else source_unless written q k

-- the fact before an item that makes this one stand after it
abbrev pub source_over : Option CodeItem → Fact → Option Fact
source_over None f = Some f
source_over (Some item) (says q k) =
    if nat_lt q 7 then source_by (followed_by item.effect).moves (has_bit item.effect.written q) q k else None

-- how many distances there are
abbrev pub held : Option Distance → ℕ
held None = 0
held (Some d) = 1

-- the analysis of distances
unfoldable pub depth_rules : List CodeItem → Rules (List (Option Distance))
depth_rules items = record {
  holds = λ s f. lies (known s) f;
  weight = λ s. sum_by held s;
  limit = 7;
  given = λ f. lies entry_distance f;
  source = λ i f. source_over (slice_get items i) f;
}
