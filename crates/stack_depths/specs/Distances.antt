-- Distances of the seven registers from the frame address, which is the value of rsp at entry plus 8 (DWARF 5, section 6.4; psABI for AMD64, section
-- 3.2.2). They are numbers modulo 2 ^ 64, and registers have their numbers among the seven.
use Rattle.std.specs.Prelude.{◌≡◌, ◌+◌, ◌-◌, ◌/◌, ◌%◌, ◌^◌, ◌==◌, ◌↔◌, ℕ, nat_lt, Bool, true, false, Option, None, Some, List, [], ◌∷◌, slice_get, if◌then◌else◌}
use Rattle.flow_graph.specs.declared.nodes.Node.{Node}
use Rattle.flow_graph.specs.Walks.{successor_lists, IsWalk}
use Rattle.work_lists.specs.Graphs as graphs
use Rattle.insn_effects.specs.Followed.{wrap, FollowedMove, Followed, followed_by}
use Rattle.code_functions.specs.declared.items.CodeItem.{CodeItem}

-- the distance of each register, where it is known
abbrev pub Distances : Type 0
Distances = ℕ → Option ℕ

-- the number has the bit of this register
abbrev pub has_bit : (bits q : ℕ) → Bool
has_bit bits q = bits / 2 ^ q % 2 == 1

-- a register that is written is not known
abbrev pub unless_written : Bool → Option ℕ → Option ℕ
unless_written true distance = None
unless_written false distance = distance

-- a number more
abbrev pub sum_of : Option ℕ → ℕ → Option ℕ
sum_of None more = None
sum_of (Some distance) more = Some (wrap (distance + more))

-- the register that moves has the distance of its base and a number more
abbrev pub moved_by : Option FollowedMove → (written : Bool) → Distances → ℕ → Option ℕ
moved_by None written before q = unless_written written (before q)
moved_by (Some m) written before q = if m.to == q then sum_of (before m.base) m.add else unless_written written (before q)

-- the distances after what is followed of an item
abbrev pub distance_after : Followed → Distances → Distances
distance_after e before q = moved_by e.moves (has_bit e.written q) before q

-- the distances after an item, if it is there
abbrev pub distance_over : Option CodeItem → Distances → Distances
distance_over None before q = before q
distance_over (Some item) before q = distance_after (followed_by item.effect) before q

-- at entry rsp is 8 below the frame address, and the others are not known
abbrev pub entry_distance : Distances
entry_distance q = if q == 0 then Some (2 ^ 64 - 8) else None

-- the distances along a walk through these items, the last one first
abbrev pub distances_along : List CodeItem → List ℕ → Distances
distances_along items [] q = entry_distance q
distances_along items (last ∷ before) q = if nat_lt q 7 then distance_over (slice_get items last) (distances_along items before) q else None

-- a register has a distance at an item exactly if there is a walk to the item and every walk to it gives the same
abbrev pub AreDistances : List Node → List CodeItem → (ℕ → Distances) → Type 0
AreDistances nodes items known = (j q k : ℕ) → (known j q ≡ Some k)
    ↔ (((w : List ℕ) × IsWalk nodes w j) × ((w : List ℕ) → IsWalk nodes w j → distances_along items w q ≡ Some k))

-- exactly these items have a walk to them
abbrev pub AreReached : List Node → (ℕ → Bool) → Type 0
AreReached nodes reached = (j : ℕ) → (reached j ≡ true) ↔ ((w : List ℕ) × IsWalk nodes w j)

-- how many edges a graph has
abbrev pub edges : List Node → ℕ
edges nodes = graphs.edges (successor_lists nodes)
