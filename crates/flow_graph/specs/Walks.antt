-- Walks through the items of a function, along the nodes of its graph.
use Rattle.std.specs.Prelude.{◌≡◌, ◌<◌, ◌+◌, ◌==◌, ◌&&◌, ℕ, nat_lt, Bool, not, List, [], ◌∷◌, length, map, Contains, Option, None, Some, slice_get, if◌then◌else◌}
use Rattle.std.specs.List.{range_with_len}
use Rattle.flow_graph.specs.declared.nodes.Node.{Node}

-- the next of so many items, if control goes on to it and there is one
abbrev pub next_of : (falls : Bool) → (count item : ℕ) → List ℕ
next_of falls count item = if falls && nat_lt (item + 1) count then (item + 1) ∷ [] else []

-- the target and the next item, each once
abbrev pub successors_by : Option ℕ → (falls : Bool) → (count item : ℕ) → List ℕ
successors_by None falls count item = next_of falls count item
successors_by (Some target) falls count item = target ∷ next_of (falls && not (target == item + 1)) count item

-- the items to which control may go from an item, if it is there
abbrev pub successors_at : Option Node → (count item : ℕ) → List ℕ
successors_at None count item = []
successors_at (Some node) count item = successors_by node.target node.falls count item

-- the items to which control may go from an item
unfoldable pub successors : List Node → ℕ → List ℕ
successors nodes item = successors_at (slice_get nodes item) (length nodes) item

-- the successors of each item
unfoldable pub successor_lists : List Node → List (List ℕ)
successor_lists nodes = map (successors nodes) (range_with_len 0 (length nodes))

-- a walk from the first item, if there is one, to this one, through the given items before it, the last of them first
abbrev pub IsWalk : List Node → List ℕ → ℕ → Type 0
IsWalk nodes [] item = (item ≡ 0) × (0 < length nodes)
IsWalk nodes (last ∷ before) item = Contains (successors nodes last) item × IsWalk nodes before last

-- each target is an item
abbrev pub IsInside : List Node → Type 0
IsInside nodes = (item other : ℕ) → Contains (successors nodes item) other → other < length nodes
