-- Graphs of items, and walks through them.
use Rattle.std.specs.Prelude.{◌≡◌, ◌<◌, ℕ, List, [], ◌∷◌, length, get_or, sum_by, Contains}

-- the items to which an item leads
abbrev pub row : List (List ℕ) → ℕ → List ℕ
row graph i = get_or graph i []

-- a walk from the first item to this one, through the given items before it, the last of them first
abbrev pub IsWalk : List (List ℕ) → List ℕ → ℕ → Type 0
IsWalk graph [] j = j ≡ 0
IsWalk graph (i ∷ before) j = Contains (row graph i) j × IsWalk graph before i

-- how many edges there are
abbrev pub edges : List (List ℕ) → ℕ
edges graph = sum_by length graph

-- each edge leads to an item
abbrev pub IsInside : List (List ℕ) → Type 0
IsInside graph = (i j : ℕ) → Contains (row graph i) j → j < length graph
