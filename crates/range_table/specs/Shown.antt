-- The numbers of a table, as they lie in memory.
use Rattle.std.specs.Prelude.{ℕ, suc, ◌+◌, ◌/◌, ◌%◌, ◌^◌, List, [], ◌∷◌, slice_index}

-- the numbers from this index on: each entry, and what was added to its block of 256, modulo 2 ^ 64
unfoldable pub shown_from : ℕ → List ℕ → List ℕ → List ℕ
shown_from index blocks [] = []
shown_from index blocks (entry ∷ entries) = (entry + slice_index blocks (index / 256)) % 2 ^ 64 ∷ shown_from (suc index) blocks entries
