-- The rows of each opcode.
use Rattle.std.specs.Prelude.{zero, suc, ◌+◌, ◌-◌, ◌*◌, ◌==◌, ◌&&◌, ◌∷◌, [], ◌≡◌, ℕ, List, Bool, true, Option, None, Some, slice_get, slice_index_or, take, drop, if◌then◌else◌}
use Rattle.std.specs.List.{list_any}
use Rattle.x86_table.specs.declared.forms.Map.{Map}
use Rattle.x86_table.specs.declared.forms.Row.{Row}
use Rattle.x86_table.specs.Rows.{the_rows}
use Rattle.x86_table.specs.Heads.{map_number, span}
use Rattle.x86_decode.specs.declared.slots.TheConstants.{STARTS, OPCODE_ROWS}

-- where the rows of each opcode begin
unfoldable pub the_starts : List ℕ
the_starts = STARTS

-- the rows of each opcode, one opcode after the other
unfoldable pub the_numbers : List ℕ
the_numbers = OPCODE_ROWS

-- the slot of an opcode
abbrev pub slot_of : Map → ℕ → ℕ
slot_of m o = 256 * (map_number m - 1) + o

-- where the rows of a slot begin
abbrev pub start_of : ℕ → ℕ
start_of slot = slice_index_or the_starts slot 0

-- the rows of a slot
abbrev pub slot_numbers : ℕ → List ℕ
slot_numbers slot = take (start_of (slot + 1) - start_of slot) (drop (start_of slot) the_numbers)

-- the row of this index stands at so many opcodes from its own on
abbrev pub is_listed : ℕ → Row → ℕ → Bool
is_listed i r zero = true
is_listed i r (suc n) = list_any (λ k. k == i) (slot_numbers (slot_of r.map (r.code + n))) && is_listed i r n

-- each row stands at each of its opcodes
abbrev pub all_listed : ℕ → List Row → Bool
all_listed i [] = true
all_listed i (r ∷ rows) = is_listed i r (span r.shape) && all_listed (i + 1) rows

-- the row, if it passes, or else what comes behind it
abbrev pub pick : (Row → Bool) → Option Row → Option Row → Option Row
pick p None rest = rest
pick p (Some r) rest = if p r then Some r else rest

-- the first of the rows of these indices that passes
abbrev pub first_number : (Row → Bool) → List ℕ → Option Row
first_number p [] = None
first_number p (n ∷ numbers) = pick p (slice_get the_rows n) (first_number p numbers)

-- the row, if it passes
abbrev pub only : (Row → Bool) → Option Row → Option Row
only p None = None
only p (Some r) = if p r then Some r else None

-- the row stands in the table
abbrev pub IsInTable : Row → Type 0
IsInTable r = (i : ℕ) × (slice_get the_rows i ≡ Some r)
