-- Slots of names: the number of a name's row stands in the slot of the name.
use Rattle.std.specs.Prelude.{ℕ, ◌+◌, ◌-◌, ◌*◌, ◌%◌, ◌==◌, ◌&&◌, min, nat_lt, Bool, true, List, [], ◌∷◌, length, slice_index, if◌then◌else◌}
use Rattle.std.specs.Str.{str_to_ascii_lowercase}

-- the slot of a name of this length with these bytes
abbrev pub slot_of : ℕ → ℕ → ℕ → ℕ → ℕ
slot_of size second sixth last = (size % 256 + 187 * second + 167 * sixth + 32 * last) % 256

-- the slot of a name in small letters: of its length, its second byte, its sixth one or else the last, and its last one
unfoldable pub small_slot : List ℕ → ℕ
small_slot name =
    if nat_lt (length name) 2 then 0
    else slot_of (length name) (slice_index name 1) (slice_index name (min (length name - 1) 5)) (slice_index name (length name - 1))

-- the slot of a name, in capitals or small letters
abbrev pub slot : List ℕ → ℕ
slot name = small_slot (str_to_ascii_lowercase name)

-- what stands in the slot of a name: the number of a row, or 255
abbrev pub row_in : List ℕ → List ℕ → ℕ
row_in slots name = slice_index slots (slot name)

-- the rows, from this number on, stand in the slots of their names
abbrev pub all_in_slots : {X : Type 0} → (X → List ℕ) → List ℕ → ℕ → List X → Bool
all_in_slots name_of slots number [] = true
all_in_slots name_of slots number (row ∷ rows) = (row_in slots (name_of row) == number) && all_in_slots name_of slots (number + 1) rows
