-- Sets of facts, as bits: the six entry values, and then the slots of a table by their places in it.
use Rattle.std.specs.Prelude.{◌≡◌, ◌+◌, ◌-◌, ◌<◌, ◌≤◌, ◌==◌, ◌&&◌, ℕ, nat_lt, Bool, true, false, Option, None, Some, is_some, List, length, get_or, slice_get, if◌then◌else◌}
use Rattle.std.specs.List.{position_or_len}
use Rattle.code_functions.specs.declared.items.CodeItem.{CodeItem}
use Rattle.stack_depths.specs.Distances.{Distances}
use Rattle.stack_facts.specs.declared.values.Slot.{Slot}
use Rattle.stack_facts.specs.Places.{below, is_saved}
use Rattle.stack_facts.specs.Facts.{Fact, entry, slot, saved_over, is_at}

-- the slot is this one
abbrev pub is_slot : (distance register : ℕ) → Slot → Bool
is_slot n r s = s.distance == n && s.register == r

-- the place of a slot in a table, or the table's length
abbrev pub place_of : List Slot → (distance register : ℕ) → ℕ
place_of slots n r = position_or_len (is_slot n r) slots

-- no slot
abbrev pub no_slot : Slot
no_slot = record { distance = 0; register = 0 }

-- the slot at a place of a table
abbrev pub slot_at : List Slot → ℕ → Slot
slot_at slots k = get_or slots k no_slot

-- the fact that a slot of a table is
abbrev pub fact_at : List Slot → ℕ → Fact
fact_at slots k = slot (slot_at slots k).distance (slot_at slots k).register

-- a set has a fact
abbrev pub holds_in : List Slot → List Bool → Fact → Bool
holds_in slots bits (entry r) = is_saved r && get_or bits (r - 1) false
holds_in slots bits (slot n r) = nat_lt (place_of slots n r) (length slots) && get_or bits (6 + place_of slots n r) false

-- a table in which each slot stands once, of the six alone
pub record IsPlain (slots : List Slot) : Type 0 where
  pub once : (k : ℕ) → k < length slots → place_of slots (slot_at slots k).distance (slot_at slots k).register ≡ k
  pub of_six : (k : ℕ) → k < length slots → is_saved (slot_at slots k).register ≡ true

-- a table has what another has and this slot, and one more at most
pub record IsAdded (old : List Slot) (s : Slot) (new : List Slot) : Type 0 where
  pub plain : IsPlain new
  pub there : place_of new s.distance s.register < length new
  pub kept : (n r : ℕ) → place_of old n r < length old → place_of new n r < length new
  pub few : length new ≤ length old + 1

-- the same of a slot, if there is one
pub record AreAdded (old : List Slot) (found : Option Slot) (new : List Slot) : Type 0 where
  pub plain : IsPlain new
  pub there : (n r : ℕ) → is_at found n r ≡ true → place_of new n r < length new
  pub kept : (n r : ℕ) → place_of old n r < length old → place_of new n r < length new
  pub few : length new ≤ length old + (if is_some found then 1 else 0)

-- it has each slot that one of the first items may make
abbrev pub HasSaves : List CodeItem → (ℕ → Distances) → ℕ → List Slot → Type 0
HasSaves items known count slots =
    (i n r : ℕ) → i < count → is_at (saved_over (slice_get items i) (known i)) n r ≡ true → place_of slots n r < length slots

-- the table of all slots that items may make
pub record IsTable (items : List CodeItem) (known : ℕ → Distances) (slots : List Slot) : Type 0 where
  pub plain : IsPlain slots
  pub all : HasSaves items known (length items) slots

-- of the first slots of a table that stand and are of a register, none is above the one that was found; or none of them stands
pub record IsBest (slots : List Slot) (bits : List Bool) (r count : ℕ) (found : Option ℕ) : Type 0 where
  pub none : found ≡ None → (k : ℕ) → k < count → (slot_at slots k).register ≡ r → holds_in slots bits (fact_at slots k) ≡ false
  pub stands : (n : ℕ) → found ≡ Some n → holds_in slots bits (slot n r) ≡ true
  pub best : (n k : ℕ) → found ≡ Some n → k < count → (slot_at slots k).register ≡ r → holds_in slots bits (fact_at slots k) ≡ true
      → below n (slot_at slots k).distance ≡ false

-- the higher one of a distance that was found and another
abbrev pub higher_of : Option ℕ → ℕ → ℕ
higher_of None distance = distance
higher_of (Some best) distance = if below best distance then distance else best

-- the same for each of the seven registers
abbrev pub AreBest : List Slot → List Bool → (count : ℕ) → List (Option ℕ) → Type 0
AreBest slots bits count found = (r : ℕ) → r < 7 → IsBest slots bits r count (get_or found r None)
