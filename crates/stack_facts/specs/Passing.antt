-- What is taken out of a set of facts and put into it, one by one.
use Rattle.std.specs.Prelude.{◌≡◌, ◌+◌, ◌<◌, ◌≤◌, ◌&&◌, ◌||◌, ℕ, Bool, false, not, Option, Some, List, length, get_or, if◌then◌else◌}
use Rattle.stack_facts.specs.declared.values.Span.{Span}
use Rattle.stack_facts.specs.declared.values.Slot.{Slot}
use Rattle.stack_facts.specs.Places.{below, overlaps}
use Rattle.stack_facts.specs.Facts.{entry, is_at, is_below, is_touched}
use Rattle.stack_facts.specs.Sets.{slot_at, fact_at, holds_in}

-- of the first slots those are taken out of which a test holds
pub record IsDropped (word out : List Bool) (test : ℕ → Bool) (count : ℕ) : Type 0 where
  pub entries : (k : ℕ) → k < 6 → get_or out k false ≡ get_or word k false
  pub done : (k : ℕ) → k < count → get_or out (6 + k) false ≡ (get_or word (6 + k) false && not (test k))
  pub rest : (k : ℕ) → count ≤ k → get_or out (6 + k) false ≡ get_or word (6 + k) false

-- the bytes meet the slot at a place
abbrev pub is_met : Span → List Slot → ℕ → Bool
is_met span slots k = overlaps span.start span.size (slot_at slots k).distance

-- the bytes that are stored meet it
abbrev pub is_stored : Option Span → List Slot → ℕ → Bool
is_stored stored slots k = is_touched stored (slot_at slots k).distance

-- the slot at a place is below a distance
abbrev pub is_lower : ℕ → List Slot → ℕ → Bool
is_lower limit slots k = below (slot_at slots k).distance limit

-- the same, if the distance is known
abbrev pub is_under : Option ℕ → List Slot → ℕ → Bool
is_under limit slots k = is_below limit (slot_at slots k).distance

-- the slot at a place is this one
abbrev pub is_here : Option Slot → List Slot → ℕ → Bool
is_here found slots k = is_at found (slot_at slots k).distance (slot_at slots k).register

-- a slot is put into a set, or taken out of it
pub record IsPut (slots : List Slot) (s : Slot) (bit : Bool) (word out : List Bool) : Type 0 where
  pub each : (k : ℕ) → k < length slots → get_or out (6 + k) false ≡ (if is_here (Some s) slots k then bit else get_or word (6 + k) false)
  pub high : (k : ℕ) → length slots ≤ k → get_or out (6 + k) false ≡ get_or word (6 + k) false

-- a slot is put into it, where its register had its entry value
pub record IsMade (slots : List Slot) (saved : Option Slot) (before word out : List Bool) : Type 0 where
  pub each : (k : ℕ) → k < length slots → get_or out (6 + k) false
      ≡ ((is_here saved slots k && holds_in slots before (entry (slot_at slots k).register)) || get_or word (6 + k) false)
  pub high : (k : ℕ) → length slots ≤ k → get_or out (6 + k) false ≡ get_or word (6 + k) false

-- a slot that stood is taken out of it
pub record IsFreed (slots : List Slot) (freed : Option Slot) (before word out : List Bool) : Type 0 where
  pub each : (k : ℕ) → k < length slots → get_or out (6 + k) false
      ≡ (get_or word (6 + k) false && not (is_here freed slots k && holds_in slots before (fact_at slots k)))
  pub high : (k : ℕ) → length slots ≤ k → get_or out (6 + k) false ≡ get_or word (6 + k) false

-- a set has the entry values of another
abbrev pub KeepsEntries : List Bool → List Bool → Type 0
KeepsEntries word out = (k : ℕ) → k < 6 → get_or out k false ≡ get_or word k false
