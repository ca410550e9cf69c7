-- Tables of slots in the order of their registers, and of their distances where they are of one register.
use Rattle.std.specs.Prelude.{◌≡◌, ◌+◌, ◌*◌, ◌^◌, ◌<◌, ◌≤◌, ◌==◌, ◌&&◌, ℕ, nat_lt, nat_le, Bool, true, Option, None, Some, List, length}
use Rattle.stack_facts.specs.declared.values.Slot.{Slot}
use Rattle.stack_facts.specs.Places.{is_saved, is_slot_place}
use Rattle.stack_facts.specs.Sets.{slot_at, place_of}

-- the number by which slots are in order
abbrev pub rank_at : (distance register : ℕ) → ℕ
rank_at n r = r * 2 ^ 64 + n

-- that of a slot
abbrev pub rank_of : Slot → ℕ
rank_of s = rank_at s.distance s.register

-- each slot is one of the six, at a place of slots
abbrev pub MayStand : List Slot → Type 0
MayStand slots = (k : ℕ) → k < length slots → (is_saved (slot_at slots k).register ≡ true) × (is_slot_place (slot_at slots k).distance ≡ true)

-- such slots in order, each once
pub record IsRanked (slots : List Slot) : Type 0 where
  pub rising : (i j : ℕ) → i < j → j < length slots → rank_of (slot_at slots i) < rank_of (slot_at slots j)
  pub may : MayStand slots

-- so many of them come before a rank
pub record IsCountBefore (slots : List Slot) (rank count : ℕ) : Type 0 where
  pub within : count ≤ length slots
  pub before : (k : ℕ) → k < count → rank_of (slot_at slots k) < rank
  pub behind : (k : ℕ) → count ≤ k → k < length slots → rank ≤ rank_of (slot_at slots k)

-- a table has all slots of a list
abbrev pub HasAll : (found slots : List Slot) → Type 0
HasAll found slots = (n r : ℕ) → place_of found n r < length found → place_of slots n r < length slots

-- a distance is below another, if there is one
abbrev pub is_before : Option ℕ → ℕ → Bool
is_before None n = true
is_before (Some to) n = nat_lt n to

-- a distance is a number of 64 bits, if there is one
abbrev pub IsNumber : Option ℕ → Type 0
IsNumber None = Unit {0}
IsNumber (Some to) = to < 2 ^ 64

-- the distance where bytes end, if it is a number of 64 bits
abbrev pub IsEnd : (end : ℕ) → Option ℕ → Type 0
IsEnd end None = 2 ^ 64 ≤ end
IsEnd end (Some to) = to ≡ end

-- the rank of a distance of a register, or that of the next register
abbrev pub rank_up_to : (register : ℕ) → Option ℕ → ℕ
rank_up_to r None = rank_at 0 (r + 1)
rank_up_to r (Some to) = rank_at to r

-- the slot at a place lies from a distance on up to another, if there is one
abbrev pub lies_between : (from : ℕ) → (to : Option ℕ) → List Slot → ℕ → Bool
lies_between from to slots k = nat_le from (slot_at slots k).distance && is_before to (slot_at slots k).distance

-- and it is of a register and lies from a distance on up to another
abbrev pub is_between : (register from : ℕ) → (to : Option ℕ) → List Slot → ℕ → Bool
is_between r from to slots k = (slot_at slots k).register == r && lies_between from to slots k

-- a test holds of the slot at a place, which is of a register before another
abbrev pub is_up_to : (ℕ → Bool) → List Slot → (register : ℕ) → ℕ → Bool
is_up_to test slots r k = test k && nat_lt (slot_at slots k).register r
