-- The order of the items of a function, by their places.
use Rattle.std.specs.Prelude.{◌≡◌, ◌≤◌, ◌<◌, ◌==◌, ◌&&◌, ◌||◌, ℕ, Bool, true, nat_lt, nat_le, List, length, slice_index_or}
use Rattle.asm_base.specs.declared.places.Place.{Place}
use Rattle.code_functions.specs.declared.items.CodeItem.{CodeItem}

-- the place is the other one, or stands before it
abbrev pub is_up_to : Place → Place → Bool
is_up_to one other = nat_lt one.item other.item || ((one.item == other.item) && nat_le one.offset other.offset)

-- no item begins behind a later one
pub record AreInOrder (items : List CodeItem) : Type 0 where
  pub each : (one other : ℕ) (d : CodeItem) → one ≤ other → other < length items
      → is_up_to (slice_index_or items one d).place (slice_index_or items other d).place ≡ true
