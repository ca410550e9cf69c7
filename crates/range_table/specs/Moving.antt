-- A number is added to a range of a list.
use Rattle.std.specs.Prelude.{◌≡◌, ◌⊎◌, ℕ, ◌+◌, ◌%◌, ◌<◌, ◌≤◌, ◌^◌, List, length, slice_index}

-- the number is added, modulo 2 ^ 64, to each from the one index up to the other, and no other has changed
pub record IsMoved (from to more : ℕ) (before after : List ℕ) : Type 0 where
  pub len : length after ≡ length before
  pub inside : (index : ℕ) → from ≤ index → index < to → slice_index after index ≡ (slice_index before index + more) % 2 ^ 64
  pub outside : (index : ℕ) → (index < from) ⊎ (to ≤ index) → slice_index after index ≡ slice_index before index
