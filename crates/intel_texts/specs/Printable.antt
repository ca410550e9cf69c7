-- How many bytes memory of a row may have.
use Rattle.std.specs.Prelude.{ℕ}

-- so many bytes have a size word, or do not count
pub data IsMemorySize : (bytes : ℕ) → Type 0 where
  uncounted : IsMemorySize 0
  one : IsMemorySize 1
  two : IsMemorySize 2
  four : IsMemorySize 4
  eight : IsMemorySize 8
  sixteen : IsMemorySize 16
