-- What holds of numbers and their bytes.
use Rattle.std.specs.Prelude.{◌≡◌, ℕ, ◌+◌, ◌^◌, ◌<◌, ℤ, pos, negsuc, List, ◌++◌, Some}
use Rattle.leb128.specs.Reading.{uleb, sleb}
use Rattle.leb128.specs.Digits.{uleb_bytes, padded_digits, sleb_bytes}
use Rattle.leb128.specs.Room.{uleb_room}

-- the number is one of -2 ^ 63 to 2 ^ 63 - 1
abbrev pub IsSigned64 : ℤ → Type 0
IsSigned64 (pos number) = number < 2 ^ 63
IsSigned64 (negsuc number) = number < 2 ^ 63

-- a number is read from its bytes, and what follows them is left: unsigned in as few bytes as hold it, and in more, and signed
pub record NumbersReadBack : Type 0 where
  pub unsigned : (number : ℕ) (rest : List ℕ) → number < 2 ^ 64 → uleb (uleb_bytes number ++ rest) ≡ Some (number, rest)
  pub padded : (more number : ℕ) (rest : List ℕ) → number < uleb_room more → number < 2 ^ 64
      → uleb (padded_digits more number ++ rest) ≡ Some (number, rest)
  pub signed : (number : ℤ) (rest : List ℕ) → IsSigned64 number → sleb (sleb_bytes number ++ rest) ≡ Some (number, rest)
