-- LEB128 numbers as they are written, in as few bytes as hold them (DWARF 5, section 7.6).
use Rattle.std.specs.Prelude.{ℕ, zero, suc, ◌+◌, ◌-◌, ◌/◌, ◌%◌, ℤ, pos, negsuc, List, [], ◌∷◌, nat_lt, if◌then◌else◌}

-- a number in seven bits a byte, in at most one byte more than the first number says
abbrev pub uleb_digits : ℕ → ℕ → List ℕ
uleb_digits zero number = number ∷ []
uleb_digits (suc more) number = if nat_lt number 128 then number ∷ [] else (128 + number % 128) ∷ uleb_digits more (number / 128)

-- an unsigned number below 2 ^ 64, in as few bytes as hold it
unfoldable pub uleb_bytes : ℕ → List ℕ
uleb_bytes number = uleb_digits 9 number

-- a number in just one byte more than the first number says, as a layout may have room for
abbrev pub padded_digits : ℕ → ℕ → List ℕ
padded_digits zero number = number ∷ []
padded_digits (suc more) number = (128 + number % 128) ∷ padded_digits more (number / 128)

-- a number that is not below 0, with bit 6 of the last byte clear
abbrev pub sleb_digits : ℕ → ℕ → List ℕ
sleb_digits zero number = number ∷ []
sleb_digits (suc more) number = if nat_lt number 64 then number ∷ [] else (128 + number % 128) ∷ sleb_digits more (number / 128)

-- the number below 0 that is -1 less this number, with bit 6 of the last byte set
abbrev pub sleb_digits_below : ℕ → ℕ → List ℕ
sleb_digits_below zero number = (127 - number) ∷ []
sleb_digits_below (suc more) number =
    if nat_lt number 64 then (127 - number) ∷ [] else (255 - number % 128) ∷ sleb_digits_below more (number / 128)

-- a signed number within -2 ^ 63 to 2 ^ 63 - 1, in as few bytes as hold it
unfoldable pub sleb_bytes : ℤ → List ℕ
sleb_bytes (pos number) = sleb_digits 9 number
sleb_bytes (negsuc number) = sleb_digits_below 9 number
