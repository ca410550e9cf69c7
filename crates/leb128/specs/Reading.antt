-- LEB128 numbers as they are read: seven bits a byte, the lowest first, and bit 7 set in each byte but the last (DWARF 5, section 7.6).
use Rattle.std.specs.Prelude.{ℕ, ◌+◌, ◌-◌, ◌*◌, ◌^◌, ℤ, pos, ◌+ℤ◌, ◌-ℤ◌, ◌*ℤ◌, neg_ℤ, List, [], ◌∷◌, Option, None, Some, nat_lt, int_lt, int_le, if◌then◌else◌, ◌&&◌}
use Rattle.std.specs.Option.{option_map, option_and_then}

-- a byte before what the bytes behind it are read as, if it's below 2 ^ 64
abbrev pub uleb_above : ℕ → ℕ × List ℕ → Option (ℕ × List ℕ)
uleb_above byte (above, tail) = if nat_lt above (2 ^ 57) then Some (byte - 128 + 128 * above, tail) else None

-- the unsigned number that the bytes begin with, if it's below 2 ^ 64, and what follows it
abbrev pub uleb : List ℕ → Option (ℕ × List ℕ)
uleb [] = None
uleb (byte ∷ rest) = if nat_lt byte 128 then Some (byte, rest) else option_and_then (uleb_above byte) (uleb rest)

-- the number of a byte before the number above it, if it's within -2 ^ 63 to 2 ^ 63 - 1
abbrev pub value_above : ℕ → ℤ → Option ℤ
value_above byte above =
    if int_le (neg_ℤ (pos (2 ^ 56))) above && int_lt above (pos (2 ^ 56)) then Some (pos (byte - 128) +ℤ (pos 128 *ℤ above)) else None

-- a byte before what the bytes behind it are read as
abbrev pub sleb_above : ℕ → ℤ × List ℕ → Option (ℤ × List ℕ)
sleb_above byte (above, tail) = option_map (λ value. (value, tail)) (value_above byte above)

-- the signed number that the bytes begin with, if it's within -2 ^ 63 to 2 ^ 63 - 1, and what follows it: bit 6 of the last byte is the sign
abbrev pub sleb : List ℕ → Option (ℤ × List ℕ)
sleb [] = None
sleb (byte ∷ rest) =
    if nat_lt byte 64 then Some (pos byte, rest)
    else (if nat_lt byte 128 then Some (pos byte -ℤ pos 128, rest) else option_and_then (sleb_above byte) (sleb rest))
