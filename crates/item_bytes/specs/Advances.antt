-- Advances of a frame table: how far the location of its rows is moved (DWARF 5, section 6.4.2.1).
use Rattle.std.specs.Prelude.{ℕ, zero, suc, ◌+◌, ◌%◌, ◌/◌, ◌^◌, ◌==◌, nat_le, Option, Some, None, List, [], ◌∷◌, length, take, drop, if◌then◌else◌}
use Rattle.std.specs.Int.{Width, to_le_bytes, from_le_bytes, byte_len, w8, w16, w32}

-- none, `DW_CFA_advance_loc` with the distance in its low 6 bits, and `_loc1`, `_loc2`, `_loc4` before it
unfoldable pub advance_bytes : ℕ → ℕ → List ℕ
advance_bytes zero distance = []
advance_bytes (suc zero) distance = (0x40 + distance % 2 ^ 6) ∷ []
advance_bytes (suc (suc zero)) distance = 0x02 ∷ (distance % 2 ^ 8) ∷ []
advance_bytes (suc (suc (suc zero))) distance = 0x03 ∷ to_le_bytes w16 (distance % 2 ^ 16)
advance_bytes (suc (suc (suc (suc level)))) distance = 0x04 ∷ to_le_bytes w32 (distance % 2 ^ 32)

-- the number in the first bytes, the lowest first, as many as the width has, and what follows
abbrev pub read_number : Width → List ℕ → Option (ℕ × List ℕ)
read_number width bytes = if nat_le (byte_len width) (length bytes)
    then Some (from_le_bytes width (take (byte_len width) bytes), drop (byte_len width) bytes)
    else None

-- the distance of an advance with this first byte before the others, and what follows
abbrev pub read_behind : ℕ → List ℕ → Option (ℕ × List ℕ)
read_behind code bytes =
    if code / 2 ^ 6 == 1 then Some (code % 2 ^ 6, bytes)
    else (if code == 0x02 then read_number w8 bytes
    else (if code == 0x03 then read_number w16 bytes
    else (if code == 0x04 then read_number w32 bytes else None)))

-- the distance of the advance that the bytes begin with, and what follows
unfoldable pub read_advance : List ℕ → Option (ℕ × List ℕ)
read_advance [] = None
read_advance (code ∷ bytes) = read_behind code bytes
