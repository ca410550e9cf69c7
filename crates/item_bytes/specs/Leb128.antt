-- Numbers in groups of 7 bits, the lowest first (DWARF 5, section 7.6).
use Rattle.std.specs.Prelude.{ℕ, zero, suc, ◌+◌, ◌-◌, ◌*◌, ◌/◌, ◌%◌, ◌^◌, ◌&&◌, nat_le, nat_lt, Bool, Option, Some, None, List, [], ◌∷◌, option_map, if◌then◌else◌}
use Rattle.item_bytes.specs.Levels.{leb128_level}

-- what fills up a number modulo 2^64 from bit 57 on: its sign, where it has one
abbrev pub filling : Bool → ℕ → ℕ
filling signed value = if signed && nat_le (2 ^ 63) value then 2 ^ 64 - 2 ^ 57 else 0

-- the groups above the lowest one, as a number
abbrev pub groups_above : Bool → ℕ → ℕ
groups_above signed value = value / 2 ^ 7 + filling signed value

-- the number in so many groups: bit 7 is set in each byte but the last
unfoldable pub leb128_bytes : Bool → ℕ → ℕ → List ℕ
leb128_bytes signed value zero = []
leb128_bytes signed value (suc zero) = (value % 2 ^ 7) ∷ []
leb128_bytes signed value (suc (suc groups)) =
    (2 ^ 7 + value % 2 ^ 7) ∷ leb128_bytes signed (groups_above signed value) (suc groups)

-- the number in as few groups as hold it
abbrev pub least_leb128 : Bool → ℕ → List ℕ
least_leb128 signed value = leb128_bytes signed value (leb128_level signed value + 1)

-- what the last group stands for, modulo 2^64: bit 6 is the sign of a signed number
abbrev pub last_group : Bool → ℕ → ℕ
last_group signed group =
    if signed && nat_le (2 ^ 6) group then group + (2 ^ 64 - 2 ^ 7) else group

-- what is read, with a group of 7 bits before it
abbrev pub with_group : ℕ → ℕ × List ℕ → ℕ × List ℕ
with_group group read = ((group + 2 ^ 7 * read.0) % 2 ^ 64, read.1)

-- the number modulo 2^64 of the bytes up to the first one without bit 7, and what follows
unfoldable pub read_leb128 : Bool → List ℕ → Option (ℕ × List ℕ)
read_leb128 signed [] = None
read_leb128 signed (byte ∷ bytes) = if nat_lt byte (2 ^ 7)
    then Some (last_group signed byte, bytes)
    else option_map (with_group (byte - 2 ^ 7)) (read_leb128 signed bytes)
