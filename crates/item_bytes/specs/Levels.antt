-- The levels of what grows with its value: the size of each, and which numbers it holds.
use Rattle.std.specs.Prelude.{◌≡◌, ℕ, zero, suc, ◌+◌, ◌-◌, ◌%◌, ◌^◌, ◌<◌, ◌≤◌, ◌⊎◌, nat_lt, nat_le, Bool, List, [], ◌∷◌, slice_index, if◌then◌else◌}
use Rattle.std.specs.List.{prefix_len}

-- the near form of a jump: an opcode of one byte, or of two with a condition, and a distance of four
abbrev pub near_size : Bool → ℕ
near_size conditional = if conditional then 6 else 5

-- level 0 is the short form of a jump: an opcode and a distance of one byte each
abbrev pub jump_size : Bool → ℕ → ℕ
jump_size conditional zero = 2
jump_size conditional (suc level) = near_size conditional

-- nothing, one byte with the distance in it, and one byte before 1, 2 and 4 that hold it (DWARF 5, section 6.4.2.1)
abbrev pub advance_size : ℕ → ℕ
advance_size level = slice_index (0 ∷ 1 ∷ 2 ∷ 3 ∷ 5 ∷ []) level

-- how many of these limits, which rise, the value has reached
abbrev pub limits_reached : ℕ → List ℕ → ℕ
limits_reached value limits = prefix_len (λ limit. nat_le limit value) limits

-- the least level of a jump whose form holds this distance, a number modulo 2^64: the short form holds a signed byte
unfoldable pub jump_level : ℕ → ℕ
jump_level distance = if nat_lt ((distance + 2 ^ 7) % 2 ^ 64) (2 ^ 8) then 0 else 1

-- where an unsigned number takes another group of 7 bits
abbrev pub unsigned_limits : List ℕ
unsigned_limits = 2 ^ 7 ∷ 2 ^ 14 ∷ 2 ^ 21 ∷ 2 ^ 28 ∷ 2 ^ 35 ∷ 2 ^ 42 ∷ 2 ^ 49 ∷ 2 ^ 56 ∷ 2 ^ 63 ∷ []

-- the number of groups of 7 bits that an unsigned number takes besides the first (DWARF 5, section 7.6)
unfoldable pub unsigned_level : ℕ → ℕ
unsigned_level value = limits_reached value unsigned_limits

-- the bits of a number modulo 2^64 that are not its sign: all are turned where it is negative
abbrev pub without_sign : ℕ → ℕ
without_sign value = if nat_lt value (2 ^ 63) then value else (2 ^ 64 - 1) - value

-- where a signed number takes another group of 7 bits: the highest bit of the last one is its sign
abbrev pub signed_limits : List ℕ
signed_limits = 2 ^ 6 ∷ 2 ^ 13 ∷ 2 ^ 20 ∷ 2 ^ 27 ∷ 2 ^ 34 ∷ 2 ^ 41 ∷ 2 ^ 48 ∷ 2 ^ 55 ∷ 2 ^ 62 ∷ []

-- the number of groups of 7 bits that a signed number, modulo 2^64, takes besides the first (DWARF 5, section 7.6)
unfoldable pub signed_level : ℕ → ℕ
signed_level value = limits_reached (without_sign value) signed_limits

-- the number of groups of 7 bits besides the first
abbrev pub leb128_level : Bool → ℕ → ℕ
leb128_level signed value = if signed then signed_level value else unsigned_level value

-- where an advance takes another form: from none on 6 bits, 1, 2 and 4 bytes (DWARF 5, section 6.4.2.1)
abbrev pub advance_limits : List ℕ
advance_limits = 1 ∷ 2 ^ 6 ∷ 2 ^ 8 ∷ 2 ^ 16 ∷ []

-- the least level of an advance that holds this distance
unfoldable pub advance_level : ℕ → ℕ
advance_level distance = limits_reached distance advance_limits

-- modulo 2^64 the value stands for a number from -bound to bound - 1
abbrev pub IsSignedWithin : ℕ → ℕ → Type 0
IsSignedWithin bound value = (value < bound) ⊎ (2 ^ 64 ≤ value + bound)

-- an advance of this level holds the distance: 0 alone, what 6 bits hold, and what 1, 2 and 4 bytes hold
abbrev pub AdvanceHolds : ℕ → ℕ → Type 0
AdvanceHolds zero distance = distance ≡ 0
AdvanceHolds (suc zero) distance = distance < 2 ^ 6
AdvanceHolds (suc (suc zero)) distance = distance < 2 ^ 8
AdvanceHolds (suc (suc (suc zero))) distance = distance < 2 ^ 16
AdvanceHolds (suc (suc (suc (suc level)))) distance = distance < 2 ^ 32
