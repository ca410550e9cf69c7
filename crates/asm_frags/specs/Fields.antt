-- Fields: their size, their role, and the values that they hold.
use Rattle.std.specs.Prelude.{ℕ, ◌-◌, ◌^◌, ◌||◌, Bool, true, false, nat_lt, nat_le, List, Option, None, take}
use Rattle.std.specs.Int.{w64, to_le_bytes}
use Rattle.asm_frags.specs.declared.fields.FieldSize.{FieldSize}
use Rattle.asm_frags.specs.declared.fields.FieldSize.TheVariants.{One, Two, Four, Eight}
use Rattle.asm_frags.specs.declared.roles.FieldRole.{FieldRole}
use Rattle.item_contents.specs.declared.kinds.Growth.{Growth}
use Rattle.item_contents.specs.declared.kinds.Growth.TheVariants as growth
use Rattle.x86_insn.specs.declared.amounts.FieldKind.{FieldKind}
use Rattle.x86_insn.specs.declared.amounts.FieldKind.TheVariants.{Plain, Signed, Address, Branch, Number}
use Rattle.x86_insn.specs.declared.amounts.Suffix.{Suffix}

-- the size of a field in bytes
abbrev pub width : FieldSize → ℕ
width One = 1
width Two = 2
width Four = 4
width Eight = 8

-- the value, a number modulo 2 ^ 64, is from -2 ^ (n - 1) to 2 ^ n - 1, where n is the number of bits of the field
unfoldable pub fits : FieldSize → ℕ → Bool
fits One value = nat_lt value (2 ^ 8) || nat_le (2 ^ 64 - 2 ^ 7) value
fits Two value = nat_lt value (2 ^ 16) || nat_le (2 ^ 64 - 2 ^ 15) value
fits Four value = nat_lt value (2 ^ 32) || nat_le (2 ^ 64 - 2 ^ 31) value
fits Eight value = true

-- the same, from -2 ^ (n - 1) to 2 ^ (n - 1) - 1
unfoldable pub fits_signed : FieldSize → ℕ → Bool
fits_signed One value = nat_lt value (2 ^ 7) || nat_le (2 ^ 64 - 2 ^ 7) value
fits_signed Two value = nat_lt value (2 ^ 15) || nat_le (2 ^ 64 - 2 ^ 15) value
fits_signed Four value = nat_lt value (2 ^ 31) || nat_le (2 ^ 64 - 2 ^ 31) value
fits_signed Eight value = true

-- a field of this kind and size holds the value: as it is, or with a sign; the item of a number has room for each value of its levels
abbrev pub holds : FieldKind → FieldSize → ℕ → Bool
holds Plain size value = fits size value
holds Signed size value = fits_signed size value
holds Address size value = fits_signed size value
holds Branch size value = fits_signed size value
holds Number size value = true

-- the value is a distance from the end of the instruction
abbrev pub is_distance : FieldKind → Bool
is_distance Plain = false
is_distance Signed = false
is_distance Address = true
is_distance Branch = true
is_distance Number = false

-- the role of the field of what grows: a jump holds the distance from its end, which may have a suffix, and the others hold numbers
abbrev pub growth_role : Growth → Option Suffix → FieldRole
growth_role (growth.Jump condition) suffix = record { kind = Branch; suffix = suffix; behind = 0 }
growth_role (growth.Leb128 signed) suffix = record { kind = Number; suffix = None; behind = 0 }
growth_role growth.Advance suffix = record { kind = Number; suffix = None; behind = 0 }

-- data: the value as it is
abbrev pub data_role : FieldRole
data_role = record { kind = Plain; suffix = None; behind = 0 }

-- the symbol that, in the form of a field, stands for the place of the field itself; a source has fewer symbols
abbrev pub own_place : ℕ
own_place = 2 ^ 32 - 1

-- the low bytes of a value, little-endian
unfoldable pub low_bytes : FieldSize → ℕ → List ℕ
low_bytes size value = take (width size) (to_le_bytes w64 value)
