-- What ModRM, SIB and displacement name, read from their bytes (Intel SDM, volume 2, section 2.1.5).
use Rattle.std.specs.Prelude.{◌+◌, ◌-◌, ◌*◌, ◌/◌, ◌%◌, ◌^◌, ◌==◌, ◌&&◌, ◌∷◌, [], ℕ, nat_lt, List, Bool, true, false, Some, if◌then◌else◌}
use Rattle.std.specs.Int.{from_le_bytes, w32}
use Rattle.x86_insn.specs.declared.insns.Index.{Index}
use Rattle.x86_insn.specs.declared.insns.Index.TheVariants as index
use Rattle.x86_table.specs.declared.parts.Width.{Width}
use Rattle.x86_table.specs.declared.parts.Width.TheVariants as width
use Rattle.x86_table.specs.Fields.{Location, direct, from_rip, bare, based}

-- a byte, sign-extended to 64 bits
abbrev pub signed_byte : ℕ → ℕ
signed_byte v = if nat_lt v 128 then v else v + (2 ^ 64 - 2 ^ 8)

-- 32 bits, sign-extended to 64
abbrev pub signed_long : ℕ → ℕ
signed_long v = if nat_lt v (2 ^ 31) then v else v + (2 ^ 64 - 2 ^ 32)

-- a number, and the bytes behind it
pub record Numbered : Type 0 where
  pub value : ℕ
  pub rest : List ℕ

-- the byte in front, as a displacement
abbrev pub byte_displaced : List ℕ → Numbered
byte_displaced [] = record { value = 0; rest = [] }
byte_displaced (b ∷ bytes) = record { value = signed_byte b; rest = bytes }

-- the number that four bytes hold; where they are too few, any
abbrev pub long_held : List ℕ → Numbered
long_held (a ∷ b ∷ c ∷ d ∷ bytes) = record { value = from_le_bytes w32 (a ∷ b ∷ c ∷ d ∷ []); rest = bytes }
long_held _ = record { value = 0; rest = [] }

-- the same, sign-extended
abbrev pub long_displaced : List ℕ → Numbered
long_displaced bytes = record { value = signed_long (long_held bytes).value; rest = (long_held bytes).rest }

-- a displacement of this width
abbrev pub displaced : Width → List ℕ → Numbered
displaced width.Absent bytes = record { value = 0; rest = bytes }
displaced width.Byte bytes = byte_displaced bytes
displaced width.Long bytes = long_displaced bytes

-- the width by ModRM.mod
abbrev pub width_of : ℕ → Width
width_of mode = if mode == 0 then width.Absent else (if mode == 1 then width.Byte else width.Long)

-- the index by REX.X and SIB
abbrev pub index_in : ℕ → ℕ → Index
index_in x sib = if sib / 8 % 8 + 8 * x == 4 then index.Absent else index.By (sib / 8 % 8 + 8 * x) (sib / 64)

-- a place, and the bytes behind it
pub record Placed : Type 0 where
  pub place : Location
  pub rest : List ℕ

-- an address from rip
abbrev pub rip_placed : Numbered → Placed
rip_placed number = record { place = from_rip (Some number.value); rest = number.rest }

-- an address without base
abbrev pub bare_placed : Index → Numbered → Placed
bare_placed i number = record { place = bare i (Some number.value); rest = number.rest }

-- an address with a base
abbrev pub based_placed : ℕ → Index → Bool → Width → Numbered → Placed
based_placed b i sib w number = record { place = based b i sib w (Some number.value); rest = number.rest }

-- an address by a SIB byte; where there is none, any
abbrev pub sib_placed : ℕ → ℕ → ℕ → List ℕ → Placed
sib_placed x b mode [] = record { place = bare index.Absent (Some 0); rest = [] }
sib_placed x b mode (sib ∷ bytes) = if (mode == 0) && (sib % 8 == 5) then bare_placed (index_in x sib) (long_displaced bytes)
    else based_placed (sib % 8 + 8 * b) (index_in x sib) true (width_of mode) (displaced (width_of mode) bytes)

-- an address by ModRM.mod and ModRM.rm
abbrev pub memory_placed : ℕ → ℕ → ℕ → ℕ → List ℕ → Placed
memory_placed x b mode low bytes = if low == 4 then sib_placed x b mode bytes else (if (mode == 0) && (low == 5) then rip_placed (long_displaced bytes)
    else based_placed (low + 8 * b) index.Absent false (width_of mode) (displaced (width_of mode) bytes))

-- a place by ModRM.mod and ModRM.rm
abbrev pub mode_placed : ℕ → ℕ → ℕ → ℕ → List ℕ → Placed
mode_placed x b mode low bytes = if mode == 3 then record { place = direct (low + 8 * b); rest = bytes } else memory_placed x b mode low bytes

-- a place by REX.X, REX.B and the bytes from ModRM on; where there are none, any
unfoldable pub place_in : ℕ → ℕ → List ℕ → Placed
place_in x b [] = record { place = direct 0; rest = [] }
place_in x b (m ∷ bytes) = mode_placed x b (m / 64) (m % 8) bytes
