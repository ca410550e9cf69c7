-- Jumps in their short and their near form (Intel SDM, volume 2, `JMP`, `Jcc` and appendix B).
use Rattle.std.specs.Prelude.{ℕ, ◌+◌, ◌-◌, ◌*◌, ◌%◌, ◌^◌, nat_lt, Bool, true, false, Option, Some, None, List, [], ◌∷◌, length, drop, slice_get, if◌then◌else◌}
use Rattle.std.specs.Int.{to_le_bytes, from_le_bytes, w8, w32}
use Rattle.item_bytes.specs.declared.jumps.Condition.{Condition}
use Rattle.item_bytes.specs.declared.jumps.TheConstants.{CONDITIONS}
use Rattle.item_bytes.specs.declared.jumps.Condition.TheVariants.{Overflow, NoOverflow, Below, AboveOrEqual, Equal, NotEqual, BelowOrEqual, Above, Sign, NoSign, Parity, NoParity, Less, GreaterOrEqual, LessOrEqual, Greater}

-- the condition test field
abbrev pub number_of : Condition → ℕ
number_of Overflow = 0
number_of NoOverflow = 1
number_of Below = 2
number_of AboveOrEqual = 3
number_of Equal = 4
number_of NotEqual = 5
number_of BelowOrEqual = 6
number_of Above = 7
number_of Sign = 8
number_of NoSign = 9
number_of Parity = 10
number_of NoParity = 11
number_of Less = 12
number_of GreaterOrEqual = 13
number_of LessOrEqual = 14
number_of Greater = 15

-- the conditions, by their numbers
unfoldable pub the_conditions : List Condition
the_conditions = CONDITIONS

-- the condition of this number, if it is below 16
abbrev pub condition_of : ℕ → Option Condition
condition_of number = slice_get the_conditions number

-- there is a condition
abbrev pub is_conditional : Option Condition → Bool
is_conditional None = false
is_conditional (Some condition) = true

-- the opcode EB or 70+cc
abbrev pub short_opcode : Option Condition → ℕ
short_opcode None = 0xeb
short_opcode (Some condition) = 0x70 + number_of condition

-- an opcode, and the low byte of the distance
abbrev pub short_jump : Option Condition → ℕ → List ℕ
short_jump condition distance = short_opcode condition ∷ (distance % 2 ^ 8) ∷ []

-- the low four bytes of the distance, the lowest first
abbrev pub low_four : ℕ → List ℕ
low_four distance = to_le_bytes w32 (distance % 2 ^ 32)

-- the opcode E9 or 0F 80+cc, and the low four bytes of the distance
abbrev pub near_jump : Option Condition → ℕ → List ℕ
near_jump None distance = 0xe9 ∷ low_four distance
near_jump (Some condition) distance = 0x0f ∷ (0x80 + number_of condition) ∷ low_four distance

-- a jump over this distance from its end, in its near or its short form
unfoldable pub jump_bytes : Option Condition → Bool → ℕ → List ℕ
jump_bytes condition true distance = near_jump condition distance
jump_bytes condition false distance = short_jump condition distance

-- the last so many bytes
abbrev pub last_bytes : ℕ → List ℕ → List ℕ
last_bytes count bytes = drop (length bytes - count) bytes

-- modulo 2^64, a number below twice the bound, whose highest bit is its sign
abbrev pub sign_extended : ℕ → ℕ → ℕ
sign_extended bound number = if nat_lt number bound then number else number + (2 ^ 64 - 2 * bound)

-- the distance, modulo 2^64, in the last four bytes of a near jump and in the last one of a short
unfoldable pub jump_distance : Bool → List ℕ → ℕ
jump_distance true bytes = sign_extended (2 ^ 31) (from_le_bytes w32 (last_bytes 4 bytes))
jump_distance false bytes = sign_extended (2 ^ 7) (from_le_bytes w8 (last_bytes 1 bytes))
