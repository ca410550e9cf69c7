-- Where the names of registers stand: a slot by the number of a text.
use Rattle.std.specs.Prelude.{ℕ, ◌+◌, ◌*◌, ◌/◌, ◌%◌, ◌^◌, ◌==◌, List, [], ◌∷◌, Option, Some, None, if◌then◌else◌, slice_get}
use Rattle.std.specs.Str.{str_to_ascii_lowercase}
use Rattle.att_operands.specs.declared.registers.NamedRegister.{NamedRegister}
use Rattle.att_operands.specs.declared.registers.RegisterSlot.{RegisterSlot}
use Rattle.att_operands.specs.declared.register_slots.TheConstants.{REGISTER_SLOTS}

-- the table of the program
unfoldable pub the_slots : List RegisterSlot
the_slots = REGISTER_SLOTS

-- the digits of base 256 behind a number
abbrev pub packed : ℕ → List ℕ → ℕ
packed number [] = number
packed number (byte ∷ bytes) = packed (number * 256 + byte) bytes

-- the number of bytes that are two to five, and 0 of others
unfoldable pub number_of : List ℕ → ℕ
number_of (a ∷ b ∷ []) = packed 1 (a ∷ b ∷ [])
number_of (a ∷ b ∷ c ∷ []) = packed 1 (a ∷ b ∷ c ∷ [])
number_of (a ∷ b ∷ c ∷ d ∷ []) = packed 1 (a ∷ b ∷ c ∷ d ∷ [])
number_of (a ∷ b ∷ c ∷ d ∷ e ∷ []) = packed 1 (a ∷ b ∷ c ∷ d ∷ e ∷ [])
number_of _ = 0

-- the number of a text in lower case
abbrev pub key_of : List ℕ → ℕ
key_of text = number_of (str_to_ascii_lowercase text)

-- the slot of a number
unfoldable pub slot_of : ℕ → ℕ
slot_of key = key * 6040665602162454981 % 2 ^ 64 / 2 ^ 56

-- what stands in the slot, if it is of this number
abbrev pub if_key : ℕ → Option RegisterSlot → Option NamedRegister
if_key key None = None
if_key key (Some slot) = if slot.0 == key then Some slot.1 else None

-- what the slot of a number has for it
abbrev pub held_by : ℕ → Option NamedRegister
held_by key = if key == 0 then None else if_key key (slice_get the_slots (slot_of key))
