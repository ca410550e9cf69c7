-- The immediate of a row, read from its bytes (Intel SDM, volume 2, section 2.1.5).
use Rattle.std.specs.Prelude.{◌%◌, ◌^◌, ◌∷◌, [], ℕ, List}
use Rattle.std.specs.Int.{from_le_bytes, w16, w64}
use Rattle.x86_table.specs.declared.forms.Immediate.{Immediate}
use Rattle.x86_table.specs.declared.forms.Immediate.TheVariants as immediate
use Rattle.x86_decode.specs.Places.{byte_displaced, long_held, long_displaced}

-- the byte in front; where there is none, any number
abbrev pub byte_held : List ℕ → ℕ
byte_held [] = 0
byte_held (b ∷ bytes) = b

-- the number that two bytes hold; where they are too few, any
abbrev pub word_held : List ℕ → ℕ
word_held (a ∷ b ∷ bytes) = from_le_bytes w16 (a ∷ b ∷ [])
word_held _ = 0

-- the number that eight bytes hold; where they are too few, any
abbrev pub quad_held : List ℕ → ℕ
quad_held (a ∷ b ∷ c ∷ d ∷ e ∷ f ∷ g ∷ h ∷ bytes) = from_le_bytes w64 (a ∷ b ∷ c ∷ d ∷ e ∷ f ∷ g ∷ h ∷ [])
quad_held _ = 0

-- the immediate of this kind in front
abbrev pub immediate_in : Immediate → List ℕ → ℕ
immediate_in immediate.Absent bytes = 0
immediate_in immediate.Byte bytes = byte_held bytes
immediate_in immediate.Count bytes = byte_held bytes
immediate_in immediate.Sext16 bytes = (byte_displaced bytes).value % 2 ^ 16
immediate_in immediate.Sext32 bytes = (byte_displaced bytes).value % 2 ^ 32
immediate_in immediate.Sext64 bytes = (byte_displaced bytes).value
immediate_in immediate.Word bytes = word_held bytes
immediate_in immediate.Long bytes = (long_held bytes).value
immediate_in immediate.LongSext bytes = (long_displaced bytes).value
immediate_in immediate.Quad bytes = quad_held bytes
immediate_in immediate.Rel8 bytes = (byte_displaced bytes).value
immediate_in immediate.Short bytes = (byte_displaced bytes).value
immediate_in immediate.Rel32 bytes = (long_displaced bytes).value
