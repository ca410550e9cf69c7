-- The bytes of an encoding once a linker has put values into its fields.
use Rattle.std.specs.Prelude.{◌≡◌, ◌<◌, ◌≤◌, ◌+◌, ◌^◌, ◌⊎◌, ◌++◌, ℕ, true, List, Option, None, Some, drop, take, length, get_or, Ok}
use Rattle.x86_insn.specs.declared.amounts.Values.{Values}
use Rattle.x86_insn.specs.Views.{View}
use Rattle.x86_parts.specs.declared.encoded.Field.{Field}
use Rattle.x86_encode.specs.Encoding.{encoding_of}
use Rattle.x86_encode.specs.FieldPlaces.{AreApart}
use Rattle.x86_parts.specs.Filling.{Coding, field_holds, low_bytes, filled, valued}
use Rattle.x86_steps.specs.Leading.{distance_of}
use Rattle.step_readings.specs.Obeying.{IsObeyed}
use Rattle.step_readings.specs.Filled.{IsPlainView}
use Rattle.step_readings.specs.Held.{AreBytes}

-- the byte is none of the field
abbrev pub IsBeside : Option Field → ℕ → Type 0
IsBeside None k = Unit {0}
IsBeside (Some field) k = (k < field.at) ⊎ (field.at + field.size ≤ k)

-- those beside the fields are as they were, and those of the fields are any
pub record IsLoaded (made : Coding) (loaded : List ℕ) : Type 0 where
  pub long : length loaded ≡ length made.bytes
  pub bytes : AreBytes loaded
  pub same : (k : ℕ) → IsBeside made.displacement k → IsBeside made.immediate k
      → get_or made.bytes k 0 ≡ get_or loaded k 0

-- the field's bytes are those of the value
abbrev pub HoldsValue : Option Field → ℕ → List ℕ → Type 0
HoldsValue None v loaded = Unit {0}
HoldsValue (Some field) v loaded = low_bytes field.size v ≡ take field.size (drop field.at loaded)

-- such bytes are those with the values that stand in them
abbrev pub LoadedAreFilled : Type 0
LoadedAreFilled = (made : Coding) (loaded : List ℕ) (v w : ℕ) → AreApart made → IsLoaded made loaded
    → HoldsValue made.displacement v loaded → HoldsValue made.immediate w loaded
    → filled made.immediate w (filled made.displacement v made.bytes) ≡ loaded

-- a value that the field holds stands there
pub record HasValue (field : Option Field) (loaded : List ℕ) : Type 0 where
  pub value : ℕ
  pub within : value < 2 ^ 64
  pub holds : field_holds field value ≡ true
  pub stands : HoldsValue field value loaded

-- in each field
pub record HaveValues (made : Coding) (loaded : List ℕ) : Type 0 where
  pub displacement : HasValue made.displacement loaded
  pub immediate : HasValue made.immediate loaded

-- so it is whatever a linker has put into the fields
abbrev pub LoadedHaveValues : Type 0
LoadedHaveValues = (made : Coding) (loaded : List ℕ) → AreApart made → IsLoaded made loaded
    → HaveValues made loaded

-- where the encoding of an instruction stands, whatever a linker has put into its fields, the
-- instruction is obeyed, with the values that stand there
abbrev pub LoadedEncodingsObey : Type 0
LoadedEncodingsObey = (shape : Values → View) (values : Values) (made : Coding)
    (loaded code rest : List ℕ) (v w place : ℕ) → IsPlainView (shape values)
    → encoding_of shape values ≡ Ok made → IsLoaded made loaded → w < 2 ^ 64
    → field_holds made.displacement v ≡ true → field_holds made.immediate w ≡ true
    → HoldsValue made.displacement v loaded → HoldsValue made.immediate w loaded
    → drop place code ≡ loaded ++ rest
    → IsObeyed (shape values) loaded
    (distance_of (valued (length made.bytes) v w (shape values).first)) code place
