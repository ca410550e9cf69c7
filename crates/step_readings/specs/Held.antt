-- Whatever a linker puts into the bytes of a field is a value that the field holds.
use Rattle.std.specs.Prelude.{◌≡◌, ◌<◌, ◌^◌, ℕ, true, List, length, get_or}
use Rattle.x86_insn.specs.declared.amounts.FieldKind.{FieldKind}
use Rattle.x86_encode.specs.FieldPlaces.{IsWidth}
use Rattle.x86_parts.specs.Filling.{kind_holds, low_bytes}

-- each is a byte
abbrev pub AreBytes : List ℕ → Type 0
AreBytes bytes = (i : ℕ) → get_or bytes i 0 < 2 ^ 8

-- the bytes are those of a value that a field of this kind and size holds
pub record IsHeld (kind : FieldKind) (size : ℕ) (bytes : List ℕ) : Type 0 where
  pub value : ℕ
  pub within : value < 2 ^ 64
  pub holds : kind_holds kind size value ≡ true
  pub bytes_are : low_bytes size value ≡ bytes

-- so are any
abbrev pub AnyBytesAreHeld : Type 0
AnyBytesAreHeld = (kind : FieldKind) (size : ℕ) (bytes : List ℕ) → IsWidth size
    → length bytes ≡ size → AreBytes bytes → IsHeld kind size bytes
