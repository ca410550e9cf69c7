-- Where the fields of an encoding stand, and what values they stand for.
use Rattle.std.specs.Prelude.{◌≡◌, ◌+◌, ◌≤◌, ◌||◌, ◌⊎◌, Bool, None, Some, false, length, not, true, ℕ, Result, Ok, Err}
use Rattle.x86_insn.specs.declared.amounts.Values.{Values}
use Rattle.x86_insn.specs.declared.insns.Base.{Base}
use Rattle.x86_insn.specs.declared.insns.Base.TheVariants as base
use Rattle.x86_insn.specs.Views.{Seen, absent, register, immediate as shown_immediate, memory, target, View}
use Rattle.x86_parts.specs.declared.encoded.EncodeFault.{EncodeFault}
use Rattle.x86_parts.specs.declared.encoded.Field.{Field}
use Rattle.x86_insn.specs.declared.amounts.FieldKind.TheVariants as kind
use Rattle.x86_parts.specs.Codes.{meant}
use Rattle.x86_encode.specs.Encoding.{encoding_of}
use Rattle.x86_parts.specs.Filling.{Coding}

-- WHERE THEY STAND

-- a number may have so many bytes
abbrev pub IsWidth : ℕ → Type 0
IsWidth size = (size ≡ 1) ⊎ ((size ≡ 2) ⊎ ((size ≡ 4) ⊎ (size ≡ 8)))

-- a displacement has 4 bytes, behind the first byte and in front of the last ones
pub record IsMoved (end last : ℕ) (field : Field) : Type 0 where
  pub size : field.size ≡ 4
  pub at : field.at + 4 + last ≡ end
  pub behind : 1 ≤ field.at

-- an immediate or a distance is the last bytes
pub record IsLast (end last : ℕ) (field : Field) : Type 0 where
  pub size : field.size ≡ last
  pub at : field.at + last ≡ end
  pub width : IsWidth last

-- the fields stand in order and apart, within the bytes and behind the first one
pub record AreApart (made : Coding) : Type 0 where
  -- how many bytes the row's immediate has
  pub last : ℕ
  pub behind : 1 + last ≤ length made.bytes
  pub displacement : (field : Field) → made.displacement ≡ Some field → IsMoved (length made.bytes) last field
  pub immediate : (field : Field) → made.immediate ≡ Some field → IsLast (length made.bytes) last field

-- those of an encoding do
abbrev pub Apart : Result Coding EncodeFault → Type 0
Apart (Ok made) = AreApart made
Apart (Err cause) = Unit {0}

-- the fields of every encoding stand apart
abbrev pub EncodingsApart : Type 0
EncodingsApart = (shape : Values → View) (values : Values) → Apart (encoding_of shape values)

-- WHAT THEY STAND FOR

-- the base is rip
abbrev pub is_rip : Base → Bool
is_rip base.Absent = false
is_rip base.Rip = true
is_rip (base.Of n) = false

-- the operand is a number that is not known
abbrev pub lacks_number : Seen → Bool
lacks_number absent = false
lacks_number (register r) = false
lacks_number (shown_immediate None) = true
lacks_number (shown_immediate (Some v)) = false
lacks_number (memory a d) = false
lacks_number (target v) = false

-- the operand is in memory, at a displacement that is not known, from a base that is not rip
abbrev pub lacks_displacement : Seen → Bool
lacks_displacement absent = false
lacks_displacement (register r) = false
lacks_displacement (shown_immediate v) = false
lacks_displacement (memory a None) = not (is_rip a.base)
lacks_displacement (memory a (Some v)) = false
lacks_displacement (target v) = false

-- some operand passes
abbrev pub any_operand : (Seen → Bool) → View → Bool
any_operand test insn = test insn.first || (test insn.second || test insn.third)

-- a field stands for a value that is not known, unless it holds a distance
pub record HoldUnknown (insn : View) (made : Coding) : Type 0 where
  pub displacement : (field : Field) → made.displacement ≡ Some field → (field.kind ≡ kind.Address) ⊎ (any_operand lacks_displacement insn ≡ true)
  pub immediate : (field : Field) → made.immediate ≡ Some field → (field.kind ≡ kind.Branch) ⊎ (any_operand lacks_number insn ≡ true)

-- so do those of an encoding
abbrev pub Unknown : View → Result Coding EncodeFault → Type 0
Unknown insn (Ok made) = HoldUnknown insn made
Unknown insn (Err cause) = Unit {0}

-- the fields of every encoding stand for values that are not known
abbrev pub EncodingsHoldUnknown : Type 0
EncodingsHoldUnknown = (shape : Values → View) (values : Values) → Unknown (meant (shape values)) (encoding_of shape values)
