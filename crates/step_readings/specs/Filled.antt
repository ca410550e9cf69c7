-- What the bytes of an encoding, with values in its fields, read as.
use Rattle.std.specs.Prelude.{◌≡◌, ◌<◌, ◌^◌, ◌++◌, ℕ, true, List, Option, None, Some, drop, length, Ok}
use Rattle.x86_insn.specs.declared.insns.Insn.{Insn}
use Rattle.x86_insn.specs.declared.amounts.Values.{Values}
use Rattle.x86_insn.specs.Views.{Seen, absent, register, immediate, memory, target, View, displaced, view_of}
use Rattle.x86_encode.specs.Answers.{InOrder}
use Rattle.x86_parts.specs.Codes.{meant}
use Rattle.x86_encode.specs.Encoding.{encoding_of}
use Rattle.x86_parts.specs.Filling.{Coding, field_holds, filled, valued, ReadsAs}
use Rattle.x86_steps.specs.Leading.{distance_of}
use Rattle.step_readings.specs.Obeying.{IsObeyed}

-- it is a number of 64 bits, if there is one
abbrev pub IsNumber : Option ℕ → Type 0
IsNumber None = Unit {0}
IsNumber (Some k) = k < 2 ^ 64

-- the operand is as it stands where the instruction is written: a branch target and an address from
-- rip are not known, and numbers have 64 bits
abbrev pub IsPlain : Seen → Type 0
IsPlain absent = Unit {0}
IsPlain (register r) = Unit {0}
IsPlain (immediate k) = IsNumber k
IsPlain (memory a d) = displaced a.base d ≡ d
IsPlain (target d) = d ≡ None

-- each operand is
pub record IsPlainView (v : View) : Type 0 where
  pub first : IsPlain v.first
  pub second : IsPlain v.second
  pub third : IsPlain v.third

-- those of an instruction with its values are
abbrev pub ViewsArePlain : Type 0
ViewsArePlain = (insn : Insn) (values : Values) → IsNumber values.immediate
    → IsPlainView (view_of insn values)

-- bytes read as the instruction with these two values in place of those that are not known, in an
-- instruction of so many bytes
abbrev pub ReadWith : View → List ℕ → (long v w : ℕ) → Type 0
ReadWith insn bytes long v w =
    InOrder (λ u. ReadsAs bytes u (valued long v w u.first) (valued long v w u.second)
    (valued long v w u.third)) insn

-- where such bytes stand, the instruction is obeyed
abbrev pub FilledBytesObey : Type 0
FilledBytesObey = (insn : View) (bytes code rest : List ℕ) (long v w place : ℕ) → IsPlainView insn
    → w < 2 ^ 64 → ReadWith (meant insn) bytes long v w → drop place code ≡ bytes ++ rest
    → IsObeyed insn bytes (distance_of (valued long v w insn.first)) code place

-- where the encoding of an instruction stands, with any values that its fields hold, the
-- instruction is obeyed
abbrev pub EncodingsObey : Type 0
EncodingsObey = (shape : Values → View) (values : Values) (made : Coding) (code rest : List ℕ)
    (v w place : ℕ) → IsPlainView (shape values) → w < 2 ^ 64 → encoding_of shape values ≡ Ok made
    → field_holds made.displacement v ≡ true → field_holds made.immediate w ≡ true
    → drop place code ≡ filled made.immediate w (filled made.displacement v made.bytes) ++ rest
    → IsObeyed (shape values) (filled made.immediate w (filled made.displacement v made.bytes))
    (distance_of (valued (length made.bytes) v w (shape values).first)) code place
