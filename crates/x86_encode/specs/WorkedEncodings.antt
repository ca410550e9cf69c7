-- The encodings of some instructions, worked out by hand (Intel SDM, volume 2, chapters 2 to 4).
use Rattle.std.specs.Prelude.{◌≡◌, ◌∷◌, [], None, Option, Some, ℕ, Result, Ok, Err}
use Rattle.x86_insn.specs.declared.registers.Class.TheVariants as class
use Rattle.x86_insn.specs.declared.insns.Prefix.TheVariants as prefix
use Rattle.x86_insn.specs.declared.insns.Base.TheVariants as base
use Rattle.x86_insn.specs.declared.insns.Index.TheVariants as index
use Rattle.x86_parts.specs.declared.encoded.EncodeFault.{EncodeFault}
use Rattle.x86_parts.specs.declared.encoded.EncodeFault.TheVariants as fault
use Rattle.x86_insn.specs.declared.amounts.FieldKind.TheVariants as kind
use Rattle.x86_parts.specs.declared.encoded.Position.TheVariants as position
use Rattle.x86_insn.specs.Views.{Seen, absent, register, immediate as shown_immediate, memory, target, View}
use Rattle.x86_table.specs.WorkedReadings.{worked}
use Rattle.x86_parts.specs.Filling.{Coding}
use Rattle.x86_encode.specs.Encoding.{encoding_of}
use Rattle.x86_table.specs.declared.mnemonics.integers.TheConstants.{ADD, CALL, LEA, MOV, SHL, XCHG}

-- a 32-bit register
abbrev pub long : ℕ → Seen
long n = register (record { class = class.Long; number = n })

-- a 64-bit register
abbrev pub quad : ℕ → Seen
quad n = register (record { class = class.Quad; number = n })

-- an 8-bit register
abbrev pub byte : ℕ → Seen
byte n = register (record { class = class.Byte; number = n })

-- memory at an address from rip
abbrev pub from_rip : Option ℕ → Seen
from_rip d = memory (record { segment = None; base = base.Rip; index = index.Absent }) d

-- the encoding of an instruction that shows the same whatever the values are
abbrev pub encoded : View → Result Coding EncodeFault
encoded insn = encoding_of (λ values. insn) (record { immediate = None; displacement = None })

-- these are the encodings, with a field for each value that is not known
pub record WorkedEncodings : Type 0 where
  -- mov $1,%eax: B8 01 00 00 00
  pub mov : encoded (worked MOV 32 prefix.Absent (long 0) (shown_immediate (Some 1)) absent)
      ≡ Ok (record { bytes = 184 ∷ 1 ∷ 0 ∷ 0 ∷ 0 ∷ []; displacement = None; immediate = None })
  -- lea x(%rip),%rax, whose displacement is not known: 48 8D 05 00 00 00 00
  pub lea : encoded (worked LEA 64 prefix.Absent (quad 0) (from_rip None) absent)
      ≡ Ok (record {
        bytes = 72 ∷ 141 ∷ 5 ∷ 0 ∷ 0 ∷ 0 ∷ 0 ∷ [];
        displacement = Some (record { at = 3; size = 4; kind = kind.Address; position = position.Second });
        immediate = None;
      })
  -- call x, whose target is not known: E8 00 00 00 00
  pub call : encoded (worked CALL 64 prefix.Absent (target None) absent absent)
      ≡ Ok (record {
        bytes = 232 ∷ 0 ∷ 0 ∷ 0 ∷ 0 ∷ [];
        displacement = None;
        immediate = Some (record { at = 1; size = 4; kind = kind.Branch; position = position.First });
      })
  -- xchg %eax,%ebx: 93
  pub xchg : encoded (worked XCHG 32 prefix.Absent (long 0) (long 3) absent)
      ≡ Ok (record { bytes = 147 ∷ []; displacement = None; immediate = None })
  -- mov %eax,%rbx: none with any values
  pub mixed : encoded (worked MOV 64 prefix.Absent (quad 3) (long 0) absent)
      ≡ Err fault.NoSuchForm
  -- add $300,%al: none with this value
  pub wide : encoding_of (λ values. worked ADD 8 prefix.Absent (byte 0) (shown_immediate values.immediate) absent)
      (record { immediate = Some 300; displacement = None })
      ≡ Err fault.OutOfRange
  -- shl $x,%eax, whose count is not known: none before it is
  pub unknown : encoding_of (λ values. worked SHL 32 prefix.Absent (long 0) (shown_immediate values.immediate) absent)
      (record { immediate = None; displacement = None })
      ≡ Err fault.ValueNotKnown
