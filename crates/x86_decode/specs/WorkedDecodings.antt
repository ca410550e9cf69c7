-- Bytes and what is decoded of them, worked out by hand (Intel SDM, volume 2, chapters 2 to 4).
use Rattle.std.specs.Prelude.{◌≡◌, ◌-◌, ◌^◌, ◌∷◌, [], Option, Some, None}
use Rattle.x86_insn.specs.Views.{absent, register, memory, target}
use Rattle.x86_insn.specs.declared.registers.Class.TheVariants as class
use Rattle.x86_insn.specs.declared.insns.Prefix.TheVariants as prefix
use Rattle.x86_insn.specs.declared.insns.Base.TheVariants as base
use Rattle.x86_insn.specs.declared.insns.Index.TheVariants as index
use Rattle.x86_table.specs.declared.mnemonics.integers.TheConstants.{CALL, JMP, MOV, NOP}
use Rattle.x86_table.specs.WorkedReadings.{worked}
use Rattle.x86_decode.specs.Decoding.{Front, decoded}

-- no instruction
abbrev none : Option Front
none = None

-- what is decoded of bytes
pub record WorkedDecodings : Type 0 where
  -- 06 is no instruction in 64-bit mode
  pub push_es : decoded (6 ∷ []) ≡ none
  -- REX alone, and no byte at all
  pub rex_alone : decoded (72 ∷ []) ≡ none
  pub nothing : decoded [] ≡ none
  -- 66 before a call; the call behind it, whose target is its own end
  pub sized_call : decoded (102 ∷ 232 ∷ 0 ∷ 0 ∷ 0 ∷ 0 ∷ []) ≡ none
  pub call : decoded (232 ∷ 0 ∷ 0 ∷ 0 ∷ 0 ∷ []) ≡ Some (record { insn = worked CALL 64 prefix.Absent (target (Some 5)) absent absent; len = 5 })
  -- a call that wants a byte
  pub short_call : decoded (232 ∷ 0 ∷ 0 ∷ 0 ∷ []) ≡ none
  -- nop, with a byte behind it; with REX.B it exchanges
  pub nop : decoded (144 ∷ 6 ∷ []) ≡ Some (record { insn = worked NOP 0 prefix.Absent absent absent absent; len = 1 })
  -- jmp .-126
  pub jump : decoded (235 ∷ 128 ∷ []) ≡ Some (record { insn = worked JMP 64 prefix.Absent (target (Some (2 ^ 64 - 126))) absent absent; len = 2 })
  -- mov .+134(%rip),%eax: 8B 05 80 00 00 00, with a byte behind it
  pub from_rip : decoded (139 ∷ 5 ∷ 128 ∷ 0 ∷ 0 ∷ 0 ∷ 0 ∷ [])
      ≡ Some (record { insn = worked MOV 32 prefix.Absent (register (record { class = class.Long; number = 0 })) (memory (record { segment = None; base = base.Rip; index = index.Absent }) (Some 134)) absent; len = 6 })
  -- mov (%rax),%eax: 8B 40 00, with a displacement of 0; and with a REX that selects nothing, which no assembler writes
  pub zero_displacement : decoded (139 ∷ 64 ∷ 0 ∷ [])
      ≡ Some (record { insn = worked MOV 32 prefix.Absent (register (record { class = class.Long; number = 0 })) (memory (record { segment = None; base = base.Of 0; index = index.Absent }) (Some 0)) absent; len = 3 })
  pub idle_rex : decoded (66 ∷ 139 ∷ 64 ∷ 0 ∷ []) ≡ none
  -- a scale without an index
  pub idle_scale : decoded (139 ∷ 4 ∷ 96 ∷ []) ≡ none
