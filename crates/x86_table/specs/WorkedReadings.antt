-- Instructions and their bytes, worked out by hand (Intel SDM, volume 2, chapters 2 to 4).
use Rattle.std.specs.Prelude.{◌∷◌, [], ℕ, Some, None}
use Rattle.x86_insn.specs.Views.{Seen, absent, register, immediate as shown_immediate, memory, target, View}
use Rattle.x86_table.specs.Reads.{Reads}
use Rattle.x86_table.specs.declared.mnemonics.integers.TheConstants.{ADD, CALL, CMPS, CMPXCHG, JMP, LEA, MOV, MOVS, MOVZX_BYTE, NOP, NOT, PAUSE, SCAS, XCHG}
use Rattle.x86_table.specs.declared.mnemonics.vectors.TheConstants.{ADDSD, CRC32, PEXTRW, PSHUFB}
use Rattle.x86_insn.specs.declared.registers.Class.TheVariants as class
use Rattle.x86_insn.specs.declared.insns.Prefix.{Prefix}
use Rattle.x86_insn.specs.declared.insns.Prefix.TheVariants as prefix
use Rattle.x86_insn.specs.declared.insns.Segment.TheVariants as segment
use Rattle.x86_insn.specs.declared.insns.Base.TheVariants as base
use Rattle.x86_insn.specs.declared.insns.Index.TheVariants as index

-- an instruction of the table
abbrev pub worked : ℕ → ℕ → Prefix → Seen → Seen → Seen → View
worked name size word first second third = record { name = record { 0 = name }; size = size; «prefix» = word; first = first; second = second; third = third }

-- the bytes read as these instructions
pub record WorkedReadings : Type 0 where
  -- add $-1,%eax: 83 C0 FF
  pub add : Reads (131 ∷ 192 ∷ 255 ∷ []) (worked ADD 32 prefix.Absent (register (record { class = class.Long; number = 0 })) (shown_immediate (Some 4294967295)) absent)
  -- mov 8(%rbx,%rcx,4),%rax: 48 8B 44 8B 08
  pub mov : Reads (72 ∷ 139 ∷ 68 ∷ 139 ∷ 8 ∷ []) (worked MOV 64 prefix.Absent (register (record { class = class.Quad; number = 0 })) (memory (record { segment = None; base = base.Of 3; index = index.By 1 2 }) (Some 8)) absent)
  -- lock cmpxchg %ecx,(%rdi): F0 0F B1 0F
  pub cmpxchg : Reads (240 ∷ 15 ∷ 177 ∷ 15 ∷ []) (worked CMPXCHG 32 prefix.Lock (memory (record { segment = None; base = base.Of 7; index = index.Absent }) (Some 0)) (register (record { class = class.Long; number = 1 })) absent)
  -- mov %fs:0,%rax: 64 48 8B 04 25 00 00 00 00
  pub mov_fs : Reads (100 ∷ 72 ∷ 139 ∷ 4 ∷ 37 ∷ 0 ∷ 0 ∷ 0 ∷ 0 ∷ []) (worked MOV 64 prefix.Absent (register (record { class = class.Quad; number = 0 })) (memory (record { segment = Some segment.Fs; base = base.Absent; index = index.Absent }) (Some 0)) absent)
  -- movzbl %spl,%eax: 40 0F B6 C4
  pub movzx : Reads (64 ∷ 15 ∷ 182 ∷ 196 ∷ []) (worked MOVZX_BYTE 32 prefix.Absent (register (record { class = class.Long; number = 0 })) (register (record { class = class.Byte; number = 4 })) absent)
  -- movzbl %ah,%eax: 0F B6 C4
  pub movzx_high : Reads (15 ∷ 182 ∷ 196 ∷ []) (worked MOVZX_BYTE 32 prefix.Absent (register (record { class = class.Long; number = 0 })) (register (record { class = class.High; number = 4 })) absent)
  -- addsd %xmm1,%xmm9: F2 44 0F 58 C9
  pub addsd : Reads (242 ∷ 68 ∷ 15 ∷ 88 ∷ 201 ∷ []) (worked ADDSD 0 prefix.Absent (register (record { class = class.Xmm; number = 9 })) (register (record { class = class.Xmm; number = 1 })) absent)
  -- pshufb %xmm1,%xmm0: 66 0F 38 00 C1
  pub pshufb : Reads (102 ∷ 15 ∷ 56 ∷ 0 ∷ 193 ∷ []) (worked PSHUFB 0 prefix.Absent (register (record { class = class.Xmm; number = 0 })) (register (record { class = class.Xmm; number = 1 })) absent)
  -- crc32q %rax,%rbx: F2 48 0F 38 F1 D8
  pub crc32 : Reads (242 ∷ 72 ∷ 15 ∷ 56 ∷ 241 ∷ 216 ∷ []) (worked CRC32 64 prefix.Absent (register (record { class = class.Quad; number = 3 })) (register (record { class = class.Quad; number = 0 })) absent)
  -- pextrw $1,%xmm0,(%rax): 66 0F 3A 15 00 01
  pub pextrw : Reads (102 ∷ 15 ∷ 58 ∷ 21 ∷ 0 ∷ 1 ∷ []) (worked PEXTRW 0 prefix.Absent (memory (record { segment = None; base = base.Of 0; index = index.Absent }) (Some 0)) (register (record { class = class.Xmm; number = 0 })) (shown_immediate (Some 1)))
  -- not %eax: F7 D0
  pub not : Reads (247 ∷ 208 ∷ []) (worked NOT 32 prefix.Absent (register (record { class = class.Long; number = 0 })) absent absent)
  -- nop: 90
  pub nop : Reads (144 ∷ []) (worked NOP 0 prefix.Absent absent absent absent)
  -- xchg %eax,%r8d: 41 90
  pub xchg : Reads (65 ∷ 144 ∷ []) (worked XCHG 32 prefix.Absent (register (record { class = class.Long; number = 0 })) (register (record { class = class.Long; number = 8 })) absent)
  -- xchg %ax,%ax: 66 90
  pub xchg_word : Reads (102 ∷ 144 ∷ []) (worked XCHG 16 prefix.Absent (register (record { class = class.Word; number = 0 })) (register (record { class = class.Word; number = 0 })) absent)
  -- call . + 7: E8 02 00 00 00
  pub call : Reads (232 ∷ 2 ∷ 0 ∷ 0 ∷ 0 ∷ []) (worked CALL 64 prefix.Absent (target (Some 7)) absent absent)
  -- lea -2(%rip),%rax, counted from its first byte 5: 48 8D 05 FE FF FF FF
  pub lea : Reads (72 ∷ 141 ∷ 5 ∷ 254 ∷ 255 ∷ 255 ∷ 255 ∷ []) (worked LEA 64 prefix.Absent (register (record { class = class.Quad; number = 0 })) (memory (record { segment = None; base = base.Rip; index = index.Absent }) (Some 5)) absent)
  -- xchg %eax,%ecx, by the row of any registers: 87 C1
  pub xchg_second : Reads (135 ∷ 193 ∷ []) (worked XCHG 32 prefix.Absent (register (record { class = class.Long; number = 0 })) (register (record { class = class.Long; number = 1 })) absent)
  -- xchg %ecx,%eax, the other way round: 87 C8
  pub xchg_first : Reads (135 ∷ 200 ∷ []) (worked XCHG 32 prefix.Absent (register (record { class = class.Long; number = 0 })) (register (record { class = class.Long; number = 1 })) absent)
  -- xchg %bl,%al: 86 C3
  pub xchg_byte : Reads (134 ∷ 195 ∷ []) (worked XCHG 8 prefix.Absent (register (record { class = class.Byte; number = 0 })) (register (record { class = class.Byte; number = 3 })) absent)
  -- movl $5,(%rip), counted from its first byte 10: C7 05 00 00 00 00 05 00 00 00
  pub mov_rip : Reads (199 ∷ 5 ∷ 0 ∷ 0 ∷ 0 ∷ 0 ∷ 5 ∷ 0 ∷ 0 ∷ 0 ∷ []) (worked MOV 32 prefix.Absent (memory (record { segment = None; base = base.Rip; index = index.Absent }) (Some 10)) (shown_immediate (Some 5)) absent)
  -- rep movsb: F3 A4
  pub rep_movs : Reads (243 ∷ 164 ∷ []) (worked MOVS 8 prefix.Rep absent absent absent)
  -- repe cmpsb: F3 A6
  pub repe_cmps : Reads (243 ∷ 166 ∷ []) (worked CMPS 8 prefix.Repe absent absent absent)
  -- repne scasb: F2 AE
  pub repne_scas : Reads (242 ∷ 174 ∷ []) (worked SCAS 8 prefix.Repne absent absent absent)
  -- notrack jmp *%rax: 3E FF E0
  pub notrack_jmp : Reads (62 ∷ 255 ∷ 224 ∷ []) (worked JMP 64 prefix.Notrack (register (record { class = class.Quad; number = 0 })) absent absent)
  -- mov (%rax),%eax, with a SIB byte that need not stand: 8B 04 20
  pub mov_sib : Reads (139 ∷ 4 ∷ 32 ∷ []) (worked MOV 32 prefix.Absent (register (record { class = class.Long; number = 0 })) (memory (record { segment = None; base = base.Of 0; index = index.Absent }) (Some 0)) absent)
  -- pause: F3 90
  pub pause : Reads (243 ∷ 144 ∷ []) (worked PAUSE 0 prefix.Absent absent absent absent)
