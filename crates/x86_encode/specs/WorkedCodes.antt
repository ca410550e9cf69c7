-- The shortest bytes of instructions, worked out by hand (Intel SDM, volume 2, chapters 2 to 4).
use Rattle.std.specs.Prelude.{◌∷◌, [], None, Some}
use Rattle.x86_insn.specs.declared.registers.Class.TheVariants as class
use Rattle.x86_insn.specs.declared.insns.Prefix.TheVariants as prefix
use Rattle.x86_insn.specs.declared.insns.Segment.TheVariants as segment
use Rattle.x86_insn.specs.declared.insns.Base.TheVariants as base
use Rattle.x86_insn.specs.declared.insns.Index.TheVariants as index
use Rattle.x86_insn.specs.Views.{absent, register, immediate as shown_immediate, memory, target}
use Rattle.x86_table.specs.WorkedReadings.{worked}
use Rattle.x86_parts.specs.Codes.{meant}
use Rattle.x86_encode.specs.Exchanges.{IsCode, HasNoCode}
use Rattle.x86_table.specs.declared.mnemonics.integers.TheConstants.{ADD, CALL, CMPXCHG, LEA, MOV, MOVZX_BYTE, PUSH, SHL, XCHG}
use Rattle.x86_table.specs.declared.mnemonics.vectors.TheConstants.{ADDSD, CRC32, MOVBE, PEXTRW, PSHUFB, ROUNDSD}

-- the bytes are the shortest of these instructions
pub record WorkedCodes : Type 0 where
  -- mov $1,%eax: B8 01 00 00 00
  pub mov : IsCode (184 ∷ 1 ∷ 0 ∷ 0 ∷ 0 ∷ [])
      (meant (worked MOV 32 prefix.Absent (register (record { class = class.Long; number = 0 })) (shown_immediate (Some 1)) absent))
  -- mov $1,%rax: 48 C7 C0 01 00 00 00
  pub mov_quad : IsCode (72 ∷ 199 ∷ 192 ∷ 1 ∷ 0 ∷ 0 ∷ 0 ∷ [])
      (meant (worked MOV 64 prefix.Absent (register (record { class = class.Quad; number = 0 })) (shown_immediate (Some 1)) absent))
  -- mov $0x80000000,%rax: 48 B8 00 00 00 80 00 00 00 00
  pub movabs : IsCode (72 ∷ 184 ∷ 0 ∷ 0 ∷ 0 ∷ 128 ∷ 0 ∷ 0 ∷ 0 ∷ 0 ∷ [])
      (meant (worked MOV 64 prefix.Absent (register (record { class = class.Quad; number = 0 })) (shown_immediate (Some 2147483648)) absent))
  -- add $0xffffffff,%eax: 83 C0 FF
  pub add : IsCode (131 ∷ 192 ∷ 255 ∷ [])
      (meant (worked ADD 32 prefix.Absent (register (record { class = class.Long; number = 0 })) (shown_immediate (Some 4294967295)) absent))
  -- add $-1,%eax: 83 C0 FF
  pub add_negative : IsCode (131 ∷ 192 ∷ 255 ∷ [])
      (meant (worked ADD 32 prefix.Absent (register (record { class = class.Long; number = 0 })) (shown_immediate (Some 18446744073709551615)) absent))
  -- add $x,%eax, whose immediate is not known: 05 00 00 00 00
  pub add_unknown : IsCode (5 ∷ 0 ∷ 0 ∷ 0 ∷ 0 ∷ [])
      (meant (worked ADD 32 prefix.Absent (register (record { class = class.Long; number = 0 })) (shown_immediate None) absent))
  -- push $-1: 6A FF
  pub push : IsCode (106 ∷ 255 ∷ [])
      (meant (worked PUSH 64 prefix.Absent (shown_immediate (Some 18446744073709551615)) absent absent))
  -- mov (%rbp),%eax: 8B 45 00
  pub at_rbp : IsCode (139 ∷ 69 ∷ 0 ∷ [])
      (meant (worked MOV 32 prefix.Absent (register (record { class = class.Long; number = 0 })) (memory (record { segment = None; base = base.Of 5; index = index.Absent }) (Some 0)) absent))
  -- mov (%rsp),%eax: 8B 04 24
  pub at_rsp : IsCode (139 ∷ 4 ∷ 36 ∷ [])
      (meant (worked MOV 32 prefix.Absent (register (record { class = class.Long; number = 0 })) (memory (record { segment = None; base = base.Of 4; index = index.Absent }) (Some 0)) absent))
  -- mov (%r13),%eax: 41 8B 45 00
  pub at_r13 : IsCode (65 ∷ 139 ∷ 69 ∷ 0 ∷ [])
      (meant (worked MOV 32 prefix.Absent (register (record { class = class.Long; number = 0 })) (memory (record { segment = None; base = base.Of 13; index = index.Absent }) (Some 0)) absent))
  -- mov 8(%rbx,%rcx,4),%rax: 48 8B 44 8B 08
  pub at_index : IsCode (72 ∷ 139 ∷ 68 ∷ 139 ∷ 8 ∷ [])
      (meant (worked MOV 64 prefix.Absent (register (record { class = class.Quad; number = 0 })) (memory (record { segment = None; base = base.Of 3; index = index.By 1 2 }) (Some 8)) absent))
  -- lock cmpxchg %ecx,(%rdi): F0 0F B1 0F
  pub cmpxchg : IsCode (240 ∷ 15 ∷ 177 ∷ 15 ∷ [])
      (meant (worked CMPXCHG 32 prefix.Lock (memory (record { segment = None; base = base.Of 7; index = index.Absent }) (Some 0)) (register (record { class = class.Long; number = 1 })) absent))
  -- mov %fs:0,%rax: 64 48 8B 04 25 00 00 00 00
  pub at_fs : IsCode (100 ∷ 72 ∷ 139 ∷ 4 ∷ 37 ∷ 0 ∷ 0 ∷ 0 ∷ 0 ∷ [])
      (meant (worked MOV 64 prefix.Absent (register (record { class = class.Quad; number = 0 })) (memory (record { segment = Some segment.Fs; base = base.Absent; index = index.Absent }) (Some 0)) absent))
  -- movzbl %spl,%eax: 40 0F B6 C4
  pub movzx : IsCode (64 ∷ 15 ∷ 182 ∷ 196 ∷ [])
      (meant (worked MOVZX_BYTE 32 prefix.Absent (register (record { class = class.Long; number = 0 })) (register (record { class = class.Byte; number = 4 })) absent))
  -- addsd %xmm1,%xmm9: F2 44 0F 58 C9
  pub addsd : IsCode (242 ∷ 68 ∷ 15 ∷ 88 ∷ 201 ∷ [])
      (meant (worked ADDSD 0 prefix.Absent (register (record { class = class.Xmm; number = 9 })) (register (record { class = class.Xmm; number = 1 })) absent))
  -- lea x(%rip),%rax, whose displacement is not known: 48 8D 05 00 00 00 00
  pub lea : IsCode (72 ∷ 141 ∷ 5 ∷ 0 ∷ 0 ∷ 0 ∷ 0 ∷ [])
      (meant (worked LEA 64 prefix.Absent (register (record { class = class.Quad; number = 0 })) (memory (record { segment = None; base = base.Rip; index = index.Absent }) None) absent))
  -- movl $5,x(%rip), whose displacement is not known: C7 05 00 00 00 00 05 00 00 00
  pub movl : IsCode (199 ∷ 5 ∷ 0 ∷ 0 ∷ 0 ∷ 0 ∷ 5 ∷ 0 ∷ 0 ∷ 0 ∷ [])
      (meant (worked MOV 32 prefix.Absent (memory (record { segment = None; base = base.Rip; index = index.Absent }) None) (shown_immediate (Some 5)) absent))
  -- call x, whose target is not known: E8 00 00 00 00
  pub call : IsCode (232 ∷ 0 ∷ 0 ∷ 0 ∷ 0 ∷ []) (meant (worked CALL 64 prefix.Absent (target None) absent absent))
  -- shl $1,%eax: D1 E0
  pub shl : IsCode (209 ∷ 224 ∷ [])
      (meant (worked SHL 32 prefix.Absent (register (record { class = class.Long; number = 0 })) (shown_immediate (Some 1)) absent))
  -- xchg %eax,%ebx: 93
  pub xchg : IsCode (147 ∷ [])
      (meant (worked XCHG 32 prefix.Absent (register (record { class = class.Long; number = 0 })) (register (record { class = class.Long; number = 3 })) absent))
  -- xchg %eax,%eax: 87 C0
  pub xchg_same : IsCode (135 ∷ 192 ∷ [])
      (meant (worked XCHG 32 prefix.Absent (register (record { class = class.Long; number = 0 })) (register (record { class = class.Long; number = 0 })) absent))
  -- pshufb %xmm1,%xmm0: 66 0F 38 00 C1
  pub pshufb : IsCode (102 ∷ 15 ∷ 56 ∷ 0 ∷ 193 ∷ [])
      (meant (worked PSHUFB 0 prefix.Absent (register (record { class = class.Xmm; number = 0 })) (register (record { class = class.Xmm; number = 1 })) absent))
  -- roundsd $3,%xmm2,%xmm1: 66 0F 3A 0B CA 03
  pub roundsd : IsCode (102 ∷ 15 ∷ 58 ∷ 11 ∷ 202 ∷ 3 ∷ [])
      (meant (worked ROUNDSD 0 prefix.Absent (register (record { class = class.Xmm; number = 1 })) (register (record { class = class.Xmm; number = 2 })) (shown_immediate (Some 3))))
  -- pextrw $1,%xmm0,%eax: 66 0F C5 C0 01
  pub pextrw : IsCode (102 ∷ 15 ∷ 197 ∷ 192 ∷ 1 ∷ [])
      (meant (worked PEXTRW 0 prefix.Absent (register (record { class = class.Long; number = 0 })) (register (record { class = class.Xmm; number = 0 })) (shown_immediate (Some 1))))
  -- pextrw $1,%xmm0,(%rax): 66 0F 3A 15 00 01
  pub pextrw_store : IsCode (102 ∷ 15 ∷ 58 ∷ 21 ∷ 0 ∷ 1 ∷ [])
      (meant (worked PEXTRW 0 prefix.Absent (memory (record { segment = None; base = base.Of 0; index = index.Absent }) (Some 0)) (register (record { class = class.Xmm; number = 0 })) (shown_immediate (Some 1))))
  -- crc32q %rax,%rbx: F2 48 0F 38 F1 D8
  pub crc32 : IsCode (242 ∷ 72 ∷ 15 ∷ 56 ∷ 241 ∷ 216 ∷ [])
      (meant (worked CRC32 64 prefix.Absent (register (record { class = class.Quad; number = 3 })) (register (record { class = class.Quad; number = 0 })) absent))
  -- movbe %cx,(%rdi): 66 0F 38 F1 0F
  pub movbe : IsCode (102 ∷ 15 ∷ 56 ∷ 241 ∷ 15 ∷ [])
      (meant (worked MOVBE 16 prefix.Absent (memory (record { segment = None; base = base.Of 7; index = index.Absent }) (Some 0)) (register (record { class = class.Word; number = 1 })) absent))
  -- add $300,%al: none
  pub wide : HasNoCode (meant (worked ADD 8 prefix.Absent (register (record { class = class.Byte; number = 0 })) (shown_immediate (Some 300)) absent))
  -- mov %eax,%rbx: none
  pub mixed : HasNoCode (meant (worked MOV 64 prefix.Absent (register (record { class = class.Quad; number = 3 })) (register (record { class = class.Long; number = 0 })) absent))
  -- lock add %eax,%ebx: none
  pub lock_register : HasNoCode (meant (worked ADD 32 prefix.Lock (register (record { class = class.Long; number = 3 })) (register (record { class = class.Long; number = 0 })) absent))
