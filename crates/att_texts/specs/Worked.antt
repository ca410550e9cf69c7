-- Texts of instructions, worked out by hand: rows of the request.
use Rattle.std.specs.Prelude.{◌≡◌, ℕ, ◌-◌, ◌^◌, List, Option, Some, None, codes}
use Rattle.x86_insn.specs.declared.registers.Class.{Class}
use Rattle.x86_insn.specs.declared.registers.Class.TheVariants as class
use Rattle.x86_insn.specs.declared.insns.Prefix.{Prefix}
use Rattle.x86_insn.specs.declared.insns.Prefix.TheVariants.{Absent, Lock, Rep, Repe, Notrack}
use Rattle.x86_insn.specs.declared.insns.Segment.{Segment}
use Rattle.x86_insn.specs.declared.insns.Segment.TheVariants as segment
use Rattle.x86_insn.specs.declared.insns.Base.{Base}
use Rattle.x86_insn.specs.declared.insns.Base.TheVariants as base
use Rattle.x86_insn.specs.declared.insns.Index.{Index}
use Rattle.x86_insn.specs.declared.insns.Index.TheVariants as index
use Rattle.x86_insn.specs.declared.insns.Address.{Address}
use Rattle.x86_insn.specs.Views.{Seen, absent, register, immediate, memory, target, View}
use Rattle.x86_table.specs.declared.mnemonics.integers.TheConstants.{NOP, PAUSE, XCHG, MOVZX_BYTE, MOVSX_WORD, MOVSXD, CMPS, CMPXCHG16B, ADD, MOVABS, SHL, IMUL, CALL, JMP, MOV, LEA, INC, MOVS}
use Rattle.x86_table.specs.declared.mnemonics.vectors.TheConstants.{CVTSI2SD, CMPPS, MOVQ, CRC32}
use Rattle.att_texts.specs.AttTexts.{att_text}

-- an instruction after a prefix
abbrev pub prefixed : Prefix → ℕ → ℕ → Seen → Seen → Seen → View
prefixed lead name size first second third =
    record { name = record { 0 = name }; size = size; «prefix» = lead; first = first; second = second; third = third }

-- an instruction
abbrev pub plain : ℕ → ℕ → Seen → Seen → Seen → View
plain = prefixed Absent

-- a register
abbrev pub reg : Class → ℕ → Seen
reg of_class number = register (record { class = of_class; number = number })

-- an address
abbrev pub place : Option Segment → Base → Index → Address
place segment base index = record { segment = segment; base = base; index = index }

-- the text of the instruction, whose immediate has so many bits
abbrev pub Shows : ℕ → View → List ℕ → Type 0
Shows bits insn text = att_text bits insn ≡ Some text

-- the texts of these instructions
pub record WorkedAtt : Type 0 where
  pub nop : Shows 64 (plain NOP 0 absent absent absent) (codes "nop")
  pub pause_is : Shows 64 (plain PAUSE 0 absent absent absent) (codes "pause")
  pub exchange_words : Shows 64 (plain XCHG 16 (reg class.Word 0) (reg class.Word 0) absent) (codes "xchg %ax,%ax")
  pub exchange_quads : Shows 64 (plain XCHG 64 (reg class.Quad 0) (reg class.Quad 0) absent) (codes "xchg %rax,%rax")
  pub exchange_upper : Shows 64 (plain XCHG 32 (reg class.Long 0) (reg class.Long 8) absent) (codes "xchg %r8d,%eax")
  pub exchange_high : Shows 64 (plain XCHG 8 (reg class.Byte 0) (reg class.High 4) absent) (codes "xchg %ah,%al")
  pub widened : Shows 64 (plain MOVZX_BYTE 32 (reg class.Long 0) (reg class.Byte 4) absent) (codes "movzbl %spl,%eax")
  pub added : Shows 32 (plain ADD 32 (reg class.Long 0) (immediate (Some (2 ^ 32 - 1))) absent) (codes "add $-1,%eax")
  pub wide : Shows 64 (plain MOVABS 64 (reg class.Quad 0) (immediate (Some (2 ^ 63))) absent) (codes "movabs $-9223372036854775808,%rax")
  pub counted : Shows 64 (plain SHL 8 (reg class.Byte 0) (immediate (Some 255)) absent) (codes "shl $255,%al")
  pub counted_by : Shows 64 (plain SHL 32 (reg class.Long 0) (reg class.Byte 1) absent) (codes "shl %cl,%eax")
  pub multiplied : Shows 32 (plain IMUL 32 (reg class.Long 0) (reg class.Long 0) (immediate (Some 5))) (codes "imul $5,%eax,%eax")
  pub called : Shows 64 (plain CALL 64 (target (Some 5)) absent absent) (codes "call .+5")
  pub jumped : Shows 64 (plain JMP 64 (target (Some (2 ^ 64 - 126))) absent absent) (codes "jmp .-126")
  pub jumped_through : Shows 64 (plain JMP 64 (memory (place None base.Rip index.Absent) (Some 0)) absent absent) (codes "jmp *.+0(%rip)")
  pub jumped_in : Shows 64 (plain JMP 64 (memory (place (Some segment.Fs) (base.Of 0) index.Absent) (Some 0)) absent absent) (codes "jmp *%fs:(%rax)")
  pub loaded : Shows 64 (plain MOV 32 (reg class.Long 0) (memory (place None (base.Of 0) index.Absent) (Some (2 ^ 64 - 2))) absent) (codes "mov -2(%rax),%eax")
  pub loaded_low : Shows 64 (plain MOV 32 (reg class.Long 0) (memory (place None base.Absent index.Absent) (Some (2 ^ 64 - 8))) absent) (codes "mov -8,%eax")
  pub loaded_local : Shows 64 (plain MOV 32 (reg class.Long 0) (memory (place (Some segment.Fs) base.Absent index.Absent) (Some 0)) absent) (codes "mov %fs:0,%eax")
  pub scaled : Shows 64 (plain MOV 32 (reg class.Long 0) (memory (place None base.Absent (index.By 1 1)) (Some 8)) absent) (codes "mov 8(,%rcx,2),%eax")
  pub address : Shows 64 (plain LEA 64 (reg class.Quad 0) (memory (place None (base.Of 3) (index.By 7 0)) (Some 1)) absent) (codes "lea 1(%rbx,%rdi,1),%rax")
  pub stored : Shows 8 (plain MOV 8 (memory (place None base.Rip index.Absent) (Some 7)) (immediate (Some 1)) absent) (codes "movb $1,.+7(%rip)")
  pub stored_quad : Shows 64 (plain MOV 64 (memory (place None (base.Of 0) index.Absent) (Some 0)) (immediate (Some 1)) absent) (codes "movq $1,(%rax)")
  pub converted : Shows 64 (plain CVTSI2SD 32 (reg class.Xmm 0) (memory (place None (base.Of 0) index.Absent) (Some 0)) absent) (codes "cvtsi2sd (%rax),%xmm0")
  pub converted_quad : Shows 64 (plain CVTSI2SD 64 (reg class.Xmm 0) (memory (place None (base.Of 0) index.Absent) (Some 0)) absent) (codes "cvtsi2sdq (%rax),%xmm0")
  pub compared : Shows 64 (plain CMPPS 0 (reg class.Xmm 0) (reg class.Xmm 1) (immediate (Some 7))) (codes "cmpps $7,%xmm1,%xmm0")
  pub moved : Shows 64 (plain MOVQ 0 (reg class.Quad 0) (reg class.Xmm 0) absent) (codes "movq %xmm0,%rax")
  pub nothing_wide : Shows 64 (plain NOP 16 (memory (place None (base.Of 0) (index.By 0 0)) (Some 0)) absent absent) (codes "nopw (%rax,%rax,1)")
  pub checked : Shows 64 (plain CRC32 16 (reg class.Long 0) (reg class.Word 3) absent) (codes "crc32 %bx,%eax")
  pub locked : Shows 64 (prefixed Lock INC 32 (memory (place None (base.Of 0) index.Absent) (Some 0)) absent absent) (codes "lock incl (%rax)")
  pub repeated : Shows 64 (prefixed Rep MOVS 8 absent absent absent) (codes "rep movsb")
  pub no_track : Shows 64 (prefixed Notrack JMP 64 (reg class.Quad 0) absent absent) (codes "notrack jmp *%rax")
