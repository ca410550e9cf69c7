-- Instructions as they are read from the bytes of statements, worked out by hand (GNU as manual, "AT&T Syntax versus Intel Syntax"; Intel SDM,
-- volume 2, for the names and sizes).
use Rattle.std.specs.Prelude.{◌≡◌, ℕ, List, Some, None, Ok, Err, codes}
use Rattle.asm_base.specs.Tokens.{tokens_of}
use Rattle.x86_insn.specs.declared.registers.Class.TheVariants as class
use Rattle.x86_insn.specs.declared.amounts.Suffix.TheVariants.{Plt}
use Rattle.x86_insn.specs.declared.insns.Prefix.TheVariants.{Lock, Rep, Notrack}
use Rattle.x86_insn.specs.declared.insns.Segment.TheVariants as segment
use Rattle.x86_insn.specs.declared.insns.Base.TheVariants as base
use Rattle.x86_insn.specs.declared.insns.Index.TheVariants as index
use Rattle.x86_insn.specs.declared.insns.Address.{Address}
use Rattle.x86_insn.specs.declared.insns.Slot.TheVariants as slot
use Rattle.x86_table.specs.declared.mnemonics.integers.TheConstants.{ADD, MOV, MOVZX_BYTE, MOVZX_WORD, MOVSX_BYTE, MOVSXD, LEA, XCHG, IMUL, SAR, MOVS, STOS, CALL, JMP, JNE, NOP}
use Rattle.x86_table.specs.declared.mnemonics.vectors.TheConstants.{MOVSD, MOVQ, CVTSI2SS, CVTSI2SD, PBLENDVB}
use Rattle.att_operands.specs.declared.faults.OperandCause.{OperandCause}
use Rattle.att_operands.specs.declared.faults.OperandCause.TheVariants.{UnknownMnemonic, BadExpression, BadOperand, UnknownOperandSize}
use Rattle.att_operands.specs.OperandTexts.{no_displacement}
use Rattle.att_operands.specs.Spells.{in_segment}
use Rattle.att_insns.specs.InsnTexts.{InsnText}
use Rattle.att_insns.specs.Rules.{no_name}
use Rattle.att_insns.specs.WorkedInsns.{prefixed_of, made_of, with_immediate, at_address, to_target, reg, plainly, x_with, from_rip, at_reg}
use Rattle.intel_insns.specs.Reading.{insn_of}

-- the statement is this instruction
abbrev pub Reads : List ℕ → InsnText → Type 0
Reads statement insn = insn_of (tokens_of statement) ≡ Ok insn

-- the statement is none, for this cause
abbrev pub Refuses : List ℕ → OperandCause → Type 0
Refuses statement cause = insn_of (tokens_of statement) ≡ Err cause

-- memory at x
abbrev pub at_x : Address
at_x = in_segment None base.Absent index.Absent

-- instructions with registers and memory
pub record WorkedPlain : Type 0 where
  pub none : Reads (codes "nop") (made_of NOP 0 slot.Absent slot.Absent slot.Absent)
  pub upper : Reads (codes "ADD EAX, ECX") (made_of ADD 32 (reg class.Long 0) (reg class.Long 1) slot.Absent)
  pub scaled : Reads (codes "mov rax, QWORD PTR [rbx+rcx*4+8]")
      (at_address (in_segment None (base.Of 3) (index.By 1 2)) (plainly 8) (made_of MOV 64 (reg class.Quad 0) slot.Memory slot.Absent))
  pub address : Reads (codes "mov eax, OFFSET x") (with_immediate (x_with None) (made_of MOV 32 (reg class.Long 0) slot.Immediate slot.Absent))
  pub symbol : Reads (codes "mov eax, x") (at_address at_x (x_with None) (made_of MOV 32 (reg class.Long 0) slot.Memory slot.Absent))
  pub stack_base : Reads (codes "add BYTE PTR [rsp+rax*2], 1")
      (with_immediate (plainly 1) (at_address (in_segment None (base.Of 4) (index.By 0 1)) no_displacement (made_of ADD 8 slot.Memory slot.Immediate slot.Absent)))
  pub stack_last : Reads (codes "mov rcx, [rax+rsp]")
      (at_address (in_segment None (base.Of 4) (index.By 0 0)) no_displacement (made_of MOV 64 (reg class.Quad 1) slot.Memory slot.Absent))
  pub lea_rip : Reads (codes "lea rdi, x[rip]") (at_address from_rip (x_with None) (made_of LEA 64 (reg class.Quad 7) slot.Memory slot.Absent))
  pub segment_alone : Reads (codes "mov eax, DWORD PTR fs:0")
      (at_address (in_segment (Some segment.Fs) base.Absent index.Absent) (plainly 0) (made_of MOV 32 (reg class.Long 0) slot.Memory slot.Absent))
  pub other_memory : Reads (codes "mov eax, QWORD PTR [rdi]") (at_address (at_reg 7) no_displacement (record (made_of MOV 0 (reg class.Long 0) slot.Memory slot.Absent) { name = no_name }))
  pub vector_memory : Reads (codes "cvtsi2sd xmm1, QWORD PTR [rax]") (at_address (at_reg 0) no_displacement (made_of CVTSI2SD 64 (reg class.Xmm 1) slot.Memory slot.Absent))
  pub long_default : Reads (codes "cvtsi2ss xmm1, [rax]") (at_address (at_reg 0) no_displacement (made_of CVTSI2SS 32 (reg class.Xmm 1) slot.Memory slot.Absent))

-- instructions with branches and prefixes
pub record WorkedBranches : Type 0 where
  pub jump : Reads (codes "jmp rax") (made_of JMP 64 (reg class.Quad 0) slot.Absent slot.Absent)
  pub jumped : Reads (codes "jmp x") (to_target (x_with None) (made_of JMP 64 slot.Target slot.Absent slot.Absent))
  pub jumped_if : Reads (codes "jne x@PLT") (to_target (x_with (Some Plt)) (made_of JNE 64 slot.Target slot.Absent slot.Absent))
  pub jumped_through : Reads (codes "jmp [rax]") (at_address (at_reg 0) no_displacement (made_of JMP 64 slot.Memory slot.Absent slot.Absent))
  pub called_through : Reads (codes "call QWORD PTR x[rip]") (at_address from_rip (x_with None) (made_of CALL 64 slot.Memory slot.Absent slot.Absent))
  pub called_in_brackets : Reads (codes "call [QWORD PTR x[rip]]") (at_address from_rip (x_with None) (made_of CALL 64 slot.Memory slot.Absent slot.Absent))
  pub notracked : Reads (codes "notrack jmp rax") (prefixed_of Notrack JMP 64 (reg class.Quad 0) slot.Absent slot.Absent)
  pub repeated : Reads (codes "rep stosq") (prefixed_of Rep STOS 64 slot.Absent slot.Absent slot.Absent)
  pub string : Reads (codes "movsd") (made_of MOVS 32 slot.Absent slot.Absent slot.Absent)
  pub locked : Reads (codes "lock add DWORD PTR [rdi], eax") (at_address (at_reg 7) no_displacement (prefixed_of Lock ADD 32 slot.Memory (reg class.Long 0) slot.Absent))

-- instructions whose mnemonic has a rule
pub record WorkedRules : Type 0 where
  pub accumulator : Reads (codes "xchg eax, ecx") (made_of XCHG 32 (reg class.Long 0) (reg class.Long 1) slot.Absent)
  pub accumulator_last : Reads (codes "xchg ecx, eax") (made_of XCHG 32 (reg class.Long 0) (reg class.Long 1) slot.Absent)
  pub from_byte : Reads (codes "movsx rax, BYTE PTR [rdi]") (at_address (at_reg 7) no_displacement (made_of MOVSX_BYTE 64 (reg class.Quad 0) slot.Memory slot.Absent))
  pub from_word : Reads (codes "movzx eax, cx") (made_of MOVZX_WORD 32 (reg class.Long 0) (reg class.Word 1) slot.Absent)
  pub from_long : Reads (codes "movsx rax, edi") (made_of MOVSXD 64 (reg class.Quad 0) (reg class.Long 7) slot.Absent)
  pub only_byte : Reads (codes "movzx ax, [rdi]") (at_address (at_reg 7) no_displacement (made_of MOVZX_BYTE 16 (reg class.Word 0) slot.Memory slot.Absent))
  pub shifted : Reads (codes "sar eax") (with_immediate (plainly 1) (made_of SAR 32 (reg class.Long 0) slot.Immediate slot.Absent))
  pub multiplied : Reads (codes "imul ecx, 3") (with_immediate (plainly 3) (made_of IMUL 32 (reg class.Long 1) (reg class.Long 1) slot.Immediate))
  pub with_xmm0 : Reads (codes "pblendvb xmm2, xmm1, xmm0") (made_of PBLENDVB 0 (reg class.Xmm 2) (reg class.Xmm 1) slot.Absent)
  pub xmm0_left_out : Reads (codes "pblendvb xmm2, xmm1") (made_of PBLENDVB 0 (reg class.Xmm 2) (reg class.Xmm 1) slot.Absent)
  pub moved : Reads (codes "movd xmm1, rax") (made_of MOVQ 0 (reg class.Xmm 1) (reg class.Quad 0) slot.Absent)
  pub vector_move : Reads (codes "movsd xmm1, QWORD PTR [rax]") (at_address (at_reg 0) no_displacement (made_of MOVSD 0 (reg class.Xmm 1) slot.Memory slot.Absent))

-- statements that are no instruction
pub record WorkedRefusals : Type 0 where
  pub unknown : Refuses (codes "movl eax, 1") UnknownMnemonic
  pub no_size : Refuses (codes "mov [rax], 5") UnknownOperandSize
  pub no_source : Refuses (codes "movzx eax, [rdi]") UnknownOperandSize
  pub nothing_behind : Refuses (codes "add eax,") BadOperand
  pub four : Refuses (codes "add eax, ebx, ecx, edx") BadOperand
  pub first_fault : Refuses (codes "add OFFSET, [zax") BadExpression
  pub signed : Refuses (codes "add [rax-rbx], eax") BadOperand

-- the instructions of these statements
pub record WorkedInsns : Type 0 where
  pub plain : WorkedPlain
  pub branches : WorkedBranches
  pub rules : WorkedRules
  pub refusals : WorkedRefusals
