-- Instructions as they are read from the bytes of statements, worked out by hand (GNU as manual, "AT&T Syntax versus Intel Syntax"; Intel SDM,
-- volume 2, for the names and sizes).
use Rattle.std.specs.Prelude.{◌≡◌, ℕ, List, Option, Some, None, Ok, Err, codes}
use Rattle.asm_base.specs.Tokens.{tokens_of}
use Rattle.asm_expr.specs.declared.trees.Written.TheVariants.{Plain}
use Rattle.asm_expr.specs.Trees.{number, name}
use Rattle.x86_insn.specs.declared.registers.Class.{Class}
use Rattle.x86_insn.specs.declared.registers.Class.TheVariants as class
use Rattle.x86_insn.specs.declared.amounts.Suffix.{Suffix}
use Rattle.x86_insn.specs.declared.amounts.Suffix.TheVariants.{Plt, GotPcRel, GotTpOff, TpOff}
use Rattle.x86_insn.specs.declared.insns.Prefix.{Prefix}
use Rattle.x86_insn.specs.declared.insns.Prefix.TheVariants.{Absent, Lock, Rep, Notrack}
use Rattle.x86_insn.specs.declared.insns.Segment.TheVariants as segment
use Rattle.x86_insn.specs.declared.insns.Base.TheVariants as base
use Rattle.x86_insn.specs.declared.insns.Index.TheVariants as index
use Rattle.x86_insn.specs.declared.insns.Address.{Address}
use Rattle.x86_insn.specs.declared.insns.Slot.{Slot}
use Rattle.x86_insn.specs.declared.insns.Slot.TheVariants as slot
use Rattle.x86_table.specs.declared.mnemonics.integers.TheConstants.{ADD, MOV, MOVABS, MOVZX_BYTE, MOVZX_WORD, MOVSX_WORD, MOVSXD, LEA, XCHG, TEST, IMUL, SHL, SHLD, SHRD, SETGE, CQO, PUSH, STOS, CALL, JMP, JNE, LOOP, RET, NOP}
use Rattle.x86_table.specs.declared.mnemonics.vectors.TheConstants.{MOVQ, CMPPS, CVTSI2SS, CVTSI2SD, PBLENDVB, CRC32}
use Rattle.att_operands.specs.declared.faults.OperandCause.{OperandCause}
use Rattle.att_operands.specs.declared.faults.OperandCause.TheVariants.{UnknownMnemonic, BadExpression, BadOperand, UnknownOperandSize}
use Rattle.att_operands.specs.Values.{ValueText}
use Rattle.att_operands.specs.OperandTexts.{no_displacement}
use Rattle.att_operands.specs.Spells.{in_segment}
use Rattle.att_operands.specs.WorkedOperands.{valued}
use Rattle.att_insns.specs.InsnTexts.{InsnText, blank}
use Rattle.att_insns.specs.Reading.{insn_of}

-- the statement is this instruction
abbrev pub Reads : List ℕ → InsnText → Type 0
Reads statement insn = insn_of (tokens_of statement) ≡ Ok insn

-- the statement is none, for this cause
abbrev pub Refuses : List ℕ → OperandCause → Type 0
Refuses statement cause = insn_of (tokens_of statement) ≡ Err cause

-- an instruction of these operands, behind a prefix
abbrev pub prefixed_of : Prefix → ℕ → ℕ → Slot → Slot → Slot → InsnText
prefixed_of word own size first second third =
    record (blank (record { 0 = own }) size word) { first = first; second = second; third = third }

-- an instruction of these operands
abbrev pub made_of : ℕ → ℕ → Slot → Slot → Slot → InsnText
made_of = prefixed_of Absent

-- the same with this immediate
abbrev pub with_immediate : ValueText → InsnText → InsnText
with_immediate held insn = record insn { immediate = held }

-- the same with memory at this address
abbrev pub at_address : Address → ValueText → InsnText → InsnText
at_address place held insn = record insn { address = place; displacement = held }

-- the same with this target
abbrev pub to_target : ValueText → InsnText → InsnText
to_target held insn = record insn { displacement = held }

-- a register
abbrev pub reg : Class → ℕ → Slot
reg of_class own = slot.Register (record { class = of_class; number = own })

-- a number as a value
abbrev pub plainly : ℕ → ValueText
plainly value = valued (number value) None

-- the name x as a value
abbrev pub x_with : Option Suffix → ValueText
x_with suffix = valued (name (Plain (codes "x"))) suffix

-- memory from rip
abbrev pub from_rip : Address
from_rip = in_segment None base.Rip index.Absent

-- memory at a 64-bit register
abbrev pub at_reg : ℕ → Address
at_reg own = in_segment None (base.Of own) index.Absent

-- instructions with registers and memory
pub record WorkedPlain : Type 0 where
  pub none : Reads (codes "nop") (made_of NOP 0 slot.Absent slot.Absent slot.Absent)
  pub upper : Reads (codes "ADDL %ECX, %EAX") (made_of ADD 32 (reg class.Long 0) (reg class.Long 1) slot.Absent)
  pub by_register : Reads (codes "add %cl, (%rdi)") (at_address (at_reg 7) no_displacement (made_of ADD 8 slot.Memory (reg class.Byte 1) slot.Absent))
  pub long_move : Reads (codes "mov $1,%eax") (with_immediate (plainly 1) (made_of MOV 32 (reg class.Long 0) slot.Immediate slot.Absent))
  pub wide : Reads (codes "movabs $1,%rax") (with_immediate (plainly 1) (made_of MOVABS 64 (reg class.Quad 0) slot.Immediate slot.Absent))
  pub scaled : Reads (codes "mov 8(%rbx,%rcx,4),%rax")
      (at_address (in_segment None (base.Of 3) (index.By 1 2)) (plainly 8) (made_of MOV 64 (reg class.Quad 0) slot.Memory slot.Absent))
  pub lea_rip : Reads (codes "lea x(%rip),%rax") (at_address from_rip (x_with None) (made_of LEA 64 (reg class.Quad 0) slot.Memory slot.Absent))
  pub both_values : Reads (codes "movl $5,x(%rip)")
      (with_immediate (plainly 5) (at_address from_rip (x_with None) (made_of MOV 32 slot.Memory slot.Immediate slot.Absent)))
  pub got : Reads (codes "mov x@GOTPCREL(%rip),%rax") (at_address from_rip (x_with (Some GotPcRel)) (made_of MOV 64 (reg class.Quad 0) slot.Memory slot.Absent))
  pub thread_got : Reads (codes "mov x@gottpoff(%rip),%rax") (at_address from_rip (x_with (Some GotTpOff)) (made_of MOV 64 (reg class.Quad 0) slot.Memory slot.Absent))
  pub thread_offset : Reads (codes "mov %fs:x@tpoff,%eax")
      (at_address (in_segment (Some segment.Fs) base.Absent index.Absent) (x_with (Some TpOff)) (made_of MOV 32 (reg class.Long 0) slot.Memory slot.Absent))
  pub wide_immediate : Reads (codes "add $300,%al") (with_immediate (plainly 300) (made_of ADD 8 (reg class.Byte 0) slot.Immediate slot.Absent))
  pub other_sizes : Reads (codes "mov %eax,%rbx") (made_of MOV 0 (reg class.Quad 3) (reg class.Long 0) slot.Absent)
  pub one_size : Reads (codes "push (%rax)") (at_address (at_reg 0) no_displacement (made_of PUSH 64 slot.Memory slot.Absent slot.Absent))
  pub checked : Reads (codes "crc32b %al,%ebx") (made_of CRC32 8 (reg class.Long 3) (reg class.Byte 0) slot.Absent)

-- instructions with branches and prefixes
pub record WorkedBranches : Type 0 where
  pub jump : Reads (codes "jmp *%rax") (made_of JMP 64 (reg class.Quad 0) slot.Absent slot.Absent)
  pub jumped : Reads (codes "jmp x") (to_target (x_with None) (made_of JMP 64 slot.Target slot.Absent slot.Absent))
  pub jumped_if : Reads (codes "jne x@PLT") (to_target (x_with (Some Plt)) (made_of JNE 64 slot.Target slot.Absent slot.Absent))
  pub notracked : Reads (codes "notrack jmp *%rax") (prefixed_of Notrack JMP 64 (reg class.Quad 0) slot.Absent slot.Absent)
  pub called_through : Reads (codes "call *8(%rax)") (at_address (at_reg 0) (plainly 8) (made_of CALL 64 slot.Memory slot.Absent slot.Absent))
  pub called : Reads (codes "call x@PLT") (to_target (x_with (Some Plt)) (made_of CALL 64 slot.Target slot.Absent slot.Absent))
  pub looped : Reads (codes "loop x") (to_target (x_with None) (made_of LOOP 64 slot.Target slot.Absent slot.Absent))
  pub returns : Reads (codes "ret") (made_of RET 64 slot.Absent slot.Absent slot.Absent)
  pub repeated : Reads (codes "rep stosq") (prefixed_of Rep STOS 64 slot.Absent slot.Absent slot.Absent)
  pub locked : Reads (codes "lock add %eax,(%rdi)") (at_address (at_reg 7) no_displacement (prefixed_of Lock ADD 32 slot.Memory (reg class.Long 0) slot.Absent))
  pub locked_register : Reads (codes "lock add %eax,%ebx") (prefixed_of Lock ADD 32 (reg class.Long 3) (reg class.Long 0) slot.Absent)

-- instructions whose mnemonic has a rule
pub record WorkedRules : Type 0 where
  pub with_xmm0 : Reads (codes "pblendvb %xmm0,%xmm1,%xmm2") (made_of PBLENDVB 0 (reg class.Xmm 2) (reg class.Xmm 1) slot.Absent)
  pub xmm0_left_out : Reads (codes "pblendvb %xmm1,%xmm2") (made_of PBLENDVB 0 (reg class.Xmm 2) (reg class.Xmm 1) slot.Absent)
  pub exchanged : Reads (codes "xchg %eax,%eax") (made_of XCHG 32 (reg class.Long 0) (reg class.Long 0) slot.Absent)
  pub accumulator : Reads (codes "xchg %eax,%ecx") (made_of XCHG 32 (reg class.Long 0) (reg class.Long 1) slot.Absent)
  pub accumulator_last : Reads (codes "xchg %ecx,%eax") (made_of XCHG 32 (reg class.Long 0) (reg class.Long 1) slot.Absent)
  pub tested : Reads (codes "test (%rax),%cl") (at_address (at_reg 0) no_displacement (made_of TEST 8 slot.Memory (reg class.Byte 1) slot.Absent))
  pub tested_register : Reads (codes "test %cl,(%rax)") (at_address (at_reg 0) no_displacement (made_of TEST 8 slot.Memory (reg class.Byte 1) slot.Absent))
  pub not_turned : Reads (codes "testl (%rax),$5")
      (with_immediate (plainly 5) (at_address (at_reg 0) no_displacement (made_of TEST 32 slot.Immediate slot.Memory slot.Absent)))
  pub shifted : Reads (codes "shl %eax") (with_immediate (plainly 1) (made_of SHL 32 (reg class.Long 0) slot.Immediate slot.Absent))
  pub shifted_by : Reads (codes "shl %cl,%eax") (made_of SHL 32 (reg class.Long 0) (reg class.Byte 1) slot.Absent)
  pub shifted_double : Reads (codes "shldq %rdx,%rsi") (made_of SHLD 64 (reg class.Quad 6) (reg class.Quad 2) (reg class.Byte 1))
  pub shifted_double_by : Reads (codes "shldq %cl,%rdx,%rsi") (made_of SHLD 64 (reg class.Quad 6) (reg class.Quad 2) (reg class.Byte 1))
  pub shifted_memory : Reads (codes "shrd %rdx,(%rsi)") (at_address (at_reg 6) no_displacement (made_of SHRD 64 slot.Memory (reg class.Quad 2) (reg class.Byte 1)))
  pub multiplied : Reads (codes "imul $3,%ecx") (with_immediate (plainly 3) (made_of IMUL 32 (reg class.Long 1) (reg class.Long 1) slot.Immediate))
  pub compared : Reads (codes "cmpltps %xmm1,%xmm2") (with_immediate (plainly 1) (made_of CMPPS 0 (reg class.Xmm 2) (reg class.Xmm 1) slot.Immediate))
  pub moved : Reads (codes "movd %rax,%xmm1") (made_of MOVQ 0 (reg class.Xmm 1) (reg class.Quad 0) slot.Absent)
  pub moved_quad : Reads (codes "movq %rax,%rbx") (made_of MOV 64 (reg class.Quad 3) (reg class.Quad 0) slot.Absent)
  pub converted : Reads (codes "cvtsi2ss (%rax),%xmm1") (at_address (at_reg 0) no_displacement (made_of CVTSI2SS 32 (reg class.Xmm 1) slot.Memory slot.Absent))
  pub converted_quad : Reads (codes "cvtsi2sdq (%rax),%xmm1") (at_address (at_reg 0) no_displacement (made_of CVTSI2SD 64 (reg class.Xmm 1) slot.Memory slot.Absent))

-- instructions whose mnemonic is the row's own name, or has a letter more
pub record WorkedMnemonics : Type 0 where
  pub own : Reads (codes "cqo") (made_of CQO 0 slot.Absent slot.Absent slot.Absent)
  pub own_long : Reads (codes "movsxd %eax,%rbx") (made_of MOVSXD 64 (reg class.Quad 3) (reg class.Long 0) slot.Absent)
  pub from_byte : Reads (codes "movzx %al,%ecx") (made_of MOVZX_BYTE 32 (reg class.Long 1) (reg class.Byte 0) slot.Absent)
  pub from_word : Reads (codes "movsx %ax,%rcx") (made_of MOVSX_WORD 64 (reg class.Quad 1) (reg class.Word 0) slot.Absent)
  pub from_long : Reads (codes "movsx %eax,%rcx") (made_of MOVSXD 64 (reg class.Quad 1) (reg class.Long 0) slot.Absent)
  pub by_letter : Reads (codes "movzxw (%rax),%ecx") (at_address (at_reg 0) no_displacement (made_of MOVZX_WORD 32 (reg class.Long 1) slot.Memory slot.Absent))
  pub no_such_source : Reads (codes "movzxl (%rax),%rcx") (at_address (at_reg 0) no_displacement (made_of 65535 0 (reg class.Quad 1) slot.Memory slot.Absent))
  pub one_source : Reads (codes "movzx (%rax),%cx") (at_address (at_reg 0) no_displacement (made_of MOVZX_BYTE 16 (reg class.Word 1) slot.Memory slot.Absent))
  pub lettered : Reads (codes "SetGEB %al") (made_of SETGE 8 (reg class.Byte 0) slot.Absent slot.Absent)
  pub lettered_jump : Reads (codes "jneq x") (to_target (x_with None) (made_of JNE 64 slot.Target slot.Absent slot.Absent))
  pub other_letter : Reads (codes "pushl %eax") (made_of PUSH 32 (reg class.Long 0) slot.Absent slot.Absent)
  pub two_letters : Reads (codes "movqb %rax,%rbx") (made_of MOVQ 8 (reg class.Quad 3) (reg class.Quad 0) slot.Absent)
  pub other_memory : Reads (codes "cvtsi2ssw (%rax),%xmm1") (at_address (at_reg 0) no_displacement (made_of CVTSI2SS 16 (reg class.Xmm 1) slot.Memory slot.Absent))

-- statements that are no instruction
pub record WorkedRefusals : Type 0 where
  pub unknown : Refuses (codes "foo %eax") UnknownMnemonic
  pub numbered : Refuses (codes "5") UnknownMnemonic
  pub alone : Refuses (codes "rep") UnknownMnemonic
  pub twice : Refuses (codes "lock lock incl (%rax)") UnknownMnemonic
  pub jump_without_star : Refuses (codes "jmp %rax") BadOperand
  pub stack_index : Refuses (codes "mov (%rsp,%rsp),%eax") BadOperand
  pub nothing_behind : Refuses (codes "add %eax,") BadOperand
  pub nothing_between : Refuses (codes "add %eax,,%ebx") BadOperand
  pub four : Refuses (codes "add %eax,%ebx,%ecx,%edx") BadOperand
  pub left_over : Refuses (codes "add %eax %ebx") BadOperand
  pub first_fault : Refuses (codes "add $(,%zax") BadExpression
  pub no_size : Refuses (codes "mov $5,(%rax)") UnknownOperandSize
  pub no_shift_size : Refuses (codes "shl (%rax)") UnknownOperandSize
  pub no_source_size : Refuses (codes "movzx (%rax),%ecx") UnknownOperandSize
  pub no_letter : Refuses (codes "setgex %al") UnknownMnemonic
  pub letter_behind_letter : Refuses (codes "addlq %eax,%ebx") UnknownMnemonic

-- the instructions of these statements
pub record WorkedInsns : Type 0 where
  pub plain : WorkedPlain
  pub branches : WorkedBranches
  pub rules : WorkedRules
  pub mnemonics : WorkedMnemonics
  pub refusals : WorkedRefusals
