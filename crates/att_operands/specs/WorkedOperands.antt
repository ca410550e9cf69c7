-- Operands as they are read from the bytes of statements, worked out by hand (GNU as manual, "Memory References").
use Rattle.std.specs.Prelude.{◌≡◌, ℕ, Bool, true, false, List, Option, Some, None, Ok, Err, codes}
use Rattle.asm_base.specs.Tokens.{tokens_of}
use Rattle.asm_expr.specs.declared.trees.Written.TheVariants.{Plain, Next}
use Rattle.asm_expr.specs.declared.trees.UnaryOp.TheVariants.{Minus}
use Rattle.asm_expr.specs.declared.trees.BinaryOp.TheVariants.{Add}
use Rattle.asm_expr.specs.Trees.{Tree, number, name, unary, binary}
use Rattle.x86_insn.specs.declared.registers.Class.TheVariants as class
use Rattle.x86_insn.specs.declared.amounts.Suffix.{Suffix}
use Rattle.x86_insn.specs.declared.amounts.Suffix.TheVariants.{Plt, GotPcRel, TpOff}
use Rattle.x86_insn.specs.declared.insns.Segment.TheVariants as segment
use Rattle.x86_insn.specs.declared.insns.Base.TheVariants as base
use Rattle.x86_insn.specs.declared.insns.Index.TheVariants as index
use Rattle.att_operands.specs.declared.faults.OperandCause.{OperandCause}
use Rattle.att_operands.specs.declared.faults.OperandCause.TheVariants.{BadExpression, NumberTooWide, BadOperand}
use Rattle.att_operands.specs.Values.{ValueText}
use Rattle.att_operands.specs.OperandTexts.{OperandText, register, immediate, memory, target, part, no_displacement, operand_at}
use Rattle.att_operands.specs.Spells.{in_segment}

-- the statement begins with this operand, up to this token
abbrev pub Begins : Bool → List ℕ → OperandText → ℕ → Type 0
Begins branch statement operand next = operand_at branch (tokens_of statement) 0 ≡ Ok (part operand next)

-- the statement begins with no operand, for this cause
abbrev pub Refuses : Bool → List ℕ → OperandCause → Type 0
Refuses branch statement cause = operand_at branch (tokens_of statement) 0 ≡ Err cause

-- a value with a suffix, or without one
abbrev pub valued : Tree → Option Suffix → ValueText
valued tree suffix = record { tree = tree; suffix = suffix }

-- the operands of these statements
pub record WorkedOperands : Type 0 where
  pub long : Begins false (codes "%r10d, %eax") (register (record { class = class.Long; number = 10 })) 2
  pub high : Begins false (codes "%AH") (register (record { class = class.High; number = 4 })) 2
  pub negative : Begins false (codes "$-1, %eax") (immediate (valued (unary Minus (number 1)) None)) 3
  pub frame : Begins false (codes "-8(%rbp)") (memory (in_segment None (base.Of 5) index.Absent) (valued (unary Minus (number 8)) None)) 6
  pub scaled : Begins false (codes "8(%rdi,%rcx,4)") (memory (in_segment None (base.Of 7) (index.By 1 2)) (valued (number 8) None)) 10
  pub unbased : Begins false (codes "(,%rax,8)") (memory (in_segment None base.Absent (index.By 0 3)) no_displacement) 7
  pub lone_scale : Begins false (codes "8(,1)") (memory (in_segment None base.Absent index.Absent) (valued (number 8) None)) 5
  pub segmented : Begins false (codes "%fs:40, %rax") (memory (in_segment (Some segment.Fs) base.Absent index.Absent) (valued (number 40) None)) 4
  pub got : Begins false (codes "x@gotpcrel+4(%rip)") (memory (in_segment None base.Rip index.Absent) (valued (binary Add (name (Plain (codes "x"))) (number 4)) (Some GotPcRel))) 9
  pub local : Begins false (codes "%fs:8+x@tpoff(,%rdx,8)")
      (memory (in_segment (Some segment.Fs) base.Absent (index.By 2 3)) (valued (binary Add (number 8) (name (Plain (codes "x")))) (Some TpOff))) 15
  pub local_before : Begins false (codes "$-8+x@tpoff") (immediate (valued (binary Add (unary Minus (number 8)) (name (Plain (codes "x")))) (Some TpOff))) 7
  pub called : Begins true (codes "f@PLT") (target (valued (name (Plain (codes "f"))) (Some Plt))) 3
  pub called_ahead : Begins true (codes "1f@plt") (target (valued (name (Next 1)) (Some Plt))) 3
  pub indirect : Begins true (codes "*%rax") (register (record { class = class.Quad; number = 0 })) 3
  pub immediate_of_branch : Begins true (codes "$5") (immediate (valued (number 5) None)) 2
  pub stack_index : Refuses false (codes "(%rax,%rsp)") BadOperand
  pub rip_index : Refuses false (codes "(%rip,%rax)") BadOperand
  pub short_base : Refuses false (codes "(%eax)") BadOperand
  pub third : Refuses false (codes "(%rax,%rbx,3)") BadOperand
  pub wide_scale : Refuses false (codes "(%rax,%rbx,18446744073709551616)") BadOperand
  pub scale_of_base : Refuses false (codes "(%rax,1)") BadOperand
  pub no_scale : Refuses false (codes "(%rax,%rbx,)") BadOperand
  pub lone_two : Refuses false (codes "(,2)") BadOperand
  pub unknown_suffix : Refuses false (codes "x@BAR") BadOperand
  pub numbered : Refuses false (codes "0x1f@PLT") BadOperand
  pub late_suffix : Refuses false (codes "8*2+x@PLT") BadOperand
  pub labelled : Refuses false (codes "1b+x@PLT") BadOperand
  pub taken_away : Refuses false (codes "8-x@PLT") BadOperand
  pub inner_suffix : Refuses false (codes "$(x@PLT)") BadExpression
  pub unstarred : Refuses true (codes "%rax") BadOperand
  pub unstarred_memory : Refuses true (codes "(%rax)") BadOperand
  pub starred : Refuses false (codes "*%rax, %rbx") BadOperand
  pub empty : Refuses false (codes ", %eax") BadOperand
  pub due : Refuses false (codes "$, %eax") BadExpression
  pub due_at_end : Refuses false (codes "$") BadExpression
  pub wide : Refuses false (codes "$18446744073709551616") NumberTooWide
  pub unclosed : Refuses false (codes "$(1") BadExpression
