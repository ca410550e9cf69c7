-- Operands as they are read from the bytes of statements, worked out by hand (GNU as manual, "Memory References").
use Rattle.std.specs.Prelude.{◌≡◌, ℕ, Bool, true, false, List, Some, None, Ok, Err, codes}
use Rattle.asm_base.specs.Tokens.{tokens_of}
use Rattle.asm_expr.specs.declared.trees.Written.TheVariants.{Plain, Next}
use Rattle.asm_expr.specs.declared.trees.UnaryOp.TheVariants.{Minus}
use Rattle.asm_expr.specs.declared.trees.BinaryOp.TheVariants.{Add, Sub}
use Rattle.asm_expr.specs.Trees.{number, name, unary, binary}
use Rattle.x86_insn.specs.declared.registers.Class.TheVariants as class
use Rattle.x86_insn.specs.declared.amounts.Suffix.TheVariants.{Plt, GotPcRel, TpOff}
use Rattle.x86_insn.specs.declared.insns.Segment.TheVariants as segment
use Rattle.x86_insn.specs.declared.insns.Base.{Base}
use Rattle.x86_insn.specs.declared.insns.Base.TheVariants as base
use Rattle.x86_insn.specs.declared.insns.Index.{Index}
use Rattle.x86_insn.specs.declared.insns.Index.TheVariants as index
use Rattle.att_operands.specs.declared.faults.OperandCause.{OperandCause}
use Rattle.att_operands.specs.declared.faults.OperandCause.TheVariants.{BadExpression, NumberTooWide, BadOperand}
use Rattle.att_operands.specs.Values.{ValueText}
use Rattle.att_operands.specs.OperandTexts.{register, immediate, target, no_displacement}
use Rattle.att_operands.specs.Spells.{in_segment}
use Rattle.att_operands.specs.WorkedOperands.{valued}
use Rattle.intel_operands.specs.OperandTexts.{SizedText, unsized, in_memory, part, operand_at}

-- the statement begins with this operand, up to this token
abbrev pub Begins : Bool → List ℕ → SizedText → ℕ → Type 0
Begins branch statement operand next = operand_at branch (tokens_of statement) 0 ≡ Ok (part next operand)

-- the statement begins with no operand, for this cause
abbrev pub Refuses : Bool → List ℕ → OperandCause → Type 0
Refuses branch statement cause = operand_at branch (tokens_of statement) 0 ≡ Err cause

-- the number as a value
abbrev pub plainly : ℕ → ValueText
plainly value = valued (number value) None

-- the name x as a value
abbrev pub x_alone : ValueText
x_alone = valued (name (Plain (codes "x"))) None

-- memory of so many bits at this base and index
abbrev pub at_place : ℕ → Base → Index → ValueText → SizedText
at_place bits base index held = in_memory bits (in_segment None base index) held

-- operands with brackets
pub record WorkedSums : Type 0 where
  pub scaled : Begins false (codes "QWORD PTR [rbx+rcx*4+8]") (at_place 64 (base.Of 3) (index.By 1 2) (plainly 8)) 11
  pub stack_last : Begins false (codes "[rax+rsp], 1") (at_place 0 (base.Of 4) (index.By 0 0) no_displacement) 5
  pub stack_first : Begins false (codes "byte ptr [rsp+rax*2], 1") (at_place 8 (base.Of 4) (index.By 0 1) no_displacement) 9
  pub first_is_base : Begins false (codes "[rax+rbx]") (at_place 0 (base.Of 0) (index.By 3 0) no_displacement) 5
  pub scale_first : Begins false (codes "[8*rdi+rbp]") (at_place 0 (base.Of 5) (index.By 7 3) no_displacement) 7
  pub frame : Begins false (codes "DWORD PTR [rbp-20]") (at_place 32 (base.Of 5) index.Absent (valued (unary Minus (number 20)) None)) 7
  pub before : Begins false (codes "-20[rbp]") (at_place 0 (base.Of 5) index.Absent (valued (unary Minus (number 20)) None)) 5
  pub from_rip : Begins false (codes "x[rip]") (at_place 0 base.Rip index.Absent x_alone) 4
  pub added : Begins false (codes "x[rip+4]") (at_place 0 base.Rip index.Absent (valued (binary Add (name (Plain (codes "x"))) (number 4)) None)) 6
  pub table : Begins false (codes "x[0+rax*8]") (at_place 0 base.Absent (index.By 0 3) (valued (binary Add (name (Plain (codes "x"))) (number 0)) None)) 8
  pub between : Begins false (codes "[8+rax-4]") (at_place 0 (base.Of 0) index.Absent (valued (binary Sub (number 8) (number 4)) None)) 7
  pub enclosed : Begins false (codes "[(8+1)+rax]") (at_place 0 (base.Of 0) index.Absent (valued (binary Add (number 8) (number 1)) None)) 9
  pub got : Begins false (codes "QWORD PTR x@GOTPCREL[rip]") (at_place 64 base.Rip index.Absent (valued (name (Plain (codes "x"))) (Some GotPcRel))) 8
  pub absolute : Begins false (codes "[40]") (at_place 0 base.Absent index.Absent (plainly 40)) 3
  pub quoted : Begins false (codes "[\"rax\"]") (at_place 0 base.Absent index.Absent (valued (name (Plain (codes "rax"))) None)) 3
  pub called : Begins true (codes "[QWORD PTR x[rip]]") (at_place 64 base.Rip index.Absent x_alone) 8

-- other operands
pub record WorkedPlain : Type 0 where
  pub long : Begins false (codes "R10D, eax") (unsized (register (record { class = class.Long; number = 10 }))) 1
  pub negative : Begins false (codes "-1") (unsized (immediate (valued (unary Minus (number 1)) None))) 2
  pub symbol : Begins false (codes "x") (at_place 0 base.Absent index.Absent x_alone) 1
  pub moved_symbol : Begins false (codes "x-8") (at_place 0 base.Absent index.Absent (valued (binary Sub (name (Plain (codes "x"))) (number 8)) None)) 3
  pub suffixed_symbol : Begins false (codes "8+x@TPOFF") (at_place 0 base.Absent index.Absent (valued (binary Add (number 8) (name (Plain (codes "x")))) (Some TpOff))) 5
  pub sized_symbol : Begins false (codes "DWORD PTR x") (at_place 32 base.Absent index.Absent x_alone) 3
  pub address : Begins false (codes "OFFSET x") (unsized (immediate x_alone)) 2
  pub flat : Begins false (codes "offset flat:x+4") (unsized (immediate (valued (binary Add (name (Plain (codes "x"))) (number 4)) None))) 6
  pub segmented : Begins false (codes "DWORD PTR fs:0") (in_memory 32 (in_segment (Some segment.Fs) base.Absent index.Absent) (plainly 0)) 5
  pub local : Begins false (codes "fs:x@tpoff[rax]") (in_memory 0 (in_segment (Some segment.Fs) (base.Of 0) index.Absent) (valued (name (Plain (codes "x"))) (Some TpOff))) 8
  pub jumped : Begins true (codes "x@PLT") (unsized (target (valued (name (Plain (codes "x"))) (Some Plt)))) 3
  pub ahead : Begins true (codes "1f") (unsized (target (valued (name (Next 1)) None))) 1
  pub indirect : Begins true (codes "rax") (unsized (register (record { class = class.Quad; number = 0 }))) 1
  pub indirect_memory : Begins true (codes "[rax]") (at_place 0 (base.Of 0) index.Absent no_displacement) 3

-- what is no operand
pub record WorkedRefusals : Type 0 where
  pub third : Refuses false (codes "[rax+rbx+rcx]") BadOperand
  pub wrong_scale : Refuses false (codes "[rax+rbx*3]") BadOperand
  pub stack_index : Refuses false (codes "[rax+rsp*2]") BadOperand
  pub rip_index : Refuses false (codes "[rip+rax]") BadOperand
  pub short_base : Refuses false (codes "[eax]") BadOperand
  pub less : Refuses false (codes "[8-rax]") BadOperand
  pub in_parentheses : Refuses false (codes "[(rax+8)*2]") BadOperand
  pub compared : Refuses false (codes "[rax+x==8]") BadOperand
  pub twice : Refuses false (codes "[rax][rbx]") BadOperand
  pub open_bracket : Refuses false (codes "[rax") BadOperand
  pub behind_bracket : Refuses false (codes "[rax]+8") BadOperand
  pub register_sum : Refuses false (codes "rax+8") BadOperand
  pub address_of_register : Refuses false (codes "OFFSET rax") BadOperand
  pub nothing : Refuses false (codes ", eax") BadOperand
  pub other_size : Refuses false (codes "TBYTE PTR [rax]") BadOperand
  pub added_nothing : Refuses false (codes "[rax+]") BadExpression
  pub empty : Refuses false (codes "[]") BadExpression
  pub led : Refuses false (codes "+8[rax]") BadExpression
  pub due : Refuses false (codes "OFFSET") BadExpression
  pub wide : Refuses false (codes "18446744073709551616") NumberTooWide
  pub control : Refuses false (codes "CR0") BadOperand
  pub segment_name : Refuses true (codes "ds") BadOperand
  pub control_in_sum : Refuses false (codes "[rax+cr8]") BadOperand
  pub product : Refuses false (codes "N*8") BadOperand
  pub difference : Refuses false (codes ".-x") BadOperand
  pub sized_number : Refuses false (codes "DWORD PTR 8") BadOperand

-- the operands of these statements
pub record WorkedOperands : Type 0 where
  pub sums : WorkedSums
  pub plain : WorkedPlain
  pub refusals : WorkedRefusals
