-- What some instructions do to registers and memory that hold numbers, worked out by hand from the
-- Intel manual (volume 2, chapters 3 and 4).
use Rattle.std.specs.Prelude.{◌-◌, ◌^◌, ◌++◌, ℕ, List, [], ◌∷◌, Some}
use Rattle.x86_insn.specs.declared.insns.Base.TheVariants as base
use Rattle.x86_insn.specs.declared.registers.Class.TheVariants as class
use Rattle.x86_insn.specs.Views.{View, absent, immediate, memory, target}
use Rattle.x86_table.specs.declared.mnemonics.integers.TheConstants.{ADD, CALL, JE, JMP, LEA, LEAVE, MOV, POP, POPF, PUSH, PUSHF, SUB}
use Rattle.insn_effects.specs.Decoding.{action_of}
use Rattle.insn_effects.specs.Worked.{insn, part, quad, at_base, at_rip, in_fs}
use Rattle.x86_steps.specs.Memory.{Cell}
use Rattle.x86_steps.specs.States.{State}
use Rattle.x86_steps.specs.Steps.{Does}
use Rattle.x86_steps.specs.WorkedOperands.{by_rbp, eight_cells}
use Rattle.x86_steps.specs.WorkedSteps.{push_frame, pop_frame, stands_at}

-- the number in the eight bytes 1, 2, .. up to 8
abbrev pub eight_bytes : ℕ
eight_bytes = 0x0807060504030201

-- with these cells as its memory
abbrev pub holding : List Cell → State → State
holding cells s = record s { memory = cells }

-- je . - 3
abbrev pub branch_back : View
branch_back = insn JE 64 (target (Some (2 ^ 64 - 3))) absent

-- these lead from state to state
pub record WorkedChanges : Type 0 where
  -- push %rbp: below the top of the stack, the lowest byte first
  pub pushes : Does (action_of push_frame) 1 (stands_at 0 4096 eight_bytes)
      (holding (eight_cells 4088 4089) (stands_at 1 4088 eight_bytes))
  -- also where rsp is 7: the byte after the last one is the first
  pub pushes_around : Does (action_of push_frame) 1 (stands_at 0 7 eight_bytes)
      (holding (eight_cells (2 ^ 64 - 1) 0) (stands_at 1 (2 ^ 64 - 1) eight_bytes))
  -- push %rsp: the number that it held before, which is 16 * 2 ^ 8
  pub pushes_top : Does (action_of (insn PUSH 64 (quad 4) absent)) 1 (stands_at 0 4096 3)
      (holding (record { address = 4089; byte = 16 } ∷ []) (stands_at 1 4088 3))
  -- push 8(%rsp): the address counts rsp as it was before
  pub pushes_memory : Does (action_of (insn PUSH 64 (memory (at_base 4) (Some 8)) absent)) 4
      (holding (eight_cells 4104 4105) (stands_at 0 4096 3))
      (holding (eight_cells 4088 4089 ++ eight_cells 4104 4105) (stands_at 4 4088 3))
  -- pushf: any number
  pub pushes_flags : Does (action_of (insn PUSHF 64 absent absent)) 1 (stands_at 0 4096 3)
      (holding (eight_cells 4088 4089) (stands_at 1 4088 3))
  -- popf
  pub pops_flags : Does (action_of (insn POPF 64 absent absent)) 1
      (holding (eight_cells 4088 4089) (stands_at 0 4088 3))
      (holding (eight_cells 4088 4089) (stands_at 1 4096 3))
  -- pop %rbp
  pub pops : Does (action_of pop_frame) 1 (holding (eight_cells 4088 4089) (stands_at 0 4088 3))
      (holding (eight_cells 4088 4089) (stands_at 1 4096 eight_bytes))
  -- pop %rsp: the number, and not 8 more
  pub pops_top : Does (action_of (insn POP 64 (quad 4) absent)) 1
      (holding (eight_cells 4088 4089) (stands_at 0 4088 3))
      (holding (eight_cells 4088 4089) (stands_at 1 eight_bytes 3))
  -- pop 8(%rsp): the address counts rsp as it is after
  pub pops_memory : Does (action_of (insn POP 64 (memory (at_base 4) (Some 8)) absent)) 4
      (holding (eight_cells 4088 4089) (stands_at 0 4088 3))
      (holding (eight_cells 4104 4105 ++ eight_cells 4088 4089) (stands_at 4 4096 3))
  -- leave: from where rbp is, wherever rsp is
  pub leaves : Does (action_of (insn LEAVE 64 absent absent)) 1
      (holding (eight_cells 4088 4089) (stands_at 0 64 4088))
      (holding (eight_cells 4088 4089) (stands_at 1 4096 eight_bytes))
  -- mov %rbp,16(%rsp)
  pub stores : Does (action_of (insn MOV 64 (memory (at_base 4) (Some 16)) (quad 5))) 5
      (stands_at 0 4096 eight_bytes)
      (holding (eight_cells 4112 4113) (stands_at 5 4096 eight_bytes))
  -- mov 16(%rsp),%rbp
  pub loads : Does (action_of (insn MOV 64 (quad 5) (memory (at_base 4) (Some 16)))) 5
      (holding (eight_cells 4112 4113) (stands_at 0 4096 3))
      (holding (eight_cells 4112 4113) (stands_at 5 4096 eight_bytes))
  -- mov 16(%rip),%rbp and mov %fs:16(%rsp),%rbp: from any address
  pub loads_by_place : Does (action_of (insn MOV 64 (quad 5) (memory at_rip (Some 16)))) 7
      (holding (eight_cells 4112 4113) (stands_at 0 4096 3))
      (holding (eight_cells 4112 4113) (stands_at 7 4096 eight_bytes))
  pub loads_by_segment : Does (action_of (insn MOV 64 (quad 5) (memory (in_fs 4) (Some 16)))) 6
      (holding (eight_cells 64 65) (stands_at 0 4096 3))
      (holding (eight_cells 64 65) (stands_at 6 4096 eight_bytes))
  -- lea 8(%rsp),%rbp
  pub address : Does (action_of (insn LEA 64 (quad 5) (memory (at_base 4) (Some 8)))) 5
      (stands_at 0 4096 3) (stands_at 5 4096 4104)
  -- lea 8(%rsp,%rbp,4),%rbp
  pub address_indexed : Does
      (action_of (insn LEA 64 (quad 5) (memory (by_rbp (base.Of 4)) (Some 8)))) 5
      (stands_at 0 4096 3) (stands_at 5 4096 4116)
  -- add $24,%rsp
  pub raises : Does (action_of (insn ADD 64 (quad 4) (immediate (Some 24)))) 4
      (stands_at 0 4096 3) (stands_at 4 4120 3)
  -- sub $24,%rsp
  pub lowers : Does (action_of (insn SUB 64 (quad 4) (immediate (Some 24)))) 4
      (stands_at 0 4096 3) (stands_at 4 4072 3)
  -- mov %al,16(%rsp): one byte, which may be any
  pub narrow : Does (action_of (insn MOV 8 (memory (at_base 4) (Some 16)) (part class.Byte 0))) 4
      (stands_at 0 4096 3)
      (holding (record { address = 4112; byte = 9 } ∷ []) (stands_at 4 4096 3))
  -- mov %esp,%ebp: rbp, which may get any number
  pub moves_half : Does (action_of (insn MOV 32 (part class.Long 5) (part class.Long 4))) 2
      (stands_at 0 4096 3) (stands_at 2 4096 4096)
  -- call . + 7: on to the next instruction, with any registers and memory
  pub calls : Does (action_of (insn CALL 64 (target (Some 7)) absent)) 5
      (holding (eight_cells 4088 4089) (stands_at 0 4096 3)) (stands_at 5 4104 eight_bytes)
  -- jmp . + 7
  pub jumps : Does (action_of (insn JMP 64 (target (Some 7)) absent)) 2
      (holding (eight_cells 4088 4089) (stands_at 0 4096 3))
      (holding (eight_cells 4088 4089) (stands_at 7 4096 3))
  -- je . - 3, at place 5: back, or on
  pub jumps_back : Does (action_of branch_back) 7 (stands_at 5 4096 3) (stands_at 2 4096 3)
  pub goes_on : Does (action_of branch_back) 7 (stands_at 5 4096 3) (stands_at 7 4096 3)
