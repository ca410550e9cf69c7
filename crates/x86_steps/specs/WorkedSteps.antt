-- A function of four instructions, and an execution of it, worked out by hand: by the bytes
-- 55 48 89 E5 5D C3: `push %rbp; mov %rsp,%rbp; pop %rbp; ret`.
use Rattle.std.specs.Prelude.{◌==◌, ℕ, if◌then◌else◌, [], ◌∷◌}
use Rattle.x86_insn.specs.Views.{View, absent}
use Rattle.x86_table.specs.declared.mnemonics.integers.TheConstants.{MOV, POP, PUSH, RET}
use Rattle.x86_table.specs.Reads.{Reads}
use Rattle.insn_effects.specs.Decoding.{action_of}
use Rattle.insn_effects.specs.Worked.{insn, quad}
use Rattle.x86_steps.specs.States.{State, IsRanged}
use Rattle.x86_steps.specs.Steps.{Does}

-- push %rbp
abbrev pub push_frame : View
push_frame = insn PUSH 64 (quad 5) absent

-- mov %rsp,%rbp
abbrev pub set_frame : View
set_frame = insn MOV 64 (quad 5) (quad 4)

-- pop %rbp
abbrev pub pop_frame : View
pop_frame = insn POP 64 (quad 5) absent

-- ret
abbrev pub return : View
return = insn RET 64 absent absent

-- at a place, with these numbers in rsp and rbp, 0 in the other registers, and 0 in all bytes of
-- memory
abbrev pub stands_at : (place rsp rbp : ℕ) → State
stands_at place rsp rbp = record {
  place = place;
  registers = λ q. if q == 4 then rsp else if q == 5 then rbp else 0;
  memory = [];
}

-- the bytes read as the four instructions, and the first three of these lead from state to state
pub record WorkedSteps : Type 0 where
  pub push_reads : Reads (85 ∷ []) push_frame
  pub mov_reads : Reads (72 ∷ 137 ∷ 229 ∷ []) set_frame
  pub pop_reads : Reads (93 ∷ []) pop_frame
  pub ret_reads : Reads (195 ∷ []) return
  pub push_does : Does (action_of push_frame) 1 (stands_at 0 4096 0) (stands_at 1 4088 0)
  pub mov_does : Does (action_of set_frame) 4 (stands_at 1 4088 0) (stands_at 4 4088 4088)
  pub pop_does : Does (action_of pop_frame) 5 (stands_at 4 4088 4088) (stands_at 5 4096 0)
  pub first : IsRanged (stands_at 0 4096 0)
  pub second : IsRanged (stands_at 1 4088 0)
  pub third : IsRanged (stands_at 4 4088 4088)
  pub fourth : IsRanged (stands_at 5 4096 0)
