-- What instructions do, as far as executions are followed (Intel SDM, volume 2).
use Rattle.std.specs.Prelude.{ℕ, Bool, Option}
use Rattle.x86_insn.specs.declared.insns.Address.{Address}
use Rattle.x86_insn.specs.Views.{Seen}

-- where an instruction may store: nowhere, so many bytes in an operand or below the top of the stack, or anywhere
pub data Stored : Type 0 where
  nowhere : Stored
  in_operand : Address → Option ℕ → (bytes : ℕ) → Stored
  on_stack : (bytes : ℕ) → Stored
  anywhere : Stored

-- what an instruction of 64 bits on the stack, moves, addresses and sums does; pushes and pops of another size, which are not supported; direct jumps, by
-- their distance and whether they may go on; calls; what ends what is followed; and all others, by what they may write
pub data Action : Type 0 where
  push : Seen → Action
  push_flags : Action
  pop : Seen → Action
  pop_flags : Action
  push_word : Action
  pop_word : Seen → Action
  leave : Action
  mov : (to from : Seen) → Action
  lea : (to : ℕ) → Address → Option ℕ → Action
  plus : (to : ℕ) → Option ℕ → Action
  jump : (distance : Option ℕ) → (falls : Bool) → (written : ℕ → Bool) → Action
  call : Action
  ends : Action
  other : (written : ℕ → Bool) → Stored → Action
