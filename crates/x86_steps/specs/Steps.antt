-- The states to which an instruction may lead (Intel SDM, volume 2, chapters 3 and 4).
use Rattle.std.specs.Prelude.{◌≡◌, ◌+◌, ◌-◌, ◌^◌, ◌==◌, ◌||◌, ◌⊎◌, ℕ, Bool, IsTrue, false, Option, option_map}
use Rattle.x86_insn.specs.declared.registers.Class.TheVariants as class
use Rattle.x86_insn.specs.Views.{Seen, register}
use Rattle.x86_lookup.specs.Writing.{reg_in, part_is}
use Rattle.insn_effects.specs.Actions.{Stored, nowhere, in_operand, on_stack, anywhere, Action, push, push_flags, pop, pop_flags, push_word, pop_word, leave, mov, lea, plus, jump, call, ends, other}
use Rattle.insn_effects.specs.Decoding.{stored_in}
use Rattle.insn_effects.specs.Followed.{wrap}
use Rattle.insn_effects.specs.Listed.{slot_of}
use Rattle.x86_steps.specs.Memory.{word_at, SameMemory, SameOutside}
use Rattle.x86_steps.specs.States.{State, Keeps, Same, Sets, Writes, with_register, raised_by, raised, lowered}
use Rattle.x86_steps.specs.Operands.{Is, offset_of, place_of, sum_with, Shows, Gets}

-- the number goes onto the stack
abbrev pub Pushes : ℕ → State → State → Type 0
Pushes v s t = Writes ((lowered s).registers 4) v (lowered s) t

-- the operand gets the number on the stack; an address counts the top of the stack as it is after
-- that
abbrev pub Pops : Seen → State → State → Type 0
Pops o s t = Gets o (word_at s.memory (s.registers 4)) (raised s) t

-- rbp
abbrev pub frame_pointer : Seen
frame_pointer = register (record { class = class.Quad; number = 5 })

-- bytes that the instruction does not store to stay
abbrev pub StoresAt : Stored → State → State → Type 0
StoresAt nowhere s t = SameMemory s.memory t.memory
StoresAt (in_operand a d n) s t = (p : ℕ) × Is (place_of s a d) p
    × SameOutside p n s.memory t.memory
StoresAt (on_stack n) s t = SameOutside (s.registers 4 + (2 ^ 64 - n)) n s.memory t.memory
StoresAt anywhere s t = Unit {0}

-- the register is rsp, or the operand is the register or a part of it
abbrev pub is_popped : Seen → ℕ → Bool
is_popped o q = part_is (reg_in (slot_of o)) q || (q == 4)

-- registers and memory change so; a push or pop of 16 bits, which is not supported, may change what
-- it writes in any way
abbrev pub Changes : Action → State → State → Type 0
Changes (push o) s t = (v : ℕ) × Shows s o v × Pushes v s t
Changes push_flags s t = (v : ℕ) × Pushes v s t
Changes (pop o) s t = Pops o s t
Changes pop_flags s t = Same (raised s) t
Changes push_word s t = Keeps (λ q. q == 4) s t × StoresAt (on_stack 2) s t
Changes (pop_word o) s t = Keeps (is_popped o) s t × StoresAt (stored_in o 2) (raised_by 2 s) t
Changes leave s t = Pops frame_pointer (with_register 4 (s.registers 5) s) t
Changes (mov to from) s t = (v : ℕ) × Shows s from v × Gets to v s t
Changes (lea to a d) s t = (v : ℕ) × Is (offset_of s a d) v × Sets to v s t
Changes (plus to n) s t = (v : ℕ) × Is (sum_with s to n) v × Sets to v s t
Changes (jump d falls written) s t = Keeps written s t × SameMemory s.memory t.memory
Changes call s t = Unit {0}
Changes ends s t = ⊥
Changes (other written stored) s t = Keeps written s t × StoresAt stored s t

-- a jump leads so far from its first byte, or on
abbrev pub Jumps : Option ℕ → Bool → (next : ℕ) → State → State → Type 0
Jumps d falls next s t = Is (option_map (λ n. wrap (s.place + n)) d) t.place
    ⊎ (IsTrue falls × (t.place ≡ next))

-- the place where it goes on: a jump may lead elsewhere than to the next instruction
abbrev pub Goes : Action → (next : ℕ) → State → State → Type 0
Goes (jump d falls written) next s t = Jumps d falls next s t
Goes _ next s t = t.place ≡ next

-- an instruction that the next one follows at this place may lead from one state to the other
pub record Does (insn : Action) (next : ℕ) (s t : State) : Type 0 where
  pub goes : Goes insn next s t
  pub changes : Changes insn s t

-- a direct jump may go on
abbrev pub falls_in : Action → Bool
falls_in (push o) = false
falls_in push_flags = false
falls_in (pop o) = false
falls_in pop_flags = false
falls_in push_word = false
falls_in (pop_word o) = false
falls_in leave = false
falls_in (mov to from) = false
falls_in (lea to a d) = false
falls_in (plus to n) = false
falls_in (jump d falls written) = falls
falls_in call = false
falls_in ends = false
falls_in (other written stored) = false
