-- What instructions do to the stack and to registers: what moves, is written, stored, saved and loaded (psABI for AMD64, section 3.2).
use Rattle.std.specs.Prelude.{◌+◌, ◌-◌, ◌^◌, ◌==◌, ◌||◌, ℕ, Bool, true, false, if◌then◌else◌, Option, None, Some, option_map}
use Rattle.x86_insn.specs.declared.insns.Base.{Base}
use Rattle.x86_insn.specs.declared.insns.Base.TheVariants as base
use Rattle.x86_insn.specs.declared.insns.Index.{Index}
use Rattle.x86_insn.specs.declared.insns.Index.TheVariants as index
use Rattle.x86_insn.specs.declared.insns.Segment.{Segment}
use Rattle.x86_insn.specs.declared.insns.Address.{Address}
use Rattle.x86_insn.specs.Views.{Seen, absent, register, immediate, memory, target}
use Rattle.insn_effects.specs.declared.places.Based.{Based}
use Rattle.insn_effects.specs.Actions.{Stored, nowhere, in_operand, on_stack, anywhere, Action, push, push_flags, pop, pop_flags, push_word, pop_word, leave, mov, lea, plus, jump, call, ends, other}

-- the register gets what a base holds, and a number more
pub record Move : Type 0 where
  pub to : ℕ
  pub base : ℕ
  pub add : ℕ

-- the register gets the eight bytes there
pub record Load : Type 0 where
  pub base : ℕ
  pub displacement : ℕ
  pub register : ℕ

-- bytes are stored nowhere, so many at a displacement from a base, or at an address that is not followed
pub data Store : Type 0 where
  none : Store
  based : (base displacement size : ℕ) → Store
  unfollowed : Store

-- what an item does to registers that have distances, and to saved registers
pub record StackEffect : Type 0 where
  pub moves : Option Move
  pub written : ℕ → Bool
  pub stores : Store
  -- the register that is stored; it counts only beside a store of 8 bytes at a fixed place
  pub saves : Option ℕ
  pub loads : Option Load
  pub calls : Bool

-- nothing
abbrev pub no_effect : StackEffect
no_effect = record { moves = None; written = λ q. false; stores = none; saves = None; loads = None; calls = false }

-- without an index
abbrev pub unless_index : {A : Type 0} → Index → Option A → Option A
unless_index index.Absent at = at
unless_index (index.By n scale) at = None

-- the base and the displacement, where both are known
abbrev pub based_on : Base → Option ℕ → Option Based
based_on base.Absent d = None
based_on base.Rip d = None
based_on (base.Of b) d = option_map (λ n. record { base = b; displacement = n }) d

-- the base and the displacement of an effective address of just these
abbrev pub offset_on : Address → Option ℕ → Option Based
offset_on a d = unless_index a.index (based_on a.base d)

-- the base of fs or gs may be any number
abbrev pub in_segment : {A : Type 0} → Option Segment → Option A → Option A
in_segment None at = at
in_segment (Some segment) at = None

-- those of an address in memory of just these
abbrev pub place_on : Address → Option ℕ → Option Based
place_on a d = in_segment a.segment (offset_on a d)

-- so many bytes there
abbrev pub store_to : ℕ → Option Based → Store
store_to n None = unfollowed
store_to n (Some at) = based at.base at.displacement n

-- the register of an operand
abbrev pub register_in : Seen → Option ℕ
register_in absent = None
register_in (register r) = Some r.number
register_in (immediate n) = None
register_in (memory a d) = None
register_in (target d) = None

-- a register gets a number that is not followed
abbrev pub written_effect : ℕ → StackEffect
written_effect r = record no_effect { written = λ q. q == r }

-- a register gets what a base holds, and a number more
abbrev pub move_effect : (to base add : ℕ) → StackEffect
move_effect to base add = record (written_effect to) { moves = Some (record { to = to; base = base; add = add }) }

-- the same where base and number are known
abbrev pub move_by : ℕ → Option Based → StackEffect
move_by to None = written_effect to
move_by to (Some at) = move_effect to at.base at.displacement

-- of a push, which may save a register
abbrev pub push_effect : Option ℕ → StackEffect
push_effect saves = record (move_effect 4 4 (2 ^ 64 - 8)) { stores = based 4 (2 ^ 64 - 8) 8; saves = saves }

-- the load of a register
abbrev pub load_of : ℕ → Based → Load
load_of r at = record { base = at.base; displacement = at.displacement; register = r }

-- rsp gets what a base holds and 8 more, and a register what stands at the base
abbrev pub pop_from : (base register : ℕ) → StackEffect
pop_from base r = record (move_effect 4 base 8) {
  written = λ q. (q == 4) || (q == r);
  loads = Some (record { base = base; displacement = 0; register = r });
}

-- an address counts the top of the stack as it is after a pop
abbrev pub risen : Based → Based
risen at = record at { displacement = if at.base == 4 then at.displacement + 8 else at.displacement }

-- of a pop
abbrev pub pop_effect : Seen → StackEffect
pop_effect absent = move_effect 4 4 8
pop_effect (register r) = pop_from 4 r.number
pop_effect (immediate n) = move_effect 4 4 8
pop_effect (memory a d) = record (move_effect 4 4 8) { stores = store_to 8 (option_map risen (place_on a d)) }
pop_effect (target d) = move_effect 4 4 8

-- of a pop of another size: rsp moves as in one of 64 bits, and a register is written, with what is not followed
abbrev pub pop_word_effect : Seen → StackEffect
pop_word_effect absent = move_effect 4 4 8
pop_word_effect (register r) = record (move_effect 4 4 8) { written = λ q. (q == 4) || (q == r.number) }
pop_word_effect (immediate n) = move_effect 4 4 8
pop_word_effect (memory a d) = move_effect 4 4 8
pop_word_effect (target d) = move_effect 4 4 8

-- of a move into a register
abbrev pub move_from : ℕ → Seen → StackEffect
move_from to absent = written_effect to
move_from to (register r) = move_effect to r.number 0
move_from to (immediate n) = written_effect to
move_from to (memory a d) = record (written_effect to) { loads = option_map (load_of to) (place_on a d) }
move_from to (target d) = written_effect to

-- of a move
abbrev pub mov_effect : (to from : Seen) → StackEffect
mov_effect absent from = no_effect
mov_effect (register r) from = move_from r.number from
mov_effect (immediate n) from = no_effect
mov_effect (memory a d) from = record no_effect { stores = store_to 8 (place_on a d); saves = register_in from }
mov_effect (target d) from = no_effect

-- where bytes are stored
abbrev pub store_of : Stored → Store
store_of nowhere = none
store_of (in_operand a d n) = store_to n (place_on a d)
store_of (on_stack n) = based 4 (2 ^ 64 - n) n
store_of anywhere = unfollowed

-- what the analysis follows of an instruction
abbrev pub effect_of : Action → StackEffect
effect_of (push o) = push_effect (register_in o)
effect_of push_flags = push_effect None
effect_of (pop o) = pop_effect o
effect_of pop_flags = move_effect 4 4 8
effect_of push_word = push_effect None
effect_of (pop_word o) = pop_word_effect o
effect_of leave = pop_from 5 5
effect_of (mov to from) = mov_effect to from
effect_of (lea to a d) = move_by to (offset_on a d)
effect_of (plus to n) = move_by to (option_map (λ k. record { base = to; displacement = k }) n)
effect_of (jump d falls written) = record no_effect { written = written }
effect_of call = record no_effect { stores = based 4 (2 ^ 64 - 8) 8; calls = true }
effect_of ends = no_effect
effect_of (other written stored) = record no_effect { written = written; stores = store_of stored }
