-- What the instructions of the table do, by their names, sizes and operands.
use Rattle.std.specs.Prelude.{◌-◌, ◌^◌, ◌==◌, ◌&&◌, ◌||◌, ℕ, nat_le, Bool, true, false, option_map, if◌then◌else◌}
use Rattle.x86_insn.specs.Views.{Seen, absent, register, immediate, memory, target, View}
use Rattle.x86_lookup.specs.declared.writing.Store.{Store}
use Rattle.x86_lookup.specs.declared.writing.Store.TheVariants as store
use Rattle.x86_lookup.specs.Writing.{writes_general}
use Rattle.x86_table.specs.declared.mnemonics.integers.TheConstants.{ADD, CALL, HLT, JG, JMP, JO, JRCXZ, LEA, LEAVE, LOOPNE, MOV, POP, POPF, PUSH, PUSHF, RET, SUB, UD2}
use Rattle.insn_effects.specs.Actions.{Stored, nowhere, in_operand, on_stack, anywhere, Action, push, push_flags, pop, pop_flags, push_word, pop_word, leave, mov, lea, plus, jump, call, ends, other}
use Rattle.insn_effects.specs.Listed.{writes_of}

-- so many bytes of an operand
abbrev pub stored_in : Seen → ℕ → Stored
stored_in absent n = nowhere
stored_in (register r) n = nowhere
stored_in (immediate d) n = nowhere
stored_in (memory a d) n = in_operand a d n
stored_in (target d) n = nowhere

-- where an instruction with this first operand stores
abbrev pub stored_by : Seen → Store → Stored
stored_by first store.Absent = nowhere
stored_by first (store.Operand n) = stored_in first n
stored_by first (store.Stack n) = on_stack n
stored_by first store.Unfixed = anywhere

-- any registers and bytes of the written list may change
abbrev pub by_writes : View → Action
by_writes v = other (writes_general (writes_of v)) (stored_by v.first (writes_of v).store)

-- a register gets an address
abbrev pub lea_of : Seen → Seen → Action → Action
lea_of (register r) (memory a d) rest = lea r.number a d
lea_of _ _ rest = rest

-- a register gets a number more
abbrev pub plus_of : Seen → Seen → (ℕ → ℕ) → Action → Action
plus_of (register r) (immediate n) amount rest = plus r.number (option_map amount n)
plus_of _ _ amount rest = rest

-- an operand of 64 bits is pushed, popped, moved, or gets an address or a sum
abbrev pub quad_action : ℕ → (first second : Seen) → Action → Action
quad_action name first second rest =
    if name == PUSH then push first else if name == POP then pop first
    else if name == PUSHF then push_flags else if name == POPF then pop_flags
    else if name == LEAVE then leave else if name == MOV then mov first second
    else if name == LEA then lea_of first second rest
    else if name == ADD then plus_of first second (λ n. n) rest
    else if name == SUB then plus_of first second (λ n. 2 ^ 64 - n) rest else rest

-- one of another size is pushed or popped
abbrev pub sized_action : ℕ → (first : Seen) → Action → Action
sized_action name first rest = if name == PUSH then push_word else if name == POP then pop_word first else rest

-- a direct jump; an indirect one ends what is followed
abbrev pub jump_to : Seen → (falls : Bool) → (written : ℕ → Bool) → Action
jump_to (target d) falls written = jump d falls written
jump_to _ falls written = ends

-- a jump with a condition, or one that counts in rcx
abbrev pub is_branch : ℕ → Bool
is_branch name = (nat_le JO name && nat_le name JG) || (nat_le LOOPNE name && nat_le name JRCXZ)

-- the instruction jumps, calls, or ends what is followed
abbrev pub flow_action : ℕ → Seen → (written : ℕ → Bool) → Action → Action
flow_action name first written rest =
    if name == JMP then jump_to first false written else if is_branch name then jump_to first true written
    else if name == CALL then call
    else if (name == RET) || ((name == UD2) || (name == HLT)) then ends else rest

-- what an instruction does
unfoldable pub action_of : View → Action
action_of v = flow_action v.name.0 v.first (writes_general (writes_of v))
    (if v.size == 64 then quad_action v.name.0 v.first v.second (by_writes v) else sized_action v.name.0 v.first (by_writes v))
