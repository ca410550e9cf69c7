-- Where control goes from an instruction, and which uses of the stack are not supported.
use Rattle.std.specs.Prelude.{◌==◌, ◌&&◌, ◌||◌, ℕ, Bool, true, false, not, if◌then◌else◌}
use Rattle.x86_insn.specs.Views.{Seen, absent, register, immediate, memory, target, View}
use Rattle.x86_table.specs.declared.mnemonics.integers.TheConstants.{CALL, HLT, JMP, POP, PUSH, RET, UD2}
use Rattle.insn_effects.specs.Decoding.{is_branch}

-- to the next instruction; to a target, and perhaps to the next instruction too; to the next one, after a call of a target; to what a register or memory
-- holds; back to the caller; nowhere
pub data Flow : Type 0 where
  onward : Flow
  jumps : (falls : Bool) → Flow
  calls : Flow
  through : Flow
  returns : Flow
  stops : Flow

-- a direct jump, or one to what a register or memory holds
abbrev pub jump_flow : Seen → (falls : Bool) → Flow
jump_flow absent falls = through
jump_flow (register r) falls = through
jump_flow (immediate n) falls = through
jump_flow (memory a d) falls = through
jump_flow (target d) falls = jumps falls

-- a direct call, or one of what a register or memory holds
abbrev pub call_flow : Seen → Flow
call_flow absent = onward
call_flow (register r) = onward
call_flow (immediate n) = onward
call_flow (memory a d) = onward
call_flow (target d) = calls

-- where control goes
abbrev pub flow_of : View → Flow
flow_of v =
    if v.name.0 == JMP then jump_flow v.first false else (if is_branch v.name.0 then jump_flow v.first true
    else (if v.name.0 == CALL then call_flow v.first else (if v.name.0 == RET then returns
    else (if (v.name.0 == UD2) || (v.name.0 == HLT) then stops else onward))))

-- there is no operand
abbrev pub is_absent : Seen → Bool
is_absent absent = true
is_absent (register r) = false
is_absent (immediate n) = false
is_absent (memory a d) = false
is_absent (target d) = false

-- the operand is rsp, or a part of it
abbrev pub is_rsp : Seen → Bool
is_rsp absent = false
is_rsp (register r) = r.number == 4
is_rsp (immediate n) = false
is_rsp (memory a d) = false
is_rsp (target d) = false

-- of 64 bits `pop %rsp`, and of others any push or pop
abbrev pub is_unsupported_of : (name : ℕ) → (wide : Bool) → Seen → Bool
is_unsupported_of name true first = (name == POP) && is_rsp first
is_unsupported_of name false first = (name == PUSH) || (name == POP)

-- a return that takes bytes off the stack, `pop %rsp`, a 16-bit push or pop
abbrev pub is_unsupported : View → Bool
is_unsupported v = if v.name.0 == RET then not (is_absent v.first) else is_unsupported_of v.name.0 (v.size == 64) v.first
