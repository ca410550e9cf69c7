-- Items that jump fit what they are in bytes.
use Rattle.std.proofs.Common.{◌≡◌, ℕ, ◌<◌, Bool, true, false, cond, Option, Some, None, length, refl, arith}
use Rattle.item_bytes.specs.declared.jumps.Condition.{Condition}
use Rattle.item_bytes.specs.declared.jumps.Condition.TheVariants.{Overflow, NoOverflow, Below, AboveOrEqual, Equal, NotEqual, BelowOrEqual, Above, Sign, NoSign, Parity, NoParity, Less, GreaterOrEqual, LessOrEqual, Greater}
use Rattle.item_bytes.specs.Jumps.{is_conditional, jump_bytes}
use Rattle.x86_insn.specs.Views.{Seen, absent, register, immediate, memory, target}
use Rattle.insn_effects.specs.declared.effects.Role.{Role}
use Rattle.insn_effects.specs.declared.effects.Role.TheVariants as role
use Rattle.insn_effects.specs.Flows.{onward, jumps, returns, stops, jump_flow, call_flow, flow_of}
use Rattle.insn_effects.specs.Followed.{flow_by, calls_by}
use Rattle.step_readings.specs.Jumps.{jump_of}
use Rattle.code_functions.specs.declared.items.CodeItem.{CodeItem}
use Rattle.flow_graph.specs.declared.nodes.Node.{Node}
use Rattle.scfi_laws.specs.Laid.{Fits, IsInstruction}
use Rattle.target_laws.specs.Jumps.{jump_kind}

-- where control goes from a direct jump
pub jump_goes : (condition : Option Condition) → flow_of (jump_of condition) ≡ jumps (is_conditional condition)
jump_goes None = refl
jump_goes (Some Overflow) = refl
jump_goes (Some NoOverflow) = refl
jump_goes (Some Below) = refl
jump_goes (Some AboveOrEqual) = refl
jump_goes (Some Equal) = refl
jump_goes (Some NotEqual) = refl
jump_goes (Some BelowOrEqual) = refl
jump_goes (Some Above) = refl
jump_goes (Some Sign) = refl
jump_goes (Some NoSign) = refl
jump_goes (Some Parity) = refl
jump_goes (Some NoParity) = refl
jump_goes (Some Less) = refl
jump_goes (Some GreaterOrEqual) = refl
jump_goes (Some LessOrEqual) = refl
jump_goes (Some Greater) = refl

-- its bytes are some
pub some_bytes : (condition : Option Condition) (near : Bool) (distance : ℕ) → 0 < length (jump_bytes condition near distance)
unfolding jump_bytes
some_bytes None true distance = omega arith
some_bytes None false distance = omega arith
some_bytes (Some condition) true distance = omega arith
some_bytes (Some condition) false distance = omega arith

-- what jumps is no call
no_call : (r : Role) (falls : Bool) → flow_by r ≡ jumps falls → calls_by r ≡ true → ⊥
no_call role.Other falls goes is = cc
no_call role.Move falls goes is = cc
no_call role.Push falls goes is = cc
no_call role.Pop falls goes is = cc
no_call role.PopMemory falls goes is = cc
no_call role.PopStack falls goes is = cc
no_call role.PushWord falls goes is = cc
no_call role.PopWord falls goes is = cc
no_call role.Store falls goes is = cc
no_call role.Load falls goes is = cc
no_call role.Leave falls goes is = cc
no_call role.Jump falls goes is = cc
no_call role.JumpThrough falls goes is = cc
no_call role.Branch falls goes is = cc
no_call role.Call falls goes is = cc
no_call role.CallThrough falls goes is = cc
no_call role.Return falls goes is = cc
no_call role.ReturnPopping falls goes is = cc
no_call role.Stop falls goes is = cc
no_call role.Padding falls goes is = cc
no_call role.Data falls goes is = cc

-- an item that jumps is an instruction, and an exit where its node says so
pub jump_fits : (item : CodeItem) (node : Node) (falls : Bool) (bytes : ℕ) → flow_by item.effect.role ≡ jumps falls → 0 < bytes → Fits (jump_kind node.exits bytes) item node
jump_fits item node falls bytes goes some = by node.exits refl
  where
    insn : IsInstruction bytes item node
    insn = record { some = some; calls = λ called. absurd (no_call item.effect.role falls goes called) }

    by : (exits : Bool) → node.exits ≡ exits → Fits (jump_kind exits bytes) item node
    by true exits = (insn, record { falls = falls; jump = goes; exits = exits })
    by false stays = insn

-- what control goes from by a direct jump has a target first
pub has_target : (jmp branch call ret stop : Bool) (first : Seen) (falls : Bool)
    → cond jmp (jump_flow first false) (cond branch (jump_flow first true) (cond call (call_flow first) (cond ret returns (cond stop stops onward)))) ≡ jumps falls
    → (distance : Option ℕ) × (first ≡ target distance)
has_target true branch call ret stop absent falls is = absurd cc
has_target true branch call ret stop (register r) falls is = absurd cc
has_target true branch call ret stop (immediate n) falls is = absurd cc
has_target true branch call ret stop (memory a d) falls is = absurd cc
has_target true branch call ret stop (target d) falls is = (d, refl)
has_target false true call ret stop absent falls is = absurd cc
has_target false true call ret stop (register r) falls is = absurd cc
has_target false true call ret stop (immediate n) falls is = absurd cc
has_target false true call ret stop (memory a d) falls is = absurd cc
has_target false true call ret stop (target d) falls is = (d, refl)
has_target false false true ret stop absent falls is = absurd cc
has_target false false true ret stop (register r) falls is = absurd cc
has_target false false true ret stop (immediate n) falls is = absurd cc
has_target false false true ret stop (memory a d) falls is = absurd cc
has_target false false true ret stop (target d) falls is = absurd cc
has_target false false false true stop first falls is = absurd cc
has_target false false false false true first falls is = absurd cc
has_target false false false false false first falls is = absurd cc
