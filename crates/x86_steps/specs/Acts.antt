-- What an effect says of a step, and that it is so.
use Rattle.std.specs.Prelude.{◌≡◌, ◌<◌, ◌+◌, ◌==◌, ◌||◌, ℕ, Bool, true, false, Option, None, Some}
use Rattle.x86_insn.specs.Views.{View}
use Rattle.insn_effects.specs.Actions.{Action, push, push_flags, pop, pop_flags, push_word, pop_word, leave, mov, lea, plus, jump, call, ends, other}
use Rattle.insn_effects.specs.Decoding.{action_of}
use Rattle.insn_effects.specs.Effects.{Move, Load, Store, none, based, unfollowed, StackEffect, effect_of}
use Rattle.insn_effects.specs.Flows.{is_rsp, is_unsupported}
use Rattle.insn_effects.specs.Followed.{wrap}
use Rattle.x86_steps.specs.Memory.{word_at, SameMemory, SameOutside}
use Rattle.x86_steps.specs.States.{State, IsRanged}
use Rattle.x86_steps.specs.Steps.{Changes}

-- rsp and the callee-saved registers: rbx, rbp and r12 to r15 (psABI for AMD64, section 3.2.1)
abbrev pub is_tracked : ℕ → Bool
is_tracked q = (q == 4) || (q == 3) || (q == 5) || (q == 12) || (q == 13) || (q == 14) || (q == 15)

-- the register gets what the base held, and a number more
abbrev pub MovesBy : Option Move → State → State → Type 0
MovesBy None s t = Unit {0}
MovesBy (Some m) s t = t.registers m.to ≡ wrap (s.registers m.base + m.add)

-- the register gets what stood there, and counts as written
abbrev pub LoadsBy : Option Load → (ℕ → Bool) → State → State → Type 0
LoadsBy None written s t = Unit {0}
LoadsBy (Some l) written s t =
    (t.registers l.register ≡ word_at s.memory (s.registers l.base + l.displacement))
    × (written l.register ≡ true)

-- other bytes stay
abbrev pub StoresBy : Store → State → State → Type 0
StoresBy none s t = SameMemory s.memory t.memory
StoresBy (based base displacement size) s t =
    SameOutside (s.registers base + displacement) size s.memory t.memory
StoresBy unfollowed s t = Unit {0}

-- what the register held stands there after the step, and the store has bytes: those that save are
-- of 8
abbrev pub SavesAt : Store → ℕ → State → State → Type 0
SavesAt none r s t = Unit {0}
SavesAt (based b d n) r s t = (word_at t.memory (s.registers b + d) ≡ s.registers r) × (0 < n)
SavesAt unfollowed r s t = Unit {0}

-- the same of a register that is saved, if one is
abbrev pub SavesBy : Option ℕ → Store → State → State → Type 0
SavesBy None to s t = Unit {0}
SavesBy (Some r) to s t = SavesAt to r s t

-- the step is one of this effect. Only tracked registers have to stay: `66 90`, padding of two
-- bytes, reads as an exchange of ax with itself, which writes rax
pub record Acted (e : StackEffect) (s t : State) : Type 0 where
  pub moves : MovesBy e.moves s t
  pub kept : (q : ℕ) → is_tracked q ≡ true → e.written q ≡ false → t.registers q ≡ s.registers q
  pub loads : LoadsBy e.loads e.written s t
  pub stores : StoresBy e.stores s t
  pub saves : SavesBy e.saves e.stores s t

-- nothing is followed
pub record IsUnfollowed (e : StackEffect) : Type 0 where
  pub moves : e.moves ≡ None
  pub loads : e.loads ≡ None
  pub saves : e.saves ≡ None

-- a call may do anything
abbrev pub ActsUnless : Bool → StackEffect → State → State → Type 0
ActsUnless true e s t = IsUnfollowed e
ActsUnless false e s t = Acted e s t

-- the step is one of this effect, which may be a call
abbrev pub Acts : StackEffect → State → State → Type 0
Acts e s t = ActsUnless e.calls e s t

-- the instruction is neither `pop %rsp` nor a push or pop of 16 bits: the effects of these have rsp
-- 8 higher or lower, which it is not
abbrev pub IsSupportedUse : Action → Type 0
IsSupportedUse (push o) = Unit {0}
IsSupportedUse push_flags = Unit {0}
IsSupportedUse (pop o) = is_rsp o ≡ false
IsSupportedUse pop_flags = Unit {0}
IsSupportedUse push_word = ⊥
IsSupportedUse (pop_word o) = ⊥
IsSupportedUse leave = Unit {0}
IsSupportedUse (mov to from) = Unit {0}
IsSupportedUse (lea to a d) = Unit {0}
IsSupportedUse (plus to n) = Unit {0}
IsSupportedUse (jump d falls written) = Unit {0}
IsSupportedUse call = Unit {0}
IsSupportedUse ends = Unit {0}
IsSupportedUse (other written stored) = Unit {0}

-- whatever an instruction does is of its effect
abbrev pub EffectsHold : Type 0
EffectsHold = (insn : Action) (s t : State) → IsRanged s → IsSupportedUse insn → Changes insn s t
    → Acts (effect_of insn) s t

-- a use of the stack that counts as supported is one
abbrev pub SupportedUsesAre : Type 0
SupportedUsesAre = (v : View) → is_unsupported v ≡ false → IsSupportedUse (action_of v)
