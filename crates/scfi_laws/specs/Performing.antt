-- What a step from one state to another does of that which is followed of an item: of the seven
-- registers, by their numbers among them, and of memory.
use Rattle.std.specs.Prelude.{◌≡◌, ◌+◌, ◌<◌, ℕ, Bool, true, false, Option, None, Some, get_or}
use Rattle.insn_effects.specs.declared.registers.TheConstants.{SEVEN}
use Rattle.insn_effects.specs.Effects.{StackEffect}
use Rattle.insn_effects.specs.Followed.{wrap, FollowedMove, FollowedStore, FollowedLoad, Followed, followed}
use Rattle.stack_depths.specs.Distances.{has_bit}
use Rattle.stack_facts.specs.Places.{is_saved, moves_to}
use Rattle.x86_steps.specs.Memory.{word_at, SameMemory, SameOutside}
use Rattle.x86_steps.specs.States.{State}
use Rattle.x86_steps.specs.Acts.{Acts}

-- the number in the processor of one of the seven registers
abbrev pub processor_number : ℕ → ℕ
processor_number q = get_or SEVEN q 0

-- what one of the seven holds
abbrev pub held : State → ℕ → ℕ
held s q = s.registers (processor_number q)

-- the register gets what the base held, and a number more
abbrev pub PerformsMove : Option FollowedMove → State → State → Type 0
PerformsMove None s t = Unit {0}
PerformsMove (Some m) s t = held t m.to ≡ wrap (held s m.base + m.add)

-- the register gets the 8 bytes that stood there
abbrev pub PerformsLoad : Option FollowedLoad → State → State → Type 0
PerformsLoad None s t = Unit {0}
PerformsLoad (Some l) s t = held t l.register ≡ word_at s.memory (held s l.base + l.displacement)

-- other bytes than these stay; where no store is followed any bytes may change
abbrev pub PerformsStore : Option FollowedStore → State → State → Type 0
PerformsStore None s t = Unit {0}
PerformsStore (Some to) s t =
    SameOutside (held s to.base + to.displacement) to.size s.memory t.memory

-- a callee-saved register that is stored stands there after the step
abbrev pub PerformsSave : Option FollowedStore → State → State → Type 0
PerformsSave None s t = Unit {0}
PerformsSave (Some to) s t = is_saved to.register ≡ true
    → word_at t.memory (held s to.base + to.displacement) ≡ held s to.register

-- the step does all that is followed, and no other of the seven registers changes
pub record Performed (e : Followed) (s t : State) : Type 0 where
  pub moves : PerformsMove e.moves s t
  pub kept : (q : ℕ) → q < 7 → moves_to e.moves q ≡ false → has_bit e.written q ≡ false
      → held t q ≡ held s q
  pub loads : PerformsLoad e.loads s t
  pub stores : PerformsStore e.stores s t
  pub saves : PerformsSave e.stores s t

-- a call may do anything
abbrev pub PerformsUnless : (calls : Bool) → Followed → State → State → Type 0
PerformsUnless true e s t = Unit {0}
PerformsUnless false e s t = Performed e s t

-- the step is one of an item of which this is followed
abbrev pub Performs : Followed → State → State → Type 0
Performs e s t = PerformsUnless e.calls e s t

-- a step of an effect does what is followed of the effect
abbrev pub EffectsAreFollowed : Type 0
EffectsAreFollowed = (e : StackEffect) (s t : State) → Acts e s t → Performs (followed e) s t

-- the seven registers and memory stay
pub record SameFollowed (s t : State) : Type 0 where
  pub registers : (q : ℕ) → q < 7 → held t q ≡ held s q
  pub memory : SameMemory s.memory t.memory
