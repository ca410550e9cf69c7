-- What is said of a step but for its places, and steps that do nothing.
use Rattle.std.proofs.Common.{◌≡◌, ◌+◌, ℕ, Bool, true, false, Option, Some, None, refl, sym, subst, ◌∙◌}
use Rattle.insn_effects.specs.declared.effects.Role.{Role}
use Rattle.insn_effects.specs.declared.effects.Role.TheVariants as role
use Rattle.insn_effects.specs.declared.effects.Effect.{Effect}
use Rattle.insn_effects.specs.Followed.{FollowedMove, FollowedStore, FollowedLoad, Followed, followed_by, moves_by, stores_by, loads_by, calls_by, is_padding}
use Rattle.stack_facts.specs.declared.values.Span.{Span}
use Rattle.stack_facts.specs.Places.{stored_by}
use Rattle.stack_facts.specs.Facts.{Fact}
use Rattle.scfi_pass.specs.Faults.{at_exit}
use Rattle.scfi_pass.specs.Tables.{Analyzed}
use Rattle.x86_steps.specs.States.{State}
use Rattle.scfi_laws.specs.Performing.{PerformsMove, PerformsLoad, PerformsStore, PerformsSave, PerformsUnless, Performs, SameFollowed}
use Rattle.scfi_laws.specs.Executions.{frame_address, KeepsUnless, KeepsAt, Keeps}
use Rattle.scfi_laws.specs.ByteExecutions.{at}
use Rattle.scfi_laws.proofs.Words.{same_memory}

-- a move, a load, a store and a save are of registers and memory alone
moves_at : (m : Option FollowedMove) (i j : ℕ) (s t : State) → PerformsMove m s t → PerformsMove m (at i s) (at j t)
moves_at None i j s t h = tt
moves_at (Some m) i j s t h = h

loads_at : (l : Option FollowedLoad) (i j : ℕ) (s t : State) → PerformsLoad l s t → PerformsLoad l (at i s) (at j t)
loads_at None i j s t h = tt
loads_at (Some l) i j s t h = h

stores_at : (to : Option FollowedStore) (i j : ℕ) (s t : State) → PerformsStore to s t → PerformsStore to (at i s) (at j t)
stores_at None i j s t h = tt
stores_at (Some to) i j s t h = h

saves_at : (to : Option FollowedStore) (i j : ℕ) (s t : State) → PerformsSave to s t → PerformsSave to (at i s) (at j t)
saves_at None i j s t h = tt
saves_at (Some to) i j s t h = h

-- so is a step
pub performs_at : (c : Bool) (e : Followed) (i j : ℕ) (s t : State) → PerformsUnless c e s t → PerformsUnless c e (at i s) (at j t)
performs_at true e i j s t h = tt
performs_at false e i j s t h = record {
  moves = moves_at e.moves i j s t h.moves;
  kept = h.kept;
  loads = loads_at e.loads i j s t h.loads;
  stores = stores_at e.stores i j s t h.stores;
  saves = saves_at e.stores i j s t h.saves;
}

unless_at : (o : Option Span) (stands : Fact → Bool) (start : State) (i j k : ℕ) (s t : State) → KeepsUnless o stands start (at i s) (at j t) → KeepsUnless o stands start (at i s) (at k t)
unless_at None stands start i j k s t h = record { return_address = h.return_address; slots = h.slots }
unless_at (Some span) stands start i j k s t h = tt

-- what a step keeps that is no call is the same wherever it leads
pub keeps_elsewhere : (c : Bool) (e : Followed) (a : Analyzed) (start : State) (i j k : ℕ) (s t : State) → c ≡ false → KeepsAt c e a start (at i s) (at j t) → KeepsAt c e a start (at i s) (at k t)
keeps_elsewhere true e a start i j k s t is h = cc
keeps_elsewhere false e a start i j k s t is h = unless_at (stored_by e.stores (a.distances i)) (a.facts i) start i j k s t h

pub same_self : (s : State) → SameFollowed s s
same_self s = record { registers = λ q low. refl; memory = λ b. refl }

pub same_on : (s t u : State) → SameFollowed s t → SameFollowed t u → SameFollowed s u
same_on s t u h k = record { registers = λ q low. k.registers q low ∙ h.registers q low; memory = λ b. k.memory b ∙ h.memory b }

-- of padding nothing is followed, but registers that may be written
record IsNothing (r : Role) (e : Effect) : Type 0 where
  moves : moves_by r e ≡ None
  stores : stores_by r e ≡ None
  loads : loads_by r e ≡ None
  calls : calls_by r ≡ false

padding_is_nothing : (r : Role) (e : Effect) → is_padding r ≡ true → IsNothing r e
padding_is_nothing role.Padding e is = record { moves = refl; stores = refl; loads = refl; calls = refl }
padding_is_nothing _ e is = cc

-- it is passed with the same registers and memory
pub idle_performs : (x : Effect) (s t : State) → is_padding x.role ≡ true → SameFollowed s t → Performs (followed_by x) s t
idle_performs x s t is same =
    let none = padding_is_nothing x.role x is in
    subst (λ c. PerformsUnless c (followed_by x) s t) (sym none.calls) (record {
      moves = subst (λ m. PerformsMove m s t) (sym none.moves) tt;
      kept = λ q low _ _. same.registers q low;
      loads = subst (λ l. PerformsLoad l s t) (sym none.loads) tt;
      stores = subst (λ to. PerformsStore to s t) (sym none.stores) tt;
      saves = subst (λ to. PerformsSave to s t) (sym none.stores) tt;
    })

pub idle_keeps : (x : Effect) (a : Analyzed) (start s t : State) → is_padding x.role ≡ true → SameFollowed s t → Keeps (followed_by x) a start s t
idle_keeps x a start s t is same =
    let none = padding_is_nothing x.role x is in
    subst (λ c. KeepsAt c (followed_by x) a start s t) (sym none.calls)
    (subst (λ to. KeepsUnless (stored_by to (a.distances s.place)) (a.facts s.place) start s t) (sym none.stores) (record {
      return_address = same_memory s.memory t.memory (frame_address start + at_exit) same.memory;
      slots = λ n r stands. same_memory s.memory t.memory (frame_address start + n) same.memory;
    }))
