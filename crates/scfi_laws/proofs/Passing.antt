-- What a kept step does to the seven registers and to memory, be it a call or not.
use Rattle.std.proofs.Common.{◌≡◌, ℕ, ◌<◌, Bool, true, false, Option, Some, None, refl, sym, subst}
use Rattle.insn_effects.specs.declared.effects.Role.{Role}
use Rattle.insn_effects.specs.declared.effects.Role.TheVariants as role
use Rattle.insn_effects.specs.declared.effects.Effect.{Effect}
use Rattle.insn_effects.specs.Followed.{FollowedStore, Followed, followed_by, calls_by, moves_by, stores_by, loads_by}
use Rattle.stack_depths.specs.Distances.{has_bit}
use Rattle.stack_facts.specs.Places.{is_saved, moves_to}
use Rattle.scfi_pass.specs.Tables.{Analyzed}
use Rattle.x86_steps.specs.States.{State}
use Rattle.scfi_laws.specs.Performing.{held, PerformsMove, PerformsLoad, PerformsStore, PerformsSave, PerformsUnless}
use Rattle.scfi_laws.specs.Executions.{KeepsAt}

-- a call stores, but saves no register
abbrev pub SavesNone : Option FollowedStore → Type 0
SavesNone None = Unit {0}
SavesNone (Some to) = is_saved to.register ≡ false

-- of a call no move and no load is followed
pub record IsStill (r : Role) (e : Effect) : Type 0 where
  pub moves : moves_by r e ≡ None
  pub loads : loads_by r e ≡ None
  pub saves : SavesNone (stores_by r e)

call_is_still : (r : Role) (e : Effect) → calls_by r ≡ true → IsStill r e
call_is_still role.Call e h = record { moves = refl; loads = refl; saves = refl }
call_is_still role.CallThrough e h = record { moves = refl; loads = refl; saves = refl }
call_is_still _ e h = cc

-- a store is one, but where the step is a call
abbrev pub StoresUnless : Bool → Option FollowedStore → State → State → Type 0
StoresUnless true to s t = Unit {0}
StoresUnless false to s t = PerformsStore to s t

-- what a step does
pub record Passes (e : Followed) (s t : State) : Type 0 where
  pub moves : PerformsMove e.moves s t
  pub kept : (q : ℕ) → q < 7 → moves_to e.moves q ≡ false → has_bit e.written q ≡ false → held t q ≡ held s q
  pub loads : PerformsLoad e.loads s t
  pub stores : StoresUnless e.calls e.stores s t
  pub saves : PerformsSave e.stores s t

saves_none : (to : Option FollowedStore) (s t : State) → SavesNone to → PerformsSave to s t
saves_none None s t h = tt
saves_none (Some to) s t h = λ is. absurd (let none : ⊥ = cc in none)

-- a kept step of an item passes so
pub passes : (c : Bool) (x : Effect) (a : Analyzed) (start s t : State) → (followed_by x).calls ≡ c → PerformsUnless c (followed_by x) s t → KeepsAt c (followed_by x) a start s t
    → Passes (followed_by x) s t
passes true x a start s t is does keeps =
    let still = call_is_still x.role x is in
    record {
      moves = subst (λ m. PerformsMove m s t) (sym still.moves) tt;
      kept = λ q low moved written. keeps.registers q low;
      loads = subst (λ l. PerformsLoad l s t) (sym still.loads) tt;
      stores = subst (λ b. StoresUnless b (followed_by x).stores s t) (sym is) tt;
      saves = saves_none (stores_by x.role x) s t still.saves;
    }
passes false x a start s t is does keeps = record {
  moves = does.moves;
  kept = does.kept;
  loads = does.loads;
  stores = subst (λ b. StoresUnless b (followed_by x).stores s t) (sym is) does.stores;
  saves = does.saves;
}
