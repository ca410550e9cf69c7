-- Each fault of an item is told or not, and so the item has a first fault or none.
use Rattle.std.proofs.Common.{◌≡◌, ◌≢◌, ◌<◌, ◌≤◌, ◌⊎◌, inl, inr, ℕ, ℤ, true, false, Option, Some, None, refl, arith}
use Rattle.std.specs.Option.{option_map}
use Rattle.asm_base.specs.declared.faults.ScfiFault.{ScfiFault}
use Rattle.asm_base.specs.declared.faults.ScfiFault.TheVariants as scfi
use Rattle.asm_base.specs.declared.faults.SavedRegister.{SavedRegister}
use Rattle.insn_effects.specs.Followed.{stores_by, calls_by, is_data, unsupported_by}
use Rattle.stack_facts.specs.Places.{stored_by, is_saved}
use Rattle.stack_facts.specs.Facts.{entry, is_touched}
use Rattle.scfi_pass.specs.Registers.{number_of}
use Rattle.scfi_pass.specs.Rows.{cfa_of, signed}
use Rattle.scfi_pass.specs.Faults.{Situation, at_exit, stack_after, stands_after, IsLost, IsFirstOf, is_return, Overwrites, IsChangedAfter, is_beyond, IsFar, IsTold, rank_of, IsSound, IsFirst}
use Rattle.synthesis_laws.proofs.SameRows.{ArePlaced}
use Rattle.synthesis_laws.proofs.Decided.{Decided, is_met, is_failed, is_there, both, either, neither, first_below}
use Rattle.synthesis_laws.proofs.SomeRules.{saved_low}
use Rattle.synthesis_laws.proofs.SomeFault as some

module _ (s : Situation) where
  -- what is decided of a product of three
  three : {P Q R : Type 0} → Decided P → Decided Q → Decided R → Decided (P × Q × R)
  three (inl p) (inl q) (inl r) = inl (p, q, r)
  three (inr never) q r = inr (λ x. never x.0)
  three (inl p) (inr never) r = inr (λ x. never x.1)
  three (inl p) (inl q) (inr never) = inr (λ x. never x.2)

  -- the return address is overwritten or not
  is_overwritten : Decided (Overwrites s)
  is_overwritten = either (is_met (is_touched (stored_by (stores_by s.item.effect.role s.item.effect) s.known) at_exit))
      (both (is_failed (is_return s.item.effect.role)) (some.is_above s (stack_after s)))

  -- the distance with which the function is left, or that it is restored
  is_unrestored : ((d : Option ℤ) × IsTold s (scfi.StackNotRestored d)) ⊎ ((d : Option ℤ) → IsTold s (scfi.StackNotRestored d) → ⊥)
  is_unrestored = by (both (is_met s.node.exits) (neither (is_there (s.known 0) at_exit)))
    where
      by : Decided ((s.node.exits ≡ true) × (s.known 0 ≢ Some at_exit))
          → ((d : Option ℤ) × IsTold s (scfi.StackNotRestored d)) ⊎ ((d : Option ℤ) → IsTold s (scfi.StackNotRestored d) → ⊥)
      by (inl is) = inl (option_map signed (s.known 0), (is.0, is.1, refl))
      by (inr never) = inr (λ d told. never (told.0, told.1))

  -- the first register that is not restored, or that all are
  is_changed : ((r : SavedRegister) × IsTold s (scfi.RegisterNotRestored r)) ⊎ ((r : SavedRegister) → IsTold s (scfi.RegisterNotRestored r) → ⊥)
  is_changed = by (is_met s.node.exits) (some.first_or_none s (λ q. s.stands (entry q) ≡ false) (λ q. is_failed (s.stands (entry q))))
    where
      Changed : ℕ → Type 0
      Changed q = s.stands (entry q) ≡ false

      by : Decided (s.node.exits ≡ true)
          → ((r : SavedRegister) × IsFirstOf Changed (number_of r)) ⊎ ((r : SavedRegister) → IsFirstOf Changed (number_of r) → ⊥)
          → ((r : SavedRegister) × IsTold s (scfi.RegisterNotRestored r)) ⊎ ((r : SavedRegister) → IsTold s (scfi.RegisterNotRestored r) → ⊥)
      by (inl exits) (inl found) = inl (found.0, (exits, found.1))
      by (inl exits) (inr none) = inr (λ r told. none r told.1)
      by (inr never) found = inr (λ r told. never told.0)

  -- a register is changed after the item or not
  is_lost_after : Decided ((r : ℕ) × (is_saved r ≡ true) × (stands_after s (entry r) ≡ false))
  is_lost_after = by (first_below Lost (λ r. both (is_met (is_saved r)) (is_failed (stands_after s (entry r)))) 7)
    where
      Lost : ℕ → Type 0
      Lost r = (is_saved r ≡ true) × (stands_after s (entry r) ≡ false)

      by : ((n : ℕ) × (n < 7) × Lost n × ((m : ℕ) → m < n → Lost m → ⊥)) ⊎ ((n : ℕ) → n < 7 → Lost n → ⊥)
          → Decided ((r : ℕ) × (is_saved r ≡ true) × (stands_after s (entry r) ≡ false))
      by (inl found) = inl (found.0, found.2.0, found.2.1)
      by (inr none) = inr (λ lost. none lost.0 (saved_low lost.0 lost.1) (lost.1, lost.2))

  -- control runs past the end or not
  is_past : Decided (IsTold s scfi.RunsPastEnd)
  is_past = by (three (is_met s.last) (is_met s.node.falls) (is_failed (calls_by s.item.effect.role)))
      (either (neither (is_there (stack_after s) at_exit)) is_lost_after)
    where
      by : Decided ((s.last ≡ true) × (s.node.falls ≡ true) × (calls_by s.item.effect.role ≡ false)) → Decided (IsChangedAfter s) → Decided (IsTold s scfi.RunsPastEnd)
      by (inl runs) (inl changed) = inl (runs.0, runs.1, runs.2, changed)
      by (inl runs) (inr never) = inr (λ told. never told.3)
      by (inr never) changed = inr (λ told. never (told.0, told.1, told.2))

  -- a known distance is beyond the bounds or not
  is_beyond_there : (o : Option ℕ) → Decided ((d : ℕ) × (o ≡ Some d) × (is_beyond d ≡ true))
  is_beyond_there None = inr (λ x. let is = x.1 in cc)
  is_beyond_there (Some k) = by (is_met (is_beyond k))
    where
      other : (d : ℕ) → (is_beyond k ≡ true → ⊥) → Some k ≡ Some d → is_beyond d ≡ true → ⊥
      other d never is far = let same : k ≡ d = cc in let none : is_beyond k ≡ is_beyond d = cc in never cc

      by : Decided (is_beyond k ≡ true) → Decided ((d : ℕ) × (Some k ≡ Some d) × (is_beyond d ≡ true))
      by (inl far) = inl (k, refl, far)
      by (inr never) = inr (λ x. other x.0 never x.1 x.2)

  -- one of the seven is
  is_far : Decided (IsFar s.known)
  is_far = by (first_below Far (λ q. is_beyond_there (s.known q)) 7)
    where
      Far : ℕ → Type 0
      Far q = (d : ℕ) × (s.known q ≡ Some d) × (is_beyond d ≡ true)

      by : ((n : ℕ) × (n < 7) × Far n × ((m : ℕ) → m < n → Far m → ⊥)) ⊎ ((n : ℕ) → n < 7 → Far n → ⊥) → Decided (IsFar s.known)
      by (inl found) = inl (found.0, found.2.0, found.1, found.2.1, found.2.2)
      by (inr none) = inr (λ far. none far.0 far.2 (far.1, far.3, far.4))

  -- the item has a first fault, or none is told of it
  pub fault_or_sound : ArePlaced s.stands → ((fault : ScfiFault) × IsFirst s fault) ⊎ IsSound s
  fault_or_sound placed = by eleven
    where
      none : some.Searched s 1
      none = inr (λ fault told. (some.ranked s fault).0)

      three_ranks : some.Searched s 4
      three_ranks = some.searched s 3 (some.searched s 2 (some.searched s 1 none (some.told_frame s (some.is_none s (cfa_of s.known))))
          (some.told_lost s (some.first_or_none s (IsLost s.stands) (some.is_lost s placed)))) (some.told_overwritten s is_overwritten)

      seven_ranks : some.Searched s 8
      seven_ranks = some.searched s 7 (some.searched s 6 (some.searched s 5 (some.searched s 4 three_ranks (some.told_stack s is_unrestored)) (some.told_register s is_changed))
          (some.told_jump s (is_met s.node.untraced))) (some.told_call s (is_met s.node.calls_inside))

      eleven : some.Searched s 12
      eleven = some.searched s 11 (some.searched s 10 (some.searched s 9 (some.searched s 8 seven_ranks (some.told_data s (is_met (is_data s.item.effect.role)))) (some.told_end s is_past))
          (some.told_use s (is_met (unsupported_by s.item.effect.role)))) (some.told_far s is_far)

      by : some.Searched s 12 → ((fault : ScfiFault) × IsFirst s fault) ⊎ IsSound s
      by (inl found) = inl found
      by (inr low) = inr (λ fault told. let above : 12 ≤ rank_of fault = low fault told in let under = (some.ranked s fault).1 in let never : ⊥ = omega arith in never)
