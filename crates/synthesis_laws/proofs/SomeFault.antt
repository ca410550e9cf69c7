-- An item has a first fault, or none is told of it.
use Rattle.std.proofs.Common.{◌≡◌, ◌≢◌, ◌+◌, ◌<◌, ◌≤◌, ◌⊎◌, inl, inr, ℕ, true, Option, Some, None, ℤ, refl, sym, subst, arith}
use Rattle.std.proofs.lemmas.Bool.{cases_eq}
use Rattle.asm_base.specs.declared.faults.ScfiFault.{ScfiFault}
use Rattle.asm_base.specs.declared.faults.ScfiFault.TheVariants as scfi
use Rattle.asm_base.specs.declared.faults.SavedRegister.{SavedRegister}
use Rattle.stack_facts.specs.Places.{below, is_saved}
use Rattle.scfi_pass.specs.declared.rows.Cfa.{Cfa}
use Rattle.scfi_pass.specs.Registers.{number_of}
use Rattle.scfi_pass.specs.Rows.{IsRuleOf}
use Rattle.scfi_pass.specs.Faults.{Situation, at_exit, IsLost, IsFirstOf, IsAbove, IsTold, rank_of, IsFirst}
use Rattle.synthesis_laws.proofs.SameFaults.{saved}
use Rattle.synthesis_laws.proofs.SameRows.{ArePlaced}
use Rattle.synthesis_laws.proofs.Decided.{Decided, is_met}
use Rattle.synthesis_laws.proofs.SomeRules.{rule_or_lost, first_of_six}

module _ (s : Situation) where
  -- no fault of a rank below this one is told
  abbrev pub AtLeast : ℕ → Type 0
  AtLeast n = (fault : ScfiFault) → IsTold s fault → n ≤ rank_of fault

  -- none of this rank is told
  abbrev pub Clear : ℕ → Type 0
  Clear n = (fault : ScfiFault) → rank_of fault ≡ n → IsTold s fault → ⊥

  -- a fault is told, or none of its rank
  abbrev pub Told : ℕ → Type 0
  Told n = ((fault : ScfiFault) × (rank_of fault ≡ n) × IsTold s fault) ⊎ Clear n

  -- a fault without parameters
  pub told_frame : Decided (IsTold s scfi.FrameLost) → Told 1
  told_frame (inl told) = inl (scfi.FrameLost, refl, told)
  told_frame (inr never) = inr clear
    where
      clear : Clear 1
      clear scfi.FrameLost e told = never told
      clear _ e told = cc

  -- a register is lost
  pub told_lost : ((r : SavedRegister) × IsTold s (scfi.RegisterLost r)) ⊎ ((r : SavedRegister) → IsTold s (scfi.RegisterLost r) → ⊥) → Told 2
  told_lost (inl found) = inl (scfi.RegisterLost found.0, refl, found.1)
  told_lost (inr never) = inr clear
    where
      clear : Clear 2
      clear (scfi.RegisterLost r) e told = never r told
      clear _ e told = cc

  -- the return address is overwritten
  pub told_overwritten : Decided (IsTold s scfi.ReturnAddressOverwritten) → Told 3
  told_overwritten (inl told) = inl (scfi.ReturnAddressOverwritten, refl, told)
  told_overwritten (inr never) = inr clear
    where
      clear : Clear 3
      clear scfi.ReturnAddressOverwritten e told = never told
      clear _ e told = cc

  -- rsp is not restored
  pub told_stack : ((d : Option ℤ) × IsTold s (scfi.StackNotRestored d)) ⊎ ((d : Option ℤ) → IsTold s (scfi.StackNotRestored d) → ⊥) → Told 4
  told_stack (inl found) = inl (scfi.StackNotRestored found.0, refl, found.1)
  told_stack (inr never) = inr clear
    where
      clear : Clear 4
      clear (scfi.StackNotRestored d) e told = never d told
      clear _ e told = cc

  -- a register is not
  pub told_register : ((r : SavedRegister) × IsTold s (scfi.RegisterNotRestored r)) ⊎ ((r : SavedRegister) → IsTold s (scfi.RegisterNotRestored r) → ⊥) → Told 5
  told_register (inl found) = inl (scfi.RegisterNotRestored found.0, refl, found.1)
  told_register (inr never) = inr clear
    where
      clear : Clear 5
      clear (scfi.RegisterNotRestored r) e told = never r told
      clear _ e told = cc

  -- a jump is untraced
  pub told_jump : Decided (IsTold s scfi.UntraceableJump) → Told 6
  told_jump (inl told) = inl (scfi.UntraceableJump, refl, told)
  told_jump (inr never) = inr clear
    where
      clear : Clear 6
      clear scfi.UntraceableJump e told = never told
      clear _ e told = cc

  -- a call goes into the function
  pub told_call : Decided (IsTold s scfi.CallIntoFunction) → Told 7
  told_call (inl told) = inl (scfi.CallIntoFunction, refl, told)
  told_call (inr never) = inr clear
    where
      clear : Clear 7
      clear scfi.CallIntoFunction e told = never told
      clear _ e told = cc

  -- the item is no instruction
  pub told_data : Decided (IsTold s scfi.NotInstructions) → Told 8
  told_data (inl told) = inl (scfi.NotInstructions, refl, told)
  told_data (inr never) = inr clear
    where
      clear : Clear 8
      clear scfi.NotInstructions e told = never told
      clear _ e told = cc

  -- control runs past the end
  pub told_end : Decided (IsTold s scfi.RunsPastEnd) → Told 9
  told_end (inl told) = inl (scfi.RunsPastEnd, refl, told)
  told_end (inr never) = inr clear
    where
      clear : Clear 9
      clear scfi.RunsPastEnd e told = never told
      clear _ e told = cc

  -- the use of the stack is not supported
  pub told_use : Decided (IsTold s scfi.UnsupportedStackUse) → Told 10
  told_use (inl told) = inl (scfi.UnsupportedStackUse, refl, told)
  told_use (inr never) = inr clear
    where
      clear : Clear 10
      clear scfi.UnsupportedStackUse e told = never told
      clear _ e told = cc

  -- a distance is beyond the bounds
  pub told_far : Decided (IsTold s scfi.OffsetTooLarge) → Told 11
  told_far (inl told) = inl (scfi.OffsetTooLarge, refl, told)
  told_far (inr never) = inr clear
    where
      clear : Clear 11
      clear scfi.OffsetTooLarge e told = never told
      clear _ e told = cc

  -- a first fault, or none of a rank up to this one
  abbrev pub Searched : ℕ → Type 0
  Searched n = ((fault : ScfiFault) × IsFirst s fault) ⊎ AtLeast n

  -- a rank further on
  pub searched : (n : ℕ) → Searched n → Told n → Searched (n + 1)
  searched n (inl found) told = inl found
  searched n (inr low) (inl told) =
      let same : rank_of told.0 ≡ n = told.1 in
      inl (told.0, record { told = told.2; first = λ other is. subst (λ rank. rank ≤ rank_of other) (sym same) (low other is) })
  searched n (inr low) (inr clear) = inr (λ fault told. by fault told (cases_eq (rank_of fault) n))
    where
      by : (fault : ScfiFault) → IsTold s fault → (rank_of fault ≡ n) ⊎ (rank_of fault ≢ n) → n + 1 ≤ rank_of fault
      by fault told (inl same) = absurd (clear fault same told)
      by fault told (inr other) = let before = low fault told in omega arith

  -- there are eleven ranks
  pub ranked : (fault : ScfiFault) → (1 ≤ rank_of fault) × (rank_of fault < 12)
  ranked scfi.FrameLost = (omega arith, omega arith)
  ranked (scfi.RegisterLost r) = (omega arith, omega arith)
  ranked scfi.ReturnAddressOverwritten = (omega arith, omega arith)
  ranked (scfi.StackNotRestored distance) = (omega arith, omega arith)
  ranked (scfi.RegisterNotRestored r) = (omega arith, omega arith)
  ranked scfi.UntraceableJump = (omega arith, omega arith)
  ranked scfi.CallIntoFunction = (omega arith, omega arith)
  ranked scfi.NotInstructions = (omega arith, omega arith)
  ranked scfi.RunsPastEnd = (omega arith, omega arith)
  ranked scfi.UnsupportedStackUse = (omega arith, omega arith)
  ranked scfi.OffsetTooLarge = (omega arith, omega arith)

  -- nothing is there or something
  pub is_none : (o : Option Cfa) → Decided (o ≡ None)
  is_none None = inl refl
  is_none (Some cfa) = inr (λ e. cc)

  -- a distance is above the return address or not
  pub is_above : (o : Option ℕ) → Decided (IsAbove o)
  is_above None = inr (λ above. above)
  is_above (Some d) = is_met (below at_exit d)

  -- a register with its rule is not lost
  pub is_lost : ArePlaced s.stands → (r : ℕ) → Decided (IsLost s.stands r)
  is_lost placed r = by (rule_or_lost s.stands r placed)
    where
      kept : (rule : Option ℕ) → IsRuleOf s.stands r rule → IsLost s.stands r → ⊥
      kept None rule lost = let has = rule.1 in let loses = lost.0 in cc
      kept (Some n) rule lost = let is = rule.0 in let fails = lost.1 n in cc

      by : ((rule : Option ℕ) × IsRuleOf s.stands r rule) ⊎ IsLost s.stands r → Decided (IsLost s.stands r)
      by (inl rule) = inr (kept rule.0 rule.1)
      by (inr lost) = inl lost

  -- a first register, where one is saved
  pub first_or_none : (P : ℕ → Type 0) → ((q : ℕ) → Decided (P q)) → ((r : SavedRegister) × IsFirstOf P (number_of r)) ⊎ ((r : SavedRegister) → IsFirstOf P (number_of r) → ⊥)
  first_or_none P each = by (first_of_six P each)
    where
      by : ((r : SavedRegister) × IsFirstOf P (number_of r)) ⊎ ((q : ℕ) → is_saved q ≡ true → P q → ⊥)
          → ((r : SavedRegister) × IsFirstOf P (number_of r)) ⊎ ((r : SavedRegister) → IsFirstOf P (number_of r) → ⊥)
      by (inl found) = inl found
      by (inr none) = inr (λ r first. none (number_of r) (saved r) first.0)
