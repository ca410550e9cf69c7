use Rattle.std.proofs.Common.{◌≡◌, ℕ, ◌+◌, ◌<◌, ◌≤◌, ◌⊎◌, inl, inr, Option, ℤ, refl, subst, arith}
use Rattle.std.proofs.lemmas.Bool.{cases_lt}
use Rattle.asm_base.specs.declared.faults.ScfiFault.{ScfiFault}
use Rattle.asm_base.specs.declared.faults.ScfiFault.TheVariants as scfi
use Rattle.asm_base.specs.declared.faults.SavedRegister.{SavedRegister}
use Rattle.scfi_pass.specs.Faults.{Situation, IsTold, rank_of, IsSound, IsFirst}
use Rattle.scfi_pass.specs.Looking.{IsClear, IsToldAt}

-- the fault of rank 1 is not told
pub clear_frame : (s : Situation) → (IsTold s scfi.FrameLost → ⊥) → IsClear s 1
clear_frame s none scfi.FrameLost e told = none told
clear_frame s none _ e told = cc

-- the fault of rank 3 is not told
pub clear_return : (s : Situation) → (IsTold s scfi.ReturnAddressOverwritten → ⊥) → IsClear s 3
clear_return s none scfi.ReturnAddressOverwritten e told = none told
clear_return s none _ e told = cc

-- the fault of rank 6 is not told
pub clear_jump : (s : Situation) → (IsTold s scfi.UntraceableJump → ⊥) → IsClear s 6
clear_jump s none scfi.UntraceableJump e told = none told
clear_jump s none _ e told = cc

-- the fault of rank 7 is not told
pub clear_call : (s : Situation) → (IsTold s scfi.CallIntoFunction → ⊥) → IsClear s 7
clear_call s none scfi.CallIntoFunction e told = none told
clear_call s none _ e told = cc

-- the fault of rank 8 is not told
pub clear_data : (s : Situation) → (IsTold s scfi.NotInstructions → ⊥) → IsClear s 8
clear_data s none scfi.NotInstructions e told = none told
clear_data s none _ e told = cc

-- the fault of rank 9 is not told
pub clear_end : (s : Situation) → (IsTold s scfi.RunsPastEnd → ⊥) → IsClear s 9
clear_end s none scfi.RunsPastEnd e told = none told
clear_end s none _ e told = cc

-- the fault of rank 10 is not told
pub clear_use : (s : Situation) → (IsTold s scfi.UnsupportedStackUse → ⊥) → IsClear s 10
clear_use s none scfi.UnsupportedStackUse e told = none told
clear_use s none _ e told = cc

-- the fault of rank 11 is not told
pub clear_far : (s : Situation) → (IsTold s scfi.OffsetTooLarge → ⊥) → IsClear s 11
clear_far s none scfi.OffsetTooLarge e told = none told
clear_far s none _ e told = cc

-- none of rank 2 is told
pub clear_lost : (s : Situation) → ((r : SavedRegister) → IsTold s (scfi.RegisterLost r) → ⊥) → IsClear s 2
clear_lost s none (scfi.RegisterLost r) e told = none r told
clear_lost s none _ e told = cc

-- none of rank 4 is told
pub clear_stack : (s : Situation) → ((distance : Option ℤ) → IsTold s (scfi.StackNotRestored distance) → ⊥) → IsClear s 4
clear_stack s none (scfi.StackNotRestored distance) e told = none distance told
clear_stack s none _ e told = cc

-- none of rank 5 is told
pub clear_changed : (s : Situation) → ((r : SavedRegister) → IsTold s (scfi.RegisterNotRestored r) → ⊥) → IsClear s 5
clear_changed s none (scfi.RegisterNotRestored r) e told = none r told
clear_changed s none _ e told = cc

-- no fault of a lower rank is told
abbrev pub IsClearBelow : Situation → ℕ → Type 0
IsClearBelow s n = (k : ℕ) → 0 < k → k < n → IsClear s k

-- no rank is below the first
pub none_below : (s : Situation) → IsClearBelow s 1
none_below s k low high = absurd (omega arith)

-- one rank more
pub one_more : (s : Situation) (n : ℕ) → IsClearBelow s n → IsClear s n → IsClearBelow s (n + 1)
one_more s n below clear k low high = by_place (cases_lt k n)
  where
    by_place : (k < n) ⊎ (n ≤ k) → IsClear s k
    by_place (inl l) = below k low l
    by_place (inr l) = let same : n ≡ k = omega arith in let P : ℕ → Type 0 = IsClear s in subst P same clear

-- there are eleven ranks
ranked : (fault : ScfiFault) → (0 < rank_of fault) × (rank_of fault < 12)
ranked scfi.FrameLost = (omega arith, omega arith)
ranked (scfi.RegisterLost r) = (omega arith, omega arith)
ranked scfi.ReturnAddressOverwritten = (omega arith, omega arith)
ranked (scfi.StackNotRestored distance) = (omega arith, omega arith)
ranked (scfi.RegisterNotRestored r) = (omega arith, omega arith)
ranked scfi.UntraceableJump = (omega arith, omega arith)
ranked scfi.CallIntoFunction = (omega arith, omega arith)
ranked scfi.NotInstructions = (omega arith, omega arith)
ranked scfi.RunsPastEnd = (omega arith, omega arith)
ranked scfi.UnsupportedStackUse = (omega arith, omega arith)
ranked scfi.OffsetTooLarge = (omega arith, omega arith)

-- a fault that is told, below whose rank none is
pub first_of : (s : Situation) (n : ℕ) (fault : ScfiFault) → IsClearBelow s n → IsToldAt s n fault → IsFirst s fault
first_of s n fault below at = record { told = at.0; first = λ other told. by_place other told (cases_lt (rank_of other) n) }
  where
    by_place : (other : ScfiFault) → IsTold s other → (rank_of other < n) ⊎ (n ≤ rank_of other) → rank_of fault ≤ rank_of other
    by_place other told (inl l) = absurd (below (rank_of other) (ranked other).0 l other refl told)
    by_place other told (inr l) = let e = at.1 in omega arith

-- no fault of any rank is told
pub all_sound : (s : Situation) → IsClearBelow s 12 → IsSound s
all_sound s below fault told = below (rank_of fault) (ranked fault).0 (ranked fault).1 fault refl told
