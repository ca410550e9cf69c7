use Rattle.std.proofs.Common.{◌≡◌, ◌≤◌, true, refl, arith}
use Rattle.asm_base.specs.declared.faults.SavedRegister.{SavedRegister}
use Rattle.asm_base.specs.declared.faults.SavedRegister.TheVariants.{Rbx, Rbp, R12, R13, R14, R15}
use Rattle.asm_base.specs.declared.faults.ScfiFault.{ScfiFault}
use Rattle.stack_facts.specs.Places.{is_saved}
use Rattle.scfi_pass.specs.Registers.{number_of}
use Rattle.scfi_pass.specs.Faults.{Situation, IsFirstUnfollowed}
use Rattle.cfi_checks.specs.declared.rows.WrittenRow.{WrittenRow}
use Rattle.cfi_checks.specs.declared.faults.CheckFault.{CheckFault}
use Rattle.cfi_checks.specs.declared.faults.CheckFault.TheVariants.{FrameNotShown, RegisterNotShown, ReturnAddressNotShown, Unfollowed}
use Rattle.cfi_checks.specs.Shown.{ShowsFrame, ShowsRegisters, ShowsReturn}
use Rattle.cfi_checks.specs.Faults.{IsTold, rank_of, IsShown, IsFirst}
use Rattle.cfi_checks.specs.Places.{IsClear, IsToldAt}

-- the frame address is shown
pub clear_frame : (s : Situation) (row : WrittenRow) → ShowsFrame s.known row → IsClear s row 1
clear_frame s row shown FrameNotShown e told = told shown
clear_frame s row shown (RegisterNotShown r) e told = absurd (omega arith)
clear_frame s row shown ReturnAddressNotShown e told = absurd (omega arith)
clear_frame s row shown (Unfollowed fault) e told = absurd (omega arith)

-- each of them is one of the six
saved_number : (r : SavedRegister) → is_saved (number_of r) ≡ true
saved_number Rbx = refl
saved_number Rbp = refl
saved_number R12 = refl
saved_number R13 = refl
saved_number R14 = refl
saved_number R15 = refl

-- the entry values of the six are shown
pub clear_registers : (s : Situation) (row : WrittenRow) → ShowsRegisters s.stands row → IsClear s row 2
clear_registers s row shown FrameNotShown e told = absurd (omega arith)
clear_registers s row shown (RegisterNotShown r) e told = told.0 (shown (number_of r) (saved_number r))
clear_registers s row shown ReturnAddressNotShown e told = absurd (omega arith)
clear_registers s row shown (Unfollowed fault) e told = absurd (omega arith)

-- the return address is shown
pub clear_return : (s : Situation) (row : WrittenRow) → ShowsReturn row → IsClear s row 3
clear_return s row shown FrameNotShown e told = absurd (omega arith)
clear_return s row shown (RegisterNotShown r) e told = absurd (omega arith)
clear_return s row shown ReturnAddressNotShown e told = told shown
clear_return s row shown (Unfollowed fault) e told = absurd (omega arith)

-- a fault of the first rank
pub first_frame : (s : Situation) (row : WrittenRow) (fault : CheckFault) → IsToldAt s row 1 fault → IsFirst s row fault
first_frame s row fault at = record { told = at.0; first = λ other told. by_other other }
  where
    by_other : (other : CheckFault) → rank_of fault ≤ rank_of other
    by_other FrameNotShown = let e = at.1 in omega arith
    by_other (RegisterNotShown r) = let e = at.1 in omega arith
    by_other ReturnAddressNotShown = let e = at.1 in omega arith
    by_other (Unfollowed other) = let e = at.1 in omega arith

-- one of the second, where none of the first is told
pub first_register : (s : Situation) (row : WrittenRow) (fault : CheckFault) → IsClear s row 1 → IsToldAt s row 2 fault → IsFirst s row fault
first_register s row fault frame at = record { told = at.0; first = by_other }
  where
    by_other : (other : CheckFault) → IsTold s row other → rank_of fault ≤ rank_of other
    by_other FrameNotShown told = absurd (frame FrameNotShown refl told)
    by_other (RegisterNotShown r) told = let e = at.1 in omega arith
    by_other ReturnAddressNotShown told = let e = at.1 in omega arith
    by_other (Unfollowed other) told = let e = at.1 in omega arith

-- one of the third
pub first_return : (s : Situation) (row : WrittenRow) (fault : CheckFault) → IsClear s row 1 → IsClear s row 2 → IsToldAt s row 3 fault → IsFirst s row fault
first_return s row fault frame registers at = record { told = at.0; first = by_other }
  where
    by_other : (other : CheckFault) → IsTold s row other → rank_of fault ≤ rank_of other
    by_other FrameNotShown told = absurd (frame FrameNotShown refl told)
    by_other (RegisterNotShown r) told = absurd (registers (RegisterNotShown r) refl told)
    by_other ReturnAddressNotShown told = let e = at.1 in omega arith
    by_other (Unfollowed other) told = let e = at.1 in omega arith

-- the first of those that say that the item cannot be followed
pub first_unfollowed : (s : Situation) (row : WrittenRow) (fault : ScfiFault) → IsClear s row 1 → IsClear s row 2 → IsClear s row 3 → IsFirstUnfollowed s fault
    → IsFirst s row (Unfollowed fault)
first_unfollowed s row fault frame registers back at = record { told = (at.unfollowed, at.told); first = by_other }
  where
    by_other : (other : CheckFault) → IsTold s row other → rank_of (Unfollowed fault) ≤ rank_of other
    by_other FrameNotShown told = absurd (frame FrameNotShown refl told)
    by_other (RegisterNotShown r) told = absurd (registers (RegisterNotShown r) refl told)
    by_other ReturnAddressNotShown told = absurd (back ReturnAddressNotShown refl told)
    by_other (Unfollowed other) told = let l = at.first other told.0 told.1 in omega arith

-- a row that is shown has no fault
pub no_fault : (s : Situation) (row : WrittenRow) → IsShown s row → (fault : CheckFault) → IsTold s row fault → ⊥
no_fault s row shown FrameNotShown told = told shown.frame
no_fault s row shown (RegisterNotShown r) told = clear_registers s row shown.registers (RegisterNotShown r) refl told
no_fault s row shown ReturnAddressNotShown told = told shown.return_address
no_fault s row shown (Unfollowed fault) told = shown.followed fault told.0 told.1
