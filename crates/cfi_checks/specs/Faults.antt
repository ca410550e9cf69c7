-- What a written frame table is refused for, at an item.
use Rattle.std.specs.Prelude.{◌≡◌, ◌+◌, ◌≤◌, ℕ, true}
use Rattle.scfi_pass.specs.Registers.{number_of}
use Rattle.scfi_pass.specs.Faults.{Situation, IsFirstOf, is_unfollowed, IsFollowed}
use Rattle.scfi_pass.specs.Faults as synthesis
use Rattle.cfi_checks.specs.declared.rows.WrittenRow.{WrittenRow}
use Rattle.cfi_checks.specs.declared.faults.CheckFault.{CheckFault}
use Rattle.cfi_checks.specs.declared.faults.CheckFault.TheVariants.{FrameNotShown, RegisterNotShown, ReturnAddressNotShown, Unfollowed}
use Rattle.cfi_checks.specs.Rows.{rule_of}
use Rattle.cfi_checks.specs.Shown.{ShowsFrame, Shows, ShowsRegisters, ShowsReturn}

-- a fault of the row in force is told here
abbrev pub IsTold : Situation → WrittenRow → CheckFault → Type 0
IsTold s row FrameNotShown = ShowsFrame s.known row → ⊥
IsTold s row (RegisterNotShown r) = IsFirstOf (λ q. Shows s.stands q (rule_of row q) → ⊥) (number_of r)
IsTold s row ReturnAddressNotShown = ShowsReturn row → ⊥
IsTold s row (Unfollowed fault) = (is_unfollowed fault ≡ true) × synthesis.IsTold s fault

-- the order in which the faults of an item are told
abbrev pub rank_of : CheckFault → ℕ
rank_of FrameNotShown = 1
rank_of (RegisterNotShown r) = 2
rank_of ReturnAddressNotShown = 3
rank_of (Unfollowed fault) = 4 + synthesis.rank_of fault

-- the row is right here: what is known and stands shows it, and what the item does can be followed
pub record IsShown (s : Situation) (row : WrittenRow) : Type 0 where
  pub frame : ShowsFrame s.known row
  pub registers : ShowsRegisters s.stands row
  pub return_address : ShowsReturn row
  pub followed : IsFollowed s

-- then no fault is told
abbrev pub ShownRowsHaveNoFault : Type 0
ShownRowsHaveNoFault = (s : Situation) (row : WrittenRow) → IsShown s row → (fault : CheckFault) → IsTold s row fault → ⊥

-- this fault is told here, and none of a lower rank
pub record IsFirst (s : Situation) (row : WrittenRow) (fault : CheckFault) : Type 0 where
  pub told : IsTold s row fault
  pub first : (other : CheckFault) → IsTold s row other → rank_of fault ≤ rank_of other
