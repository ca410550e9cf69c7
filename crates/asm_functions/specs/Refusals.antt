-- Refusals of statements that are followed.
use Rattle.std.specs.Prelude.{◌≡◌, Bool, List, Option}
use Rattle.asm_base.specs.declared.faults.Fault.TheVariants.{Statement}
use Rattle.asm_base.specs.declared.faults.StatementFault.TheVariants.{FunctionSplit}
use Rattle.asm_base.specs.declared.notes.Noted.{Noted}
use Rattle.asm_base.specs.declared.positions.Pos.{Pos}
use Rattle.asm_base.specs.declared.refusals.Refusal.{Refusal}
use Rattle.asm_base.specs.declared.refusals.Refusal.TheVariants as refusal
use Rattle.asm_place.specs.declared.place_faults.FaultAt.{FaultAt}
use Rattle.asm_place.specs.Sources.{fault_at}
use Rattle.asm_functions.specs.declared.remarks.Ignored.{Ignored}
use Rattle.asm_functions.specs.FollowedSource.{remarked_at}

-- the same refusal with the remark among its notes; want of memory may take its place
abbrev pub IsRemarked : (no_warn : Bool) → Option Ignored → (before after : Refusal FaultAt) → Type 0
IsRemarked no_warn ignored before refusal.NoMemory = Unit {0}
IsRemarked no_warn ignored (refusal.Fault stop) (refusal.Fault raised) = raised ≡ remarked_at no_warn ignored stop
IsRemarked no_warn ignored refusal.NoMemory (refusal.Fault raised) = ⊥

-- the fault that an instruction splits a function, behind these notes; want of memory may take its place
abbrev pub IsSplitFault : Pos → List Noted → Refusal FaultAt → Type 0
IsSplitFault pos notes refusal.NoMemory = Unit {0}
IsSplitFault pos notes (refusal.Fault raised) = raised ≡ fault_at (Statement FunctionSplit) pos notes
