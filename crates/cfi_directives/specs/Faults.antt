-- For which cause a directive is refused.
use Rattle.std.specs.Prelude.{◌≡◌, ◌≢◌, ℕ, ◌≤◌, ◌⊎◌, List, length, Option, Err, IsOk, IsSome, IsNone, IsSomeAnd}
use Rattle.std.specs.Option.{option_map}
use Rattle.cfi_directives.specs.declared.faults.CfiCause.{CfiCause}
use Rattle.cfi_directives.specs.declared.faults.CfiCause.TheVariants.{OutOfRange, CfiOutsideProcedure, UnbalancedCfiState}
use Rattle.cfi_directives.specs.declared.frames.Frame.{Frame}
use Rattle.cfi_directives.specs.declared.frames.PlacedOp.{PlacedOp}
use Rattle.cfi_directives.specs.declared.lines.CfiLine.{CfiLine}
use Rattle.cfi_directives.specs.declared.lines.CfiLine.TheVariants.{StartProc, EndProc, Row, Point}
use Rattle.cfi_directives.specs.declared.lines.RowDirective.{RowDirective}
use Rattle.cfi_directives.specs.declared.lines.RowDirective.TheVariants.{RememberState, RestoreState}
use Rattle.asm_base.specs.declared.places.SectionPlace.{SectionPlace}
use Rattle.cfi_directives.specs.Procedures.{Procedures, cfa_offset}
use Rattle.cfi_directives.specs.Rows.{rows_after}
use Rattle.cfi_directives.specs.Saying.{said}

-- how many rows are remembered behind these instructions
abbrev pub depth_after : List PlacedOp → Option ℕ
depth_after ops = option_map (λ rows. length rows.saved) (rows_after ops)

-- where so many rows are remembered, a 17th would be, or none is there to be restored
abbrev pub IsUnbalanced : RowDirective → ℕ → Type 0
IsUnbalanced RememberState depth = 16 ≤ depth
IsUnbalanced RestoreState depth = depth ≡ 0
IsUnbalanced directive depth = ⊥

-- the directive can't be run in the open procedure
abbrev pub IsStuck : RowDirective → Option Frame → Type 0
IsStuck directive begun = IsSomeAnd begun (λ frame. IsSomeAnd (depth_after frame.ops) (IsUnbalanced directive))

-- the open procedure is in another section
abbrev pub IsElsewhere : SectionPlace → Option Frame → Type 0
IsElsewhere at begun = IsSomeAnd begun (λ frame. frame.section ≢ at.section)

-- the directive is refused for this cause
abbrev pub IsRefused : CfiLine → SectionPlace → Procedures → CfiCause → Type 0
IsRefused (StartProc pos) at procedures OutOfRange = ⊥
IsRefused (StartProc pos) at procedures CfiOutsideProcedure = ⊥
IsRefused (StartProc pos) at procedures UnbalancedCfiState = IsSome procedures.begun
IsRefused EndProc at procedures OutOfRange = ⊥
IsRefused EndProc at procedures CfiOutsideProcedure = IsNone procedures.begun
IsRefused EndProc at procedures UnbalancedCfiState = IsElsewhere at procedures.begun
IsRefused (Row directive) at procedures OutOfRange = said (cfa_offset procedures.begun) directive ≡ Err OutOfRange
IsRefused (Row directive) at procedures CfiOutsideProcedure =
    IsNone procedures.begun × (said (cfa_offset procedures.begun) directive ≢ Err OutOfRange)
IsRefused (Row directive) at procedures UnbalancedCfiState =
    IsOk (said (cfa_offset procedures.begun) directive)
    × (IsElsewhere at procedures.begun ⊎ IsStuck directive procedures.begun)
IsRefused (Point kind pointer) at procedures OutOfRange = ⊥
IsRefused (Point kind pointer) at procedures CfiOutsideProcedure = IsNone procedures.begun
IsRefused (Point kind pointer) at procedures UnbalancedCfiState = IsElsewhere at procedures.begun
