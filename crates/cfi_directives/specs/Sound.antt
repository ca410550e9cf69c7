-- What holds of each procedure.
use Rattle.std.specs.Prelude.{◌≡◌, All, IsSome, IfSome, None}
use Rattle.cfi_entries.specs.Written.{written}
use Rattle.cfi_directives.specs.declared.frames.Frame.{Frame}
use Rattle.cfi_directives.specs.Procedures.{Procedures}
use Rattle.cfi_directives.specs.Rows.{rows_after}

-- each instruction has a form, and all of them can be run from the row of the common entry
pub record IsSound (frame : Frame) : Type 0 where
  pub written : All (λ placed. IsSome (written placed.op)) frame.ops
  pub run : IsSome (rows_after frame.ops)

-- a procedure that has ended, and is sound
pub record IsWhole (frame : Frame) : Type 0 where
  pub stop : IsSome frame.stop
  pub sound : IsSound frame

-- all that have ended are whole, and the open one is sound
pub record AreSound (procedures : Procedures) : Type 0 where
  pub closed : All IsWhole procedures.closed
  pub begun : IfSome procedures.begun (λ frame. (frame.stop ≡ None) × IsSound frame)
