-- The procedures so far.
use Rattle.std.specs.Prelude.{ℤ, List, [], ◌++◌, Option, Some, None, option_to_list}
use Rattle.std.specs.Option.{option_map, option_and_then}
use Rattle.asm_base.specs.declared.positions.Pos.{Pos}
use Rattle.cfi_directives.specs.declared.frames.Frame.{Frame}
use Rattle.cfi_directives.specs.declared.frames.Pointer.{Pointer}
use Rattle.cfi_directives.specs.declared.lines.PointerKind.{PointerKind}
use Rattle.cfi_directives.specs.declared.lines.PointerKind.TheVariants.{Personality, Lsda}
use Rattle.asm_base.specs.declared.places.Place.{Place}
use Rattle.asm_base.specs.declared.places.SectionPlace.{SectionPlace}
use Rattle.cfi_directives.specs.Rows.{rows_after}

-- those that have ended, and the one that is open
pub record Procedures : Type 0 where
  pub closed : List Frame
  pub begun : Option Frame

-- none
abbrev pub no_procedures : Procedures
no_procedures = record { closed = []; begun = None }

-- all of them, the open one last
abbrev pub frames_of : Procedures → List Frame
frames_of procedures = procedures.closed ++ option_to_list procedures.begun

-- a procedure that begins here
abbrev pub new_frame : Pos → SectionPlace → Frame
new_frame pos at = record { pos = pos; section = at.section; start = at.place; stop = None; personality = None; lsda = None; ops = [] }

-- the procedure with its end here
abbrev pub with_stop : Place → Frame → Frame
with_stop place frame = record frame { stop = Some place }

-- the procedure with a pointer of this kind, or without one
abbrev pub with_pointer : PointerKind → Option Pointer → Frame → Frame
with_pointer Personality pointer frame = record frame { personality = pointer }
with_pointer Lsda pointer frame = record frame { lsda = pointer }

-- the CFA's offset in the row in force, where a procedure is open
abbrev pub cfa_offset : Option Frame → Option ℤ
cfa_offset begun = option_and_then (λ frame. option_map (λ rows. rows.row.offset) (rows_after frame.ops)) begun
