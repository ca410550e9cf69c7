-- What the procedure that is open keeps.
use Rattle.std.specs.Prelude.{◌≡◌, None, Some}
use Rattle.std.specs.Option.{option_map}
use Rattle.cfi_directives.specs.declared.frames.Frame.{Frame}
use Rattle.cfi_directives.specs.Offsets.{Offsets, offsets_of}
use Rattle.cfi_directives.specs.Rows.{rows_after}
use Rattle.cfi_directives.specs.Sound.{IsSound}

-- the procedure has no end; the offsets are those of the rows behind the instructions, which can be written
pub record Tracks (frame : Frame) (offsets : Offsets) : Type 0 where
  pub unended : frame.stop ≡ None
  pub sound : IsSound frame
  pub known : option_map offsets_of (rows_after frame.ops) ≡ Some offsets
