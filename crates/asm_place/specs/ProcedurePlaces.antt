-- Procedures of frame tables, whose places stand in order inside their sections.
use Rattle.std.specs.Prelude.{◌≡◌, ◌≤◌, List, All, IfSome, Some, length, take, drop, slice_get}
use Rattle.asm_frags.specs.Writing.{LooseSection}
use Rattle.cfi_directives.specs.declared.frames.Frame.{Frame}
use Rattle.asm_base.specs.declared.places.Place.{Place}
use Rattle.cfi_directives.specs.Meant.{stop_of}
use Rattle.cfi_directives.specs.Order.{AreInOrder}
use Rattle.cfi_directives.specs.Procedures.{Procedures}
use Rattle.cfi_directives.specs.Sound.{AreSound}

-- the place stands within the bytes of this section, behind so many of its items and before the others
pub record IsInside (held : LooseSection) (place : Place) : Type 0 where
  pub within : place.offset ≤ length held.bytes
  pub enough : place.item ≤ length held.items
  pub before : All (λ item. item.offset ≤ place.offset) (take place.item held.items)
  pub behind : All (λ item. place.offset ≤ item.offset) (drop place.item held.items)

-- the section of the procedure is there, and its beginning, its end and the place of each call frame instruction stand inside
pub record StandsInside (sections : List LooseSection) (frame : Frame) : Type 0 where
  pub held : LooseSection
  pub there : slice_get sections frame.section ≡ Some held
  pub start : IsInside held frame.start
  pub stop : IsInside held (stop_of frame)
  pub ops : All (λ placed. IsInside held placed.place) frame.ops

-- the procedures that have ended are whole and the open one is sound, their places never fall, and all of them stand inside
pub record StandInOrder (sections : List LooseSection) (procedures : Procedures) : Type 0 where
  pub sound : AreSound procedures
  pub order : AreInOrder procedures
  pub closed : All (StandsInside sections) procedures.closed
  pub begun : IfSome procedures.begun (StandsInside sections)
