-- Procedures whose places stand in their sections, and the labels that their table brings.
use Rattle.std.specs.Prelude.{◌≡◌, List, ◌∷◌, All, Ok}
use Rattle.asm_frags.specs.Writing.{LooseSection}
use Rattle.section_laws.specs.Within.{IsWithin}
use Rattle.cfi_directives.specs.declared.frames.Frame.{Frame}
use Rattle.cfi_directives.specs.Meant.{stop_of}
use Rattle.table_pieces.specs.Pieces.{Tables}
use Rattle.table_pieces.specs.StandingPlaces.{HoldsItems, GetsStanding}
use Rattle.eh_frame.specs.Placing.{placed}

-- each place of a procedure stands in its section, behind some of its items
pub record FrameStands (sections : List LooseSection) (frame : Frame) : Type 0 where
  pub start : HoldsItems sections frame.section frame.start.item
  pub stop : HoldsItems sections frame.section (stop_of frame).item
  pub ops : All (λ placed. HoldsItems sections frame.section placed.place.item) frame.ops

-- where the places of procedures stand, so do those of the labels that their table brings
abbrev pub LabelsStand : Type 0
LabelsStand = (frame : Frame) (frames : List Frame) (tables after : Tables) → All IsWithin tables.sections → All (FrameStands tables.sections) (frame ∷ frames)
    → placed (frame ∷ frames) tables ≡ Ok after → GetsStanding after.sections tables.symbols after.symbols
