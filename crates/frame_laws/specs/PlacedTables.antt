-- What is known of procedures before a frame table is put, and of what is put behind it.
use Rattle.std.specs.Prelude.{◌≡◌, ℕ, ◌+◌, ◌^◌, ◌≤◌, true, List, All, codes, length, Some, slice_get}
use Rattle.asm_frags.specs.SectionOf.{is_section_named}
use Rattle.asm_frags.specs.Writing.{LooseSection}
use Rattle.section_laws.specs.Within.{IsWithin}
use Rattle.cfi_directives.specs.declared.frames.Frame.{Frame}
use Rattle.cfi_directives.specs.Meant.{stop_of}
use Rattle.cfi_directives.specs.Order.{IsInOrder}
use Rattle.cfi_directives.specs.Sound.{IsWhole}
use Rattle.table_pieces.specs.Labels.{GetsLabels}
use Rattle.table_pieces.specs.Pieces.{Tables}
use Rattle.table_pieces.specs.Ready.{IsInSection, SymbolHolds}
use Rattle.table_pieces.specs.Standing.{AllExtend}
use Rattle.eh_frame.specs.StandingFrames.{FrameStands}

-- the procedure has ended, its places never fall, and they stand in its section
pub record IsCovered (sections : List LooseSection) (frame : Frame) : Type 0 where
  pub whole : IsWhole frame
  pub order : IsInOrder frame
  pub stands : FrameStands sections frame
  pub stop : IsInSection sections frame.section (stop_of frame)

-- what was placed with a frame table goes on to this: each section named `.eh_frame` is as it was, and all others have more behind at most. Labels of places
-- come to the symbols, at most 2^30 of them; fields and items stand within their sections, and all symbols that have a place stand in one
pub record GoesOn (after last : Tables) : Type 0 where
  pub kept : (number : ℕ) (held : LooseSection) → slice_get after.sections number ≡ Some held → is_section_named (codes ".eh_frame") held ≡ true
      → slice_get last.sections number ≡ Some held
  pub grows : AllExtend after.sections last.sections
  pub labels : GetsLabels after.symbols last.symbols
  pub few : length last.symbols.symbols ≤ length after.symbols.symbols + 2 ^ 30
  pub within : All IsWithin last.sections
  pub stand : All (SymbolHolds last.sections) last.symbols.symbols
