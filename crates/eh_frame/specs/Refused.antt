-- Where a table is refused.
use Rattle.std.specs.Prelude.{◌≡◌, ℕ, List, Some, codes, slice_get}
use Rattle.asm_frags.specs.SectionOf.{section_number}
use Rattle.asm_frags.specs.Writing.{LooseSection}

-- `.eh_frame` is there, and has the type `SHT_NOBITS`
pub record HasZerosAlone (sections : List LooseSection) : Type 0 where
  pub number : ℕ
  pub held : LooseSection
  pub named : section_number (codes ".eh_frame") sections ≡ Some number
  pub there : slice_get sections number ≡ Some held
  pub kind : held.kind ≡ 8
