-- Where a table is refused.
use Rattle.std.specs.Prelude.{◌≡◌, ℕ, ◌⊎◌, List, [], Some, codes, slice_get}
use Rattle.asm_frags.specs.SectionOf.{section_number}
use Rattle.asm_frags.specs.Writing.{LooseSection}

-- the section has the type `SHT_NOBITS`, or an item or a plain byte
abbrev pub IsTaken : LooseSection → Type 0
IsTaken held = (held.kind ≡ 8) ⊎ (held.items ≡ [] → ⊥) ⊎ (held.bytes ≡ [] → ⊥)

-- `.debug_line` is there, and is such a section
pub record HasTakenTable (sections : List LooseSection) : Type 0 where
  pub number : ℕ
  pub held : LooseSection
  pub named : section_number (codes ".debug_line") sections ≡ Some number
  pub there : slice_get sections number ≡ Some held
  pub taken : IsTaken held
