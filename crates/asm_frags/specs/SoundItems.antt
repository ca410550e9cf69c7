-- The invariant of a section's items.
use Rattle.std.specs.Prelude.{◌≡◌, ℕ, ◌*◌, ◌^◌, ◌≤◌, Bool, List, All, length}
use Rattle.asm_frags.specs.declared.items.Frag.{Frag}
use Rattle.asm_frags.specs.declared.known_extents.KnownExtent.{KnownExtent}
use Rattle.asm_frags.specs.Alignments.{alignment_of_all}
use Rattle.asm_frags.specs.KnownExtents.{extent_of}
use Rattle.asm_frags.specs.Writing.{ends_in_run}

-- at most 2 ^ 28 items, with their alignment, their known extent, and whether the last one is a run
pub record AreItems {P Address : Type 0} (items : List (Frag P Address)) (alignment : ℕ) (extent : KnownExtent) (in_run : Bool) : Type 0 where
  pub few : length items ≤ 2 ^ 28
  pub aligned : alignment ≡ alignment_of_all items
  pub known : extent ≡ extent_of items
  pub breaks : extent.breaks ≤ length items
  pub bytes : extent.bytes ≤ length items * 2 ^ 33
  pub last : in_run ≡ ends_in_run items

-- each item stands behind at most so many plain bytes
abbrev pub AreBehind : {P Address : Type 0} → ℕ → List (Frag P Address) → Type 0
AreBehind bytes items = All (λ item. item.offset ≤ bytes) items
