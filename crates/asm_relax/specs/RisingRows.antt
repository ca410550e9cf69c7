-- Rows of sections that are moved farther and farther.
use Rattle.std.specs.Prelude.{◌≡◌, ◌≤◌, ℕ, List, [], ◌∷◌, drop, slice_index}
use Rattle.asm_frags.specs.declared.items.Frag.{Frag}
use Rattle.asm_frags.specs.SectionOf.{SectionOf}
use Rattle.item_rows.specs.ItemRows.{row_count}

-- the row of each item is moved as far as the one before it or farther
abbrev pub Rise : {P : Type 0} → List ℕ → List (Frag P ℕ) → Type 0
Rise shifts [] = Unit {0}
Rise shifts (item ∷ items) = (slice_index shifts 0 ≤ slice_index shifts 1) × Rise (drop 1 shifts) items

-- so are those of each section, the first of which is not moved
abbrev pub AllRise : {P : Type 0} → List ℕ → List (SectionOf (Frag P ℕ)) → Type 0
AllRise shifts [] = Unit {0}
AllRise shifts (section ∷ sections) = (slice_index shifts 0 ≡ 0) × Rise shifts section.items × AllRise (drop (row_count section) shifts) sections
