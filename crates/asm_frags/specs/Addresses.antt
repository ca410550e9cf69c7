-- Addresses and sizes of items, set one at a time.
use Rattle.std.specs.Prelude.{ℕ, ◌<◌, List, length, Option, None, Some, IfSome, slice_get, slice_set}
use Rattle.asm_frags.specs.declared.items.Frag.{Frag}
use Rattle.asm_frags.specs.SectionOf.{SectionOf}

-- the list with the element of this index, which is given where there is one, changed
abbrev pub changed_there : {X : Type 0} → (X → X) → List X → ℕ → Option X → List X
changed_there change all number None = all
changed_there change all number (Some one) = slice_set all number (change one)

-- the list with the element of this index changed
abbrev pub changed_at : {X : Type 0} → (X → X) → List X → ℕ → List X
changed_at change all number = changed_there change all number (slice_get all number)

-- the item at this address, with so many bytes
abbrev pub item_laid_at : {P : Type 0} → ℕ → ℕ → Frag P ℕ → Frag P ℕ
item_laid_at address size item = record { pos = item.pos; offset = item.offset; content = item.content; address = address; size = size }

-- the section with the item of this index at this address, with so many bytes
abbrev pub section_laid_at : {P : Type 0} → SectionOf (Frag P ℕ) → ℕ → ℕ → ℕ → SectionOf (Frag P ℕ)
section_laid_at section item address size = record section { items = changed_at (item_laid_at address size) section.items item }

-- the sections with the item of this index in the section of this number at this address, with so many bytes
abbrev pub sections_laid_at : {P : Type 0} → List (SectionOf (Frag P ℕ)) → ℕ → ℕ → ℕ → ℕ → List (SectionOf (Frag P ℕ))
sections_laid_at sections number item address size = changed_at (λ section. section_laid_at section item address size) sections number

-- the section of this number has an item of this index
abbrev pub HasItem : {Item : Type 0} → List (SectionOf Item) → ℕ → ℕ → Type 0
HasItem sections number item = IfSome (slice_get sections number) (λ section. item < length section.items)
