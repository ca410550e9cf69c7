-- Items one behind the other.
use Rattle.std.specs.Prelude.{ℕ, zero, suc, ◌+◌, List, [], ◌∷◌, slice_get}
use Rattle.std.specs.Option.{option_map_or}
use Rattle.asm_frags.specs.declared.items.Frag.{Frag}
use Rattle.asm_frags.specs.SectionOf.{SectionOf}
use Rattle.asm_frags.specs.Addresses.{item_laid_at}

-- the items, each behind the plain bytes before it, which the sizes of the items before it move so far
unfoldable pub placed_from : {P : Type 0} → ℕ → List (Frag P ℕ) → List (Frag P ℕ)
placed_from shift [] = []
placed_from shift (item ∷ items) = item_laid_at (item.offset + shift) item.size item ∷ placed_from (shift + item.size) items

-- the section with its items one behind the other
abbrev pub placed_section : {P : Type 0} → SectionOf (Frag P ℕ) → SectionOf (Frag P ℕ)
placed_section section = record section { items = placed_from 0 section.items }

-- how far the first items, as many as the number says, move the plain bytes behind them: the sum of their sizes
abbrev pub shift_of : {P : Type 0} → ℕ → ℕ → List (Frag P ℕ) → ℕ
shift_of zero shift items = shift
shift_of (suc count) shift [] = shift
shift_of (suc count) shift (item ∷ items) = shift_of count (shift + item.size) items

-- the address of the item of this index where its plain bytes are moved so far, and 0 where there is none
abbrev pub address_at : {P : Type 0} → List (Frag P ℕ) → ℕ → ℕ → ℕ
address_at items item shift = option_map_or (λ found. found.offset + shift) (slice_get items item) 0

-- the address of the item of this index of a section where its plain bytes are moved so far, and 0 where there is no such section
unfoldable pub address_there : {P : Type 0} → List (SectionOf (Frag P ℕ)) → ℕ → ℕ → ℕ → ℕ
address_there sections number item shift = option_map_or (λ section. address_at section.items item shift) (slice_get sections number) 0
