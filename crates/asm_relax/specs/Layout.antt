-- The layout of sections by how far their rows are moved.
use Rattle.std.specs.Prelude.{◌≡◌, ℕ, ◌+◌, ◌-◌, ◌*◌, ◌^◌, ◌≤◌, List, [], ◌∷◌, All, map, drop, Some, slice_get, slice_index}
use Rattle.item_contents.specs.declared.contents.Content.{Content}
use Rattle.item_contents.specs.declared.contents.Content.TheVariants.{Run, Fill, Align, Org, Growing}
use Rattle.asm_symbols.specs.SymbolMap.{SymbolMap}
use Rattle.asm_frags.specs.declared.items.Frag.{Frag}
use Rattle.item_contents.specs.Contents.{MayGrowTo, MayHave}
use Rattle.asm_frags.specs.SectionOf.{SectionOf}
use Rattle.asm_frags.specs.Addresses.{item_laid_at}
use Rattle.asm_levels.specs.declared.rows.Row.{Row}
use Rattle.asm_levels.specs.Sizes.{padding, unless_above}
use Rattle.asm_levels.specs.Needs.{top}
use Rattle.asm_levels.specs.Shifts.{shifts_of}
use Rattle.item_rows.specs.ItemRows.{row_count, rows_of}

-- the items, each behind the plain bytes before it, which are moved as far as its row; its size is how much farther the row behind it is moved
abbrev pub laid_from : {P : Type 0} → List ℕ → List (Frag P ℕ) → List (Frag P ℕ)
laid_from shifts [] = []
laid_from shifts (item ∷ items) =
    item_laid_at (item.offset + slice_index shifts 0) (slice_index shifts 1 - slice_index shifts 0) item ∷ laid_from (drop 1 shifts) items

-- the section with its items laid out
abbrev pub laid_out_section : {P : Type 0} → List ℕ → SectionOf (Frag P ℕ) → SectionOf (Frag P ℕ)
laid_out_section shifts section = record section { items = laid_from shifts section.items }

-- the sections with the items of each laid out, by how far all rows are moved
abbrev pub laid_out : {P : Type 0} → List ℕ → List (SectionOf (Frag P ℕ)) → List (SectionOf (Frag P ℕ))
laid_out shifts [] = []
laid_out shifts (section ∷ sections) = laid_out_section shifts section ∷ laid_out (drop (row_count section) shifts) sections

-- the sections laid out with their rows at these levels
unfoldable pub laid_by : {P : Type 0} → SymbolMap → List ℕ → List (SectionOf (Frag P ℕ)) → List (SectionOf (Frag P ℕ))
laid_by map levels sections = laid_out (shifts_of (rows_of map sections) levels) sections

-- no row has a level above its highest
abbrev pub AreWithin : List ℕ → List Row → Type 0
AreWithin levels [] = Unit {0}
AreWithin levels (row ∷ rows) = (slice_index levels 0 ≤ top row.size) × AreWithin (drop 1 levels) rows

-- the section with all addresses and sizes 0
abbrev pub without_address : {P : Type 0} → SectionOf (Frag P ℕ) → SectionOf (Frag P ℕ)
without_address section = record section { items = map (item_laid_at 0 0) section.items }

-- the sections with all addresses and sizes 0
abbrev pub without_addresses : {P : Type 0} → List (SectionOf (Frag P ℕ)) → List (SectionOf (Frag P ℕ))
without_addresses sections = map without_address sections

-- the first item stands behind the plain bytes before it, and each next one behind the one before and the plain bytes between them
pub record IsInRow {P : Type 0} (items : List (Frag P ℕ)) : Type 0 where
  pub first : (item : Frag P ℕ) → slice_get items 0 ≡ Some item → item.address ≡ item.offset
  pub next : (index : ℕ) (item following : Frag P ℕ) → slice_get items index ≡ Some item → slice_get items (index + 1) ≡ Some following
      → following.address + item.offset ≡ following.offset + (item.address + item.size)

-- each item has a size that it may have
abbrev pub AreSized : {P : Type 0} → List (Frag P ℕ) → Type 0
AreSized items = All (λ item. MayHave item.content item.size) items

-- an item at this address has this size: an alignment reaches up to the next multiple, unless that takes more than it may; what an `.org` reaches, and
-- the level of what grows, do not follow from the address alone
abbrev pub HasSizeAt : Content → ℕ → ℕ → Type 0
HasSizeAt Run address size = size ≡ 0
HasSizeAt (Fill held) address size = size ≡ held.count * held.size
HasSizeAt (Align held) address size = size ≡ unless_above held.most (padding (2 ^ held.log) address)
HasSizeAt (Org held) address size = Unit {0}
HasSizeAt (Growing held) address size = MayGrowTo held.kind size

-- each item has the size that it has at its address
abbrev pub HaveSizes : {P : Type 0} → List (Frag P ℕ) → Type 0
HaveSizes items = All (λ item. HasSizeAt item.content item.address item.size) items
