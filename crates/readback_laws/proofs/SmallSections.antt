-- A section of a layout that is not too large ends within 2^30 bytes.
use Rattle.std.proofs.Common.{◌≡◌, ℕ, zero, suc, ◌+◌, ◌-◌, List, [], ◌∷◌, All, Some, map, length, refl, sym, ap, ◌∙◌, arith}
use Rattle.std.specs.Prelude.{slice_get, option_map}
use Rattle.std.specs.Option.{option_map_or}
use Rattle.std.proofs.lemmas.List.Elements.{All-nil, All-cons, All-head, All-tail}
use Rattle.std.proofs.lemmas.Option.{none-some, same_Some}
use Rattle.asm_frags.specs.Addresses.{item_laid_at}
use Rattle.asm_frags.specs.SectionOf.{SectionOf}
use Rattle.asm_relax.specs.KeptSections.{IsSmall}
use Rattle.asm_relax.specs.RangeChecks.{last_item, whole_size}
use Rattle.asm_relax.specs.Placing.{placed_from, placed_section, shift_of}
use Rattle.asm_relax.specs.Settling.{LaidItem, LaidSections}
use Rattle.elf_object.specs.Places.{moved}
use Rattle.piece_laws.specs.LaidTables as table

-- an item moves what stands behind it by its size
pub shift_next : (items : List LaidItem) (index shift : ℕ) (item : LaidItem) → slice_get items index ≡ Some item
    → shift_of (suc index) shift items ≡ shift_of index shift items + item.size
shift_next [] index shift item there = absurd (none-some item there)
shift_next (one ∷ items) zero shift item there = ap (λ (i : LaidItem). shift + i.size) (same_Some one item there)
shift_next (one ∷ items) (suc index) shift item there = shift_next items index (shift + one.size) item there

-- there is a last item where there are items
last_of : (item : LaidItem) (items : List LaidItem) → (last : LaidItem) × (slice_get (item ∷ items) (length items) ≡ Some last)
last_of item [] = (item, refl)
last_of item (next ∷ items) = last_of next items

module _ (addresses : (items : List LaidItem) (index : ℕ) → slice_get (placed_from 0 items) index
    ≡ option_map (λ item. item_laid_at (item.offset + shift_of index 0 items) item.size item) (slice_get items index)) where
  -- the size of a section whose items stand one behind the other is its end
  size_is : (section : SectionOf LaidItem) (items : List LaidItem) → section.items ≡ items → placed_section section ≡ section
      → whole_size section ≡ moved items (length items) (length section.bytes)
  size_is section [] are stays =
      ap (λ (items : List LaidItem). length section.bytes + option_map_or (λ item. item.address + item.size - item.offset) (slice_get items (length items - 1)) 0) are
  size_is section (item ∷ items) are stays =
      let last = last_of item items in
      let count : length (item ∷ items) - 1 ≡ length items = omega arith in
      let next = shift_next (item ∷ items) (length items) 0 last.0 last.1 in
      let same : placed_from 0 (item ∷ items) ≡ item ∷ items =
      sym (ap (placed_from 0) are) ∙ ap (λ (s : SectionOf LaidItem). s.items) stays ∙ are in
      let placed : Some last.0 ≡ Some (item_laid_at (last.0.offset + shift_of (length items) 0 (item ∷ items)) last.0.size last.0) =
      sym last.1 ∙ sym (ap (λ (all : List LaidItem). slice_get all (length items)) same) ∙ addresses (item ∷ items) (length items)
      ∙ ap (option_map (λ (i : LaidItem). item_laid_at (i.offset + shift_of (length items) 0 (item ∷ items)) i.size i)) last.1 in
      let address : last.0.address ≡ last.0.offset + shift_of (length items) 0 (item ∷ items) = ap (λ (i : LaidItem). i.address) (same_Some _ _ placed) in
      let found : last_item section.items ≡ Some last.0 =
      ap (λ (all : List LaidItem). slice_get all (length all - 1)) are ∙ ap (slice_get (item ∷ items)) count ∙ last.1 in
      let size : whole_size section ≡ length section.bytes + (last.0.address + last.0.size - last.0.offset) =
      ap (λ f. length section.bytes + option_map_or (λ (i : LaidItem). i.address + i.size - i.offset) f 0) found in
      let long : length (item ∷ items) ≡ suc (length items) = omega arith in
      let end : moved (item ∷ items) (length (item ∷ items)) (length section.bytes) ≡ length section.bytes + shift_of (suc (length items)) 0 (item ∷ items) =
      ap (λ n. moved (item ∷ items) n (length section.bytes)) long in
      omega (arith, size, address, next, end)

  -- so all sections are small that are not too large
  pub sections_small : (sections : LaidSections) → map placed_section sections ≡ sections → All IsSmall sections → All table.IsSmall sections
  sections_small [] stay small = All-nil table.IsSmall
  sections_small (section ∷ sections) stay small =
      let first : placed_section section ≡ section = cc in
      let rest : map placed_section sections ≡ sections = cc in
      let size = size_is section section.items refl first in
      let few = (All-head IsSmall section sections small).size in
      All-cons table.IsSmall section sections (record { size = omega (arith, size, few) })
      (sections_small sections rest (All-tail IsSmall section sections small))
