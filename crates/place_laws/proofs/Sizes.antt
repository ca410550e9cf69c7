-- The size of a section in a layout is where it ends.
use Rattle.std.proofs.Common.{◌≡◌, ℕ, ◌+◌, ◌-◌, List, [], ◌∷◌, Some, length, get_or, refl, sym, ap, ◌∙◌, arith}
use Rattle.std.specs.Prelude.{option_map, slice_get}
use Rattle.std.specs.Option.{option_map_or}
use Rattle.std.proofs.lemmas.Option.{same_Some, slice_get-get_or}
use Rattle.asm_frags.specs.Addresses.{item_laid_at}
use Rattle.asm_frags.specs.SectionOf.{SectionOf}
use Rattle.asm_relax.specs.KeptSections.{kept_section, IsSmall, LayoutsKeepSections}
use Rattle.asm_relax.specs.Placing.{placed_from, shift_of}
use Rattle.asm_relax.specs.RangeChecks.{end_shift, whole_size}
use Rattle.asm_relax.specs.Settling.{LaidItem}
use Rattle.asm_place.specs.Instructions.{with_more}
use Rattle.place_laws.specs.Ends.{end_in, items_in, size_at, EndsAreSizes}
use Rattle.place_laws.specs.Statements.{PlacesAreInside}
use Rattle.place_laws.proofs.Addresses.{long_kept}
use Rattle.place_laws.proofs.Elements.{All-there}
use Rattle.place_laws.proofs.Moving.{shift_on, first_after}
use Rattle.place_laws.proofs.Standing.{growth_moves_places}

-- an item that is placed after those before it is moved by their sizes
abbrev pub ItemsAreMoved : Type 0
ItemsAreMoved = (items : List LaidItem) (index : ℕ)
    → slice_get (placed_from 0 items) index ≡ option_map (λ item. item_laid_at (item.offset + shift_of index 0 items) item.size item) (slice_get items index)

-- items that are placed so move the end by their sizes
end_is : ItemsAreMoved → (items : List LaidItem) → placed_from 0 items ≡ items → end_shift items ≡ shift_of (length items) 0 items
end_is moved [] placed = refl
end_is moved (one ∷ more) placed =
    let items : List LaidItem = one ∷ more in
    let at = length items - 1 in
    let last : LaidItem = get_or items at one in
    let there : slice_get items at ≡ Some last = slice_get-get_or items at one (omega arith) in
    let put = item_laid_at (last.offset + shift_of at 0 items) last.size last in
    let same : last ≡ put =
    same_Some last put
    (sym there ∙ ap (λ (all : List LaidItem). slice_get all at) (sym placed) ∙ moved items at
    ∙ ap (option_map (λ (item : LaidItem). item_laid_at (item.offset + shift_of at 0 items) item.size item)) there) in
    let address : last.address ≡ last.offset + shift_of at 0 items = ap (λ (item : LaidItem). item.address) same in
    let size : size_at items at ≡ last.size = ap (λ f. option_map_or (λ (item : LaidItem). item.size) f 0) there in
    let count : length items ≡ at + 1 = omega arith in
    let whole : shift_of (length items) 0 items ≡ shift_of at 0 items + size_at items at =
    ap (λ n. shift_of n 0 items) count ∙ shift_on at 1 items ∙ ap (λ n. shift_of at 0 items + n) (first_after items at) in
    let ends : end_shift items ≡ last.address + last.size - last.offset = ap (λ f. option_map_or (λ (item : LaidItem). item.address + item.size - item.offset) f 0) there in
    omega (arith, address, size, whole, ends)

pub ends_are_sizes : LayoutsKeepSections → ItemsAreMoved → EndsAreSizes
ends_are_sizes laws moved symbols sections laid n section kept is there found =
    let stands = laws.section symbols sections laid n section is there in
    let new = kept_section symbols stands.0 section in
    let same : kept ≡ new = same_Some kept new (sym found ∙ stands.1) in
    let items_are : items_in laid n ≡ new.items = ap (λ f. option_map_or (λ (s : SectionOf LaidItem). s.items) f []) stands.1 in
    let placed : placed_from 0 new.items ≡ new.items = ap (λ (s : SectionOf LaidItem). s.items) (laws.placed symbols sections laid n new is stands.1) in
    let count : length new.items ≡ length section.items = long_kept section.items stands.0 in
    ap (λ f. option_map_or (end_in (items_in laid n)) f 0) there
    ∙ ap (λ (items : List LaidItem). length section.bytes + shift_of (length section.items) 0 items) items_are
    ∙ ap (λ k. length section.bytes + shift_of k 0 new.items) (sym count)
    ∙ ap (λ k. length section.bytes + k) (sym (end_is moved new.items placed))
    ∙ ap (λ (s : SectionOf LaidItem). whole_size s) (sym same)

pub places_are_inside : EndsAreSizes → LayoutsKeepSections → PlacesAreInside
places_are_inside sizes laws sections laid n section kept later there found =
    let grown = growth_moves_places laid n section sections later.later later.grows there in
    let last = with_more section grown.more.bytes grown.more.fields grown.more.items in
    let size = sizes later.symbols later.later laid n last kept later.is grown.more.there found in
    let moves = grown.moves in
    let small : IsSmall kept = All-there IsSmall laid n kept found (laws.small later.symbols later.later laid later.is) in
    record { inside = omega (arith, size, moves); small = small.size }
