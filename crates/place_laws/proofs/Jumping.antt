-- The addresses of labels, and where jumps lead.
use Rattle.std.proofs.Common.{◌≡◌, ℕ, ◌+◌, ◌^◌, ◌<◌, List, Some, length, refl, sym, ap, ◌∙◌, arith, length-append}
use Rattle.std.specs.Prelude.{slice_get, All}
use Rattle.std.specs.Option.{option_map_or}
use Rattle.asm_expr.specs.Forms.{wrapped}
use Rattle.asm_symbols.specs.SymbolMap.{SymbolMap}
use Rattle.asm_frags.specs.Writing.{LooseItem, LooseSection, with_growing}
use Rattle.item_contents.specs.declared.kinds.Growth.TheVariants.{Jump}
use Rattle.asm_relax.specs.Final.{address_of}
use Rattle.asm_relax.specs.Settling.{LaidSections}
use Rattle.asm_uses.specs.Places.{spot_at, spot_in, no_spot}
use Rattle.asm_place.specs.Instructions.{with_more, next_offset}
use Rattle.asm_place.specs.JumpPlaces.{jump_form, items_so_far}
use Rattle.place_laws.specs.Ends.{end_in, items_in, place_in, size_at, EndsAreAddresses}
use Rattle.place_laws.specs.Branches.{BranchesLead}
use Rattle.place_laws.specs.Jumps.{IsLowLater, SpotsAreAddresses, laid_jump_field, JumpsLead}
use Rattle.place_laws.proofs.Elements.{All-there}
use Rattle.place_laws.proofs.Moving.{ends_move}
use Rattle.place_laws.proofs.Standing.{now, so_far_is}

-- the end of a section that is there
end_address : EndsAreAddresses → (symbols : SymbolMap) (sections : List LooseSection) (laid : LaidSections) (number : ℕ) (section : LooseSection) → IsLowLater symbols sections laid
    → slice_get sections number ≡ Some section → address_of laid number (length section.items) (length section.bytes) ≡ wrapped (end_in (items_in laid number) section)
end_address ends symbols sections laid number section later there =
    let more = later.grows.kept number section there in
    let last = with_more section more.bytes more.fields more.items in
    let low = All-there (λ (s : LooseSection). All (λ (item : LooseItem). item.offset < 2 ^ 64) s.items) later.later number last more.there later.low in
    let count = length-append section.items more.items in
    ends symbols later.later laid number last section later.is more.there low (omega (arith, count))

pub spots_are_addresses : EndsAreAddresses → SpotsAreAddresses
unfolding spot_at
spots_are_addresses ends symbols sections laid number section later there =
    ap (λ f.
    address_of laid number (option_map_or (spot_in number) f (no_spot number)).place.place.item (option_map_or (spot_in number) f (no_spot number)).place.place.offset) there
    ∙ end_address ends symbols sections laid number section later there
    ∙ ap (λ f. wrapped (option_map_or (end_in (items_in laid number)) f 0)) (sym there)

pub jumps_lead : EndsAreAddresses → BranchesLead → JumpsLead
jumps_lead ends lead symbols laid pos tokens text condition before placed put symbol number address later is =
    let n = before.current in
    let items = items_in laid n in
    let new = with_growing pos n (Jump condition) text.displacement.suffix (jump_form put.jump.forms) put.section in
    let there = now laid before.sections placed.sections n put.section new put.there put.put in
    let place = place_in laid n before.sections in
    let size = size_at items (items_so_far before) in
    let so_far = so_far_is before put.section put.there in
    let offset : next_offset before ≡ length put.section.bytes = ap (λ f. option_map_or (λ (s : LooseSection). length s.bytes) f 0) put.there in
    let moves : end_in items new ≡ place + size =
    ends_move.growing pos n (Jump condition) text.displacement.suffix (jump_form put.jump.forms) put.section items
    ∙ ap (λ k. end_in items put.section + size_at items k) (sym so_far) ∙ ap (λ f. option_map_or (end_in items) f 0 + size) (sym put.there) in
    let count : length new.items ≡ items_so_far before + 1 = length-append put.section.items _ ∙ ap (λ k. k + 1) (sym so_far) in
    let field = laid_jump_field symbols pos tokens text condition before placed put in
    let at : address_of laid n (items_so_far before + 1) (next_offset before) ≡ wrapped (place + size) =
    ap (λ k. address_of laid n k (next_offset before)) (sym count) ∙ ap (λ k. address_of laid n (length new.items) k) offset
    ∙ end_address ends symbols placed.sections laid n new later there ∙ ap (λ k. wrapped k) moves in
    lead.within symbols laid field symbol number address place size is refl refl at
