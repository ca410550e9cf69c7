-- The items of direct jumps have room for what their fields hold.
use Rattle.std.proofs.Common.{◌≡◌, ℕ, ◌+◌, ◌-◌, ◌^◌, ◌<◌, Bool, true, false, cond, List, [], ◌∷◌, ◌++◌, All, Option, Some, None, length, refl, sym, ap, ◌∙◌, subst, arith}
use Rattle.std.specs.Prelude.{◌==◌, slice_get, option_map}
use Rattle.std.specs.Option.{option_map_or}
use Rattle.std.proofs.lemmas.List.{length-map}
use Rattle.std.proofs.lemmas.Option.{none-some, same_Some, slice_get-map, slice_get_within}
use Rattle.asm_base.specs.Tokens.{SpelledToken}
use Rattle.asm_base.specs.declared.places.SectionPlace.{SectionPlace}
use Rattle.asm_base.specs.declared.positions.Pos.{Pos}
use Rattle.asm_expr.specs.Coefficients.{coefficient}
use Rattle.asm_expr.specs.Forms.{Form}
use Rattle.asm_symbols.specs.declared.entries.Meaning.{Meaning}
use Rattle.asm_symbols.specs.declared.entries.Meaning.TheVariants as meaning
use Rattle.asm_symbols.specs.declared.entries.Symbol.{Symbol}
use Rattle.asm_symbols.specs.SymbolMap.{SymbolMap}
use Rattle.asm_frags.specs.declared.fields.Field.{Field}
use Rattle.asm_frags.specs.declared.fields.FieldSize.TheVariants.{Four}
use Rattle.asm_frags.specs.Addresses.{item_laid_at}
use Rattle.asm_frags.specs.Fields.{growth_role, is_distance, own_place}
use Rattle.asm_frags.specs.SectionOf.{SectionOf}
use Rattle.asm_frags.specs.Substituting.{substituted_field, laid_item, laid_section}
use Rattle.asm_frags.specs.Writing.{LooseItem, LooseSection, new_item, item_behind, with_growing}
use Rattle.assigned_forms.specs.Linked.{linked}
use Rattle.item_bytes.specs.declared.jumps.Condition.{Condition}
use Rattle.item_contents.specs.declared.contents.Content.TheVariants.{Growing}
use Rattle.item_contents.specs.declared.kinds.Growth.TheVariants.{Jump}
use Rattle.row_distances.specs.Places.{meant_place, place_of}
use Rattle.item_rows.specs.ItemRows.{own_of}
use Rattle.asm_relax.specs.ItemValues.{StandsIn, NamesOwnPlace, IsInItem}
use Rattle.asm_relax.specs.KeptSections.{kept_section, kept_items, LayoutsKeepSections}
use Rattle.asm_relax.specs.SettledRoom.{HasRoomFor, SettledHaveRoom}
use Rattle.asm_relax.specs.Settling.{LaidItem, LaidSections, planned, settled_sections}
use Rattle.att_insns.specs.InsnTexts.{InsnText}
use Rattle.asm_values.specs.State.{Placed}
use Rattle.asm_place.specs.Instructions.{with_more, IsContinued}
use Rattle.asm_place.specs.JumpPlaces.{IsJumpPut, jump_form, items_so_far, jump_field}
use Rattle.asm_place.specs.SymbolPlaces.{HasItems, MeaningStands}
use Rattle.place_laws.specs.Ends.{items_in, size_at}
use Rattle.place_laws.specs.Jumps.{laid_jump_field}
use Rattle.place_laws.specs.Low.{LayoutsAreLow}
use Rattle.code_laws.specs.Sections.{IsLoadedLater}
use Rattle.target_laws.specs.Targets.{NamesNoField}
use Rattle.target_laws.specs.Jumps.{jump_length}
use Rattle.target_laws.specs.Rooms.{StandIn, JumpFieldsStand, JumpsHaveRoom}
use Rattle.target_laws.proofs.Elements.{get_set, All-there, get_first, get_last}
use Rattle.target_laws.proofs.OwnPlaces.{names_own_place, constant_small}

-- what is known of layouts
pub record Facts : Type 0 where
  pub layouts : LayoutsKeepSections
  pub low : LayoutsAreLow
  pub room : SettledHaveRoom

-- SYMBOLS IN SECTIONS

-- a section keeps its items where it is laid out
planned_stands : (symbols : SymbolMap) (sections : List LooseSection) (place : SectionPlace) → HasItems sections place.section place.place.item → StandsIn (planned symbols sections) place
unfolding planned
planned_stands symbols sections place has =
    let count = length-map has.section.items laid_item in
    let enough = has.enough in
    record {
      section = laid_section (linked symbols) has.section;
      there = slice_get-map (laid_section (linked symbols)) sections place.section ∙ ap (option_map (laid_section (linked symbols))) has.there;
      within = omega (arith, count, enough);
    }

module _ (symbols : SymbolMap) (sections : List LooseSection) (last : ℕ) (stand : All (λ (symbol : Symbol). MeaningStands sections last symbol.meaning) symbols.symbols) where
  by_meaning : (meant : Meaning) (place : SectionPlace) → MeaningStands sections last meant → meant_place meant ≡ Some place → StandsIn (planned symbols sections) place
  by_meaning meaning.Undefined place stands is = absurd (none-some place is)
  by_meaning (meaning.Label spot) place stands is =
      let own : SectionPlace = spot.place in
      subst (StandsIn (planned symbols sections)) (same_Some own place is) (planned_stands symbols sections own stands)
  by_meaning (meaning.Common size align) place stands is = absurd (none-some place is)
  by_meaning (meaning.Space spot) place stands is =
      let own : SectionPlace = spot.place in
      subst (StandsIn (planned symbols sections)) (same_Some own place is) (planned_stands symbols sections own stands)
  by_meaning (meaning.Assigned form) place stands is = absurd (none-some place is)

  by_symbol : (index : ℕ) (found : Option Symbol) (place : SectionPlace) → slice_get symbols.symbols index ≡ found
      → option_map_or (λ (symbol : Symbol). meant_place symbol.meaning) found None ≡ Some place → StandsIn (planned symbols sections) place
  by_symbol index None place there is = absurd (none-some place is)
  by_symbol index (Some symbol) place there is =
      by_meaning symbol.meaning place (All-there (λ (one : Symbol). MeaningStands sections last one.meaning) symbols.symbols index symbol there stand) is

  -- all places that a field counts on stand there, where its own does
  module _ (field : Field) (own : HasItems sections field.section field.item) where
    by_test : (test : Bool) (index : ℕ) (place : SectionPlace)
        → cond test (Some (own_of field).place) (option_map_or (λ (symbol : Symbol). meant_place symbol.meaning) (slice_get symbols.symbols index) None) ≡ Some place
        → StandsIn (planned symbols sections) place
    by_test true index place is = subst (StandsIn (planned symbols sections)) (same_Some (own_of field).place place is) (planned_stands symbols sections (own_of field).place own)
    by_test false index place is = by_symbol index (slice_get symbols.symbols index) place refl is

    pub places_stand : (index : ℕ) (place : SectionPlace) → place_of symbols (own_of field) index ≡ Some place → StandsIn (planned symbols sections) place
    unfolding place_of
    places_stand index place is = by_test (index == own_place) index place is

-- THE JUMP

-- the field of a jump stands in its item
pub jump_fields_stand : JumpFieldsStand
jump_fields_stand symbols sections field stand there is = record {
  in_item = is.in_item;
  behind = is.behind;
  own = subst (λ kind. NamesOwnPlace (is_distance kind) (linked symbols field.form)) (sym is.holds.kind)
      (ap (λ (f : Form). coefficient (linked symbols f) own_place) is.holds.form ∙ names_own_place symbols stand.expandable is.holds.target is.holds.plain);
  constant = subst (λ (f : Form). (linked symbols f).constant < 2 ^ 64) (sym is.holds.form) (constant_small symbols stand.expandable is.holds.target is.holds.plain);
  places = places_stand symbols sections stand.last stand.stand (substituted_field (linked symbols) field) there;
}

module _ (facts : Facts) (symbols : SymbolMap) (laid : LaidSections) (pos : Pos) (tokens : List SpelledToken) (text : InsnText) (condition : Option Condition)
    (before placed : Placed) (code : List ℕ) (put : IsJumpPut pos tokens text condition before placed) (later : IsLoadedLater symbols laid before.current placed.sections code)
    (stand : StandIn symbols later.later) (plain : NamesNoField put.jump.forms.displacement) where
  abbrev n : ℕ
  n = before.current

  abbrev first : LooseSection
  first = put.section

  abbrev form : Form
  form = jump_form put.jump.forms

  abbrev new : LooseSection
  new = with_growing pos n (Jump condition) text.displacement.suffix form first

  abbrev index : ℕ
  index = length first.items

  abbrev number : ℕ
  number = length first.fields

  placed_there : slice_get placed.sections n ≡ Some new
  placed_there = ap (λ (all : List LooseSection). slice_get all n) put.put ∙ get_set before.sections n first new put.there

  more : IsContinued new (slice_get later.later n)
  more = later.grows.kept n new placed_there

  abbrev whole : LooseSection
  whole = with_more new more.bytes more.fields more.items

  -- its item and its field
  abbrev item_put : LooseItem
  item_put = item_behind (length first.bytes) (new_item pos (Growing (record { kind = Jump condition; field = number })))

  abbrev field_put : Field
  field_put = record {
    pos = pos;
    item = length first.items + 1;
    offset = length first.bytes;
    section = n;
    size = Four;
    role = growth_role (Jump condition) text.displacement.suffix;
    in_item = true;
    form = form;
  }

  so_far : items_so_far before ≡ index
  so_far = ap (λ f. option_map_or (λ (s : LooseSection). length s.items) f 0) put.there

  field_is : jump_field pos text form before ≡ field_put
  field_is =
      ap (λ k. record (jump_field pos text form before) { item = k + 1 }) so_far
      ∙ ap (λ k. record (jump_field pos text form before) { item = length first.items + 1; offset = k })
      (ap (λ f. option_map_or (λ (s : LooseSection). length s.bytes) f 0) put.there)

  item_there : slice_get whole.items index ≡ Some item_put
  item_there = get_first (first.items ++ item_put ∷ []) more.items index item_put (get_last first.items item_put)

  field_there : slice_get whole.fields number ≡ Some field_put
  field_there = get_first (first.fields ++ field_put ∷ []) more.fields number field_put (get_last first.fields field_put)

  -- in the layout
  own_shifts : (own : List ℕ) × (slice_get laid n ≡ Some (kept_section symbols own whole))
  own_shifts = facts.layouts.section symbols later.later laid n whole later.is more.there

  abbrev kept : SectionOf LaidItem
  kept = kept_section symbols own_shifts.0 whole

  got_item : (address : ℕ) × (size : ℕ) × (slice_get (kept_items own_shifts.0 whole.items) index ≡ Some (item_laid_at address size (laid_item item_put)))
  got_item = facts.layouts.item whole.items own_shifts.0 index item_put item_there

  abbrev one : LaidItem
  one = item_laid_at got_item.0 got_item.1 (laid_item item_put)

  abbrev own : Field
  own = substituted_field (linked symbols) field_put

  field_kept : slice_get kept.fields number ≡ Some own
  field_kept = slice_get-map (substituted_field (linked symbols)) whole.fields number ∙ ap (option_map (substituted_field (linked symbols))) field_there

  items_are : items_in laid n ≡ kept.items
  items_are = ap (λ found. option_map_or (λ (s : SectionOf LaidItem). s.items) found []) own_shifts.1

  size_is : jump_length laid before ≡ got_item.1
  size_is =
      ap (λ (items : List LaidItem). size_at items (items_so_far before)) items_are ∙ ap (size_at kept.items) so_far
      ∙ ap (λ found. option_map_or (λ (i : LaidItem). i.size) found 0) got_item.2

  -- the field stands in the item
  own_item : HasItems later.later field_put.section field_put.item
  own_item =
      let some = slice_get_within whole.items index item_put item_there in
      record { section = whole; there = more.there; enough = omega (arith, some) }

  in_item : IsInItem symbols (planned symbols later.later) own
  in_item =
      jump_fields_stand symbols later.later field_put stand own_item
      (record { in_item = refl; behind = refl; holds = record { kind = refl; target = put.jump.forms.displacement; plain = plain; form = refl } })

  abbrev Room : LaidSections → ℕ → Field → Type 0
  Room all size field = HasRoomFor symbols all (Jump condition) size field

  pub has_room : Room laid (jump_length laid before) (laid_jump_field symbols pos tokens text condition before placed put)
  has_room =
      let settled : laid ≡ settled_sections symbols (planned symbols later.later) = facts.layouts.settled symbols later.later laid later.is in
      let room : Room (settled_sections symbols (planned symbols later.later)) got_item.1 own =
      facts.room symbols (planned symbols later.later) n index number kept one (Jump condition) own (facts.low.rows symbols later.later laid later.is later.within) in_item
      (ap (λ (all : LaidSections). slice_get all n) (sym settled) ∙ own_shifts.1) got_item.2 refl field_kept in
      subst (λ (field : Field). Room laid (jump_length laid before) field) (ap (substituted_field (linked symbols)) (sym field_is))
      (subst (λ size. Room laid size own) (sym size_is) (subst (λ (all : LaidSections). Room all got_item.1 own) (sym settled) room))

pub jumps_have_room : Facts → JumpsHaveRoom
jumps_have_room facts symbols laid pos tokens text condition before placed code put later stand plain =
    has_room facts symbols laid pos tokens text condition before placed code put later stand plain
