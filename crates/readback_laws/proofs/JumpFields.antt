-- The field of a jump stands in its item, and all symbols stand in the sections.
use Rattle.std.proofs.Common.{◌≡◌, ℕ, ◌+◌, ◌-◌, ◌^◌, ◌<◌, Bool, true, false, cond, List, [], ◌∷◌, All, Option, Some, None, map, length, refl, ap, ◌∙◌, subst, arith}
use Rattle.std.specs.Prelude.{◌==◌, slice_get, option_map}
use Rattle.std.specs.Option.{option_map_or}
use Rattle.std.proofs.lemmas.List.{length-map}
use Rattle.std.proofs.lemmas.Option.{none-some, same_Some, slice_get-map, slice_get_within}
use Rattle.asm_base.specs.declared.places.SectionPlace.{SectionPlace}
use Rattle.asm_base.specs.declared.positions.Pos.{Pos}
use Rattle.asm_expr.specs.declared.forms.Term.{Term}
use Rattle.asm_expr.specs.Forms.{Form, wrapped, constant_form, symbol_form, plus_times}
use Rattle.asm_symbols.specs.declared.entries.Meaning.{Meaning}
use Rattle.asm_symbols.specs.declared.entries.Meaning.TheVariants as meaning
use Rattle.asm_symbols.specs.declared.entries.Symbol.{Symbol}
use Rattle.asm_symbols.specs.SymbolMap.{SymbolMap}
use Rattle.asm_frags.specs.declared.fields.Field.{Field}
use Rattle.asm_frags.specs.Fields.{is_distance, own_place}
use Rattle.asm_frags.specs.Substituting.{substituted_field, laid_item, laid_section}
use Rattle.asm_frags.specs.Writing.{LooseSection}
use Rattle.item_bytes.specs.declared.jumps.Condition.{Condition}
use Rattle.assigned_forms.specs.Expanding.{replacement, plus_terms, with_replaced, names_assigned, expanded_within, expanded}
use Rattle.assigned_forms.specs.Linked.{linked_map, linked}
use Rattle.row_distances.specs.Places.{meant_place, place_of}
use Rattle.item_rows.specs.ItemRows.{own_of}
use Rattle.asm_relax.specs.ItemValues.{StandsIn, NamesOwnPlace, IsInItem}
use Rattle.asm_relax.specs.Settling.{planned}
use Rattle.asm_place.specs.Coding.{from_own_place}
use Rattle.asm_place.specs.JumpPlaces.{JumpStandsAt}
use Rattle.asm_place.specs.SymbolPlaces.{HasItems, MeaningStands}
use Rattle.readback_laws.proofs.Lists.{all_there}

-- THE CONSTANT

-- what is added up is a number modulo 2^64
wrapped_small : (n : ℕ) → wrapped n < 2 ^ 64
wrapped_small n = omega arith

plus_small : (made : Form) (factor : ℕ) (other : Form) → (plus_times made factor other).constant < 2 ^ 64
unfolding plus_times
plus_small made factor other = wrapped_small _

-- what a jump holds is less its own place
pub jump_constant : (form : Form) → (from_own_place form).constant < 2 ^ 64
jump_constant form = plus_small form (2 ^ 64 - 1) (symbol_form own_place)

terms_small : (replaces : ℕ → Form) (made : Form) (terms : List Term) → made.constant < 2 ^ 64 → (plus_terms replaces made terms).constant < 2 ^ 64
unfolding plus_terms
terms_small replaces made [] small = small
terms_small replaces made (term ∷ terms) small =
    terms_small replaces (plus_times made term.coefficient (replaces term.symbol)) terms (plus_small made term.coefficient (replaces term.symbol))

expanded_by : (test : Bool) (replaces : ℕ → Form) (form : Form) → form.constant < 2 ^ 64 → (cond test (with_replaced replaces form) form).constant < 2 ^ 64
expanded_by true replaces form small = terms_small replaces (constant_form form.constant) form.terms small
expanded_by false replaces form small = small

expanded_small : (map : SymbolMap) (form : Form) → form.constant < 2 ^ 64 → (expanded map form).constant < 2 ^ 64
unfolding expanded expanded_within
expanded_small map form small = expanded_by (names_assigned map form) (replacement (λ next. expanded_within (length map.symbols) map next) map) form small

linked_small : (map : SymbolMap) (form : Form) → form.constant < 2 ^ 64 → (linked map form).constant < 2 ^ 64
unfolding linked
linked_small map form small = expanded_small (linked_map map) form small

-- THE PLACES

-- a section keeps its items where it is laid out
planned_stands : (symbols : SymbolMap) (sections : List LooseSection) (place : SectionPlace) → HasItems sections place.section place.place.item → StandsIn (planned symbols sections) place
unfolding planned
planned_stands symbols sections place has =
    let count = length-map has.section.items laid_item in
    let enough = has.enough in
    record {
      section = laid_section (linked symbols) has.section;
      there = slice_get-map (laid_section (linked symbols)) sections place.section ∙ ap (option_map (laid_section (linked symbols))) has.there;
      within = omega (arith, count, enough);
    }

-- each symbol that has a place stands in the sections, and forms name symbols up to this number
abbrev pub StandUpTo : ℕ → List LooseSection → List Symbol → Type 0
StandUpTo last sections symbols = All (λ symbol. MeaningStands sections last symbol.meaning) symbols

module _ (symbols : SymbolMap) (sections : List LooseSection) (last : ℕ) (stand : StandUpTo last sections symbols.symbols) where
  by_meaning : (meant : Meaning) (place : SectionPlace) → MeaningStands sections last meant → meant_place meant ≡ Some place → StandsIn (planned symbols sections) place
  by_meaning meaning.Undefined place stands is = absurd (none-some place is)
  by_meaning (meaning.Label spot) place stands is =
      let own : SectionPlace = spot.place in
      subst (StandsIn (planned symbols sections)) (same_Some own place is) (planned_stands symbols sections own stands)
  by_meaning (meaning.Common size align) place stands is = absurd (none-some place is)
  by_meaning (meaning.Space spot) place stands is =
      let own : SectionPlace = spot.place in
      subst (StandsIn (planned symbols sections)) (same_Some own place is) (planned_stands symbols sections own stands)
  by_meaning (meaning.Assigned form) place stands is = absurd (none-some place is)

  by_symbol : (index : ℕ) (found : Option Symbol) (place : SectionPlace) → slice_get symbols.symbols index ≡ found
      → option_map_or (λ (symbol : Symbol). meant_place symbol.meaning) found None ≡ Some place → StandsIn (planned symbols sections) place
  by_symbol index None place there is = absurd (none-some place is)
  by_symbol index (Some symbol) place there is =
      by_meaning symbol.meaning place (all_there (λ (one : Symbol). MeaningStands sections last one.meaning) symbols.symbols index symbol there stand) is

  module _ (n item offset : ℕ) (pos : Pos) (condition : Option Condition) (field : Field) (stands : JumpStandsAt sections n item offset pos condition field)
      (of_section : field.section ≡ n) (behind_item : field.item ≡ item + 1) where
    own_stands : StandsIn (planned symbols sections) (own_of (substituted_field (linked symbols) field)).place
    own_stands =
        let some = slice_get_within stands.section.items item _ stands.item_there in
        planned_stands symbols sections (own_of field).place
        (record { section = stands.section; there = ap (slice_get sections) of_section ∙ stands.found; enough = omega (arith, behind_item, some) })

    by_test : (test : Bool) (index : ℕ) (place : SectionPlace)
        → cond test (Some (own_of (substituted_field (linked symbols) field)).place) (option_map_or (λ (symbol : Symbol). meant_place symbol.meaning) (slice_get symbols.symbols index) None)
        ≡ Some place → StandsIn (planned symbols sections) place
    by_test true index place is = subst (StandsIn (planned symbols sections)) (same_Some _ place is) own_stands
    by_test false index place is = by_symbol index (slice_get symbols.symbols index) place refl is

    places_stand : (index : ℕ) (place : SectionPlace) → place_of symbols (own_of (substituted_field (linked symbols) field)) index ≡ Some place
        → StandsIn (planned symbols sections) place
    unfolding place_of
    places_stand index place is = by_test (index == own_place) index place is

    -- the field stands in an item, where its form names its own place minus once
    pub stands_in_item : field.in_item ≡ true → field.role.behind ≡ 0 → NamesOwnPlace (is_distance field.role.kind) (linked symbols field.form)
        → field.form.constant < 2 ^ 64 → IsInItem symbols (planned symbols sections) (substituted_field (linked symbols) field)
    stands_in_item in_item behind own small = record {
      in_item = in_item;
      behind = behind;
      own = own;
      constant = linked_small symbols field.form small;
      places = places_stand;
    }
