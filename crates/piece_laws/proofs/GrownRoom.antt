-- What grows has room for the distance that it holds.
use Rattle.std.proofs.Common.{◌≡◌, ℕ, ◌+◌, ◌^◌, ◌<◌, ◌≤◌, inl, inr, Bool, true, false, cond, List, All, Option, Some, None, length, refl, sym, ap, ◌∙◌, subst, arith}
use Rattle.std.specs.Prelude.{◌==◌, slice_get, option_map}
use Rattle.std.specs.Option.{option_map_or}
use Rattle.std.proofs.lemmas.List.{length-map}
use Rattle.std.proofs.lemmas.Option.{none-some, same_Some, slice_get-map}
use Rattle.asm_base.specs.declared.places.SectionPlace.{SectionPlace}
use Rattle.asm_base.specs.declared.positions.Pos.{Pos}
use Rattle.asm_expr.specs.Coefficients.{is_among}
use Rattle.asm_expr.specs.Forms.{Form}
use Rattle.asm_symbols.specs.declared.entries.Meaning.{Meaning}
use Rattle.asm_symbols.specs.declared.entries.Meaning.TheVariants as meaning
use Rattle.asm_symbols.specs.declared.entries.Symbol.{Symbol}
use Rattle.asm_symbols.specs.SymbolMap.{SymbolMap}
use Rattle.asm_frags.specs.declared.fields.Field.{Field}
use Rattle.asm_frags.specs.Fields.{is_distance, own_place, growth_role}
use Rattle.asm_frags.specs.Substituting.{substituted_field, laid_item, laid_section}
use Rattle.asm_frags.specs.Writing.{LooseSection}
use Rattle.assigned_forms.specs.Linked.{linked}
use Rattle.item_contents.specs.declared.contents.Content.TheVariants.{Growing}
use Rattle.item_contents.specs.declared.kinds.Growth.{Growth}
use Rattle.row_distances.specs.Places.{meant_place, place_of}
use Rattle.item_rows.specs.ItemRows.{own_of}
use Rattle.asm_relax.specs.ItemValues.{StandsIn, NamesOwnPlace, IsInItem}
use Rattle.asm_relax.specs.SettledRoom.{HasRoomFor}
use Rattle.asm_relax.specs.Settling.{LaidItem, LaidSections, planned, settled_sections}
use Rattle.table_pieces.specs.declared.ends.SectionEnd.{SectionEnd}
use Rattle.table_pieces.specs.Found.{grown_field}
use Rattle.table_pieces.specs.StandingPlaces.{HoldsItems}
use Rattle.piece_laws.specs.HeldDistances.{IsBetweenPlaces}
use Rattle.table_pieces.specs.Ready.{SymbolHolds}
use Rattle.piece_laws.proofs.Lists.{all_there}
use Rattle.piece_laws.proofs.SectionInFile as section_in_file
use Rattle.piece_laws.proofs.TableSections.{PieceFacts, TableSection, kept}

-- a section keeps its items where it is laid out
planned_stands : (symbols : SymbolMap) (sections : List LooseSection) (place : SectionPlace) → HoldsItems sections place.section place.place.item → StandsIn (planned symbols sections) place
unfolding planned
planned_stands symbols sections place has =
    let count = length-map has.held.items laid_item in
    let enough = has.enough in
    record {
      section = laid_section (linked symbols) has.held;
      there = slice_get-map (laid_section (linked symbols)) sections place.section ∙ ap (option_map (laid_section (linked symbols))) has.there;
      within = omega (arith, count, enough);
    }

module _ (symbols : SymbolMap) (sections : List LooseSection) (stand : All (SymbolHolds sections) symbols.symbols) where
  by_meaning : (symbol : Symbol) (meant : Meaning) (place : SectionPlace) → symbol.meaning ≡ meant → SymbolHolds sections symbol → meant_place meant ≡ Some place
      → StandsIn (planned symbols sections) place
  by_meaning symbol meaning.Undefined place means holds is = absurd (none-some place is)
  by_meaning symbol (meaning.Label spot) place means holds is =
      let own : SectionPlace = spot.place in
      subst (StandsIn (planned symbols sections)) (same_Some own place is) (planned_stands symbols sections own (holds spot (inl means)))
  by_meaning symbol (meaning.Common size align) place means holds is = absurd (none-some place is)
  by_meaning symbol (meaning.Space spot) place means holds is =
      let own : SectionPlace = spot.place in
      subst (StandsIn (planned symbols sections)) (same_Some own place is) (planned_stands symbols sections own (holds spot (inr means)))
  by_meaning symbol (meaning.Assigned form) place means holds is = absurd (none-some place is)

  by_symbol : (index : ℕ) (found : Option Symbol) (place : SectionPlace) → slice_get symbols.symbols index ≡ found
      → option_map_or (λ (symbol : Symbol). meant_place symbol.meaning) found None ≡ Some place → StandsIn (planned symbols sections) place
  by_symbol index None place there is = absurd (none-some place is)
  by_symbol index (Some symbol) place there is =
      by_meaning symbol symbol.meaning place refl (all_there (SymbolHolds sections) symbols.symbols index symbol there stand) is

  module _ (field : Field) (own_stands : StandsIn (planned symbols sections) (own_of field).place) where
    by_test : (test : Bool) (index : ℕ) (place : SectionPlace)
        → cond test (Some (own_of field).place) (option_map_or (λ (symbol : Symbol). meant_place symbol.meaning) (slice_get symbols.symbols index) None) ≡ Some place
        → StandsIn (planned symbols sections) place
    by_test true index place is = subst (StandsIn (planned symbols sections)) (same_Some _ place is) own_stands
    by_test false index place is = by_symbol index (slice_get symbols.symbols index) place refl is

    places_stand : (index : ℕ) (place : SectionPlace) → place_of symbols (own_of field) index ≡ Some place → StandsIn (planned symbols sections) place
    unfolding place_of
    places_stand index place is = by_test (index == own_place) index place is

-- what grows holds a number as it is
pub record HoldsNumber (kind : Growth) : Type 0 where
  pub plain : is_distance (growth_role kind None).kind ≡ false
  pub bare : (growth_role kind None).suffix ≡ None
  pub behind : (growth_role kind None).behind ≡ 0

-- the item of what grows, which holds a distance between places, has the size of a level at which there is room for it
pub grown_room : (facts : PieceFacts) (t : TableSection) (pos : Pos) (end : SectionEnd) (kind : Growth) (form : Form) (index : ℕ) (found : LaidItem)
    → HoldsNumber kind → linked t.symbols form ≡ form → IsBetweenPlaces form → end.items + 1 ≤ length t.held.items
    → slice_get (kept facts t).items end.items ≡ Some found → found.content ≡ Growing (record { kind = kind; field = index })
    → slice_get t.held.fields index ≡ Some (grown_field kind t.number pos end form)
    → HasRoomFor t.symbols t.laid kind found.size (substituted_field (linked t.symbols) (grown_field kind t.number pos end form))
grown_room facts t pos end kind form index found role same apart enough there content has =
    let field : Field = substituted_field (linked t.symbols) (grown_field kind t.number pos end form) in
    let all = planned t.symbols t.sections in
    let settled_is : t.laid ≡ settled_sections t.symbols all = facts.file.layouts.settled t.symbols t.sections t.laid t.is in
    let own : StandsIn all (own_of field).place =
    planned_stands t.symbols t.sections (own_of field).place (record { held = t.held; there = t.found; enough = enough }) in
    let in_item : IsInItem t.symbols all field = record {
      in_item = refl;
      behind = role.behind;
      own = subst (λ (b : Bool). NamesOwnPlace b field.form) (sym role.plain) (subst (λ (f : Form). is_among own_place f.terms ≡ false) (sym same) apart.own);
      constant = subst (λ (f : Form). f.constant < 2 ^ 64) (sym same) apart.small;
      places = places_stand t.symbols t.sections t.stand field own;
    } in
    subst (λ (laid : LaidSections). HasRoomFor t.symbols laid kind found.size field) (sym settled_is)
    (facts.room t.symbols all t.number end.items index (kept facts t) found kind field t.rows in_item
    (ap (λ (laid : LaidSections). slice_get laid t.number) (sym settled_is)
    ∙ section_in_file.kept_there facts.file t.symbols t.sections t.laid t.number t.held t.is t.found t.takes t.low) there content
    (section_in_file.field_there facts.file t.symbols t.sections t.laid t.number t.held t.is t.found t.takes t.low index
    (grown_field kind t.number pos end form) has))
