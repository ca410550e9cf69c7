-- Places and symbols stay in sections that are extended.
use Rattle.std.proofs.Common.{◌≡◌, ℕ, inl, inr, List, All, sym, ap, ◌∙◌, subst, arith, length, length-append}
use Rattle.std.proofs.lemmas.List.Elements.{All-append, All-weaker}
use Rattle.asm_base.specs.declared.places.Place.{Place}
use Rattle.asm_frags.specs.Writing.{LooseSection}
use Rattle.asm_symbols.specs.declared.entries.Meaning.TheVariants.{Label, Space}
use Rattle.asm_symbols.specs.declared.entries.Spot.{Spot}
use Rattle.asm_symbols.specs.declared.entries.Symbol.{Symbol}
use Rattle.asm_symbols.specs.SymbolMap.{SymbolMap}
use Rattle.table_pieces.specs.Ready.{IsInSection, SymbolHolds, SectionsKeepPlaces}
use Rattle.table_pieces.specs.Standing.{AllExtend}
use Rattle.table_pieces.specs.StandingPlaces.{HoldsItems, LabelStands, GetsStanding}

module _ (before after : List LooseSection) where
  -- a section keeps its items
  items_grow : (number items : ℕ) → AllExtend before after → HoldsItems before number items → HoldsItems after number items
  items_grow number items extend has =
      let now = extend number has.held has.there in
      let long = ap length now.2.all_items ∙ length-append has.held.items now.2.items in
      let enough = has.enough in
      record { held = now.0; there = now.1; enough = omega (arith, enough, long) }

  -- and the places in it
  place_grows : (number : ℕ) (place : Place) → AllExtend before after → IsInSection before number place → IsInSection after number place
  place_grows number place extend has =
      let now = extend number has.held has.there in
      let items = ap length now.2.all_items ∙ length-append has.held.items now.2.items in
      let bytes = ap length now.2.all_bytes ∙ length-append has.held.bytes now.2.bytes in
      let few = has.items in
      let low = has.bytes in
      record { held = now.0; there = now.1; items = omega (arith, few, items); bytes = omega (arith, low, bytes) }

  symbol_grows : AllExtend before after → (symbol : Symbol) → SymbolHolds before symbol → SymbolHolds after symbol
  symbol_grows extend symbol holds spot means = items_grow spot.place.section spot.place.place.item extend (holds spot means)

  -- a label stands where it is said to
  label_holds : (symbol : Symbol) → LabelStands after symbol → SymbolHolds after symbol
  label_holds symbol label spot (inl means) =
      let same : Label label.0 ≡ Label spot = sym label.1 ∙ means in
      let is : label.0 ≡ spot = cc in
      subst (λ (s : Spot). HoldsItems after s.place.section s.place.place.item) is label.2
  label_holds symbol label spot (inr means) =
      let same : Label label.0 ≡ Space spot = sym label.1 ∙ means in
      absurd cc

  -- all symbols stand with those of the table
  symbols_hold : (map labelled : SymbolMap) → AllExtend before after → All (SymbolHolds before) map.symbols → GetsStanding after map labelled
      → All (SymbolHolds after) labelled.symbols
  symbols_hold map labelled extend hold gets =
      subst (All (SymbolHolds after)) (sym gets.all)
      (All-append (SymbolHolds after) map.symbols gets.labels (All-weaker (SymbolHolds before) (SymbolHolds after) (symbol_grows extend) map.symbols hold)
      (All-weaker (LabelStands after) (SymbolHolds after) label_holds gets.labels gets.each))

pub keep_places : SectionsKeepPlaces
keep_places = record { items = items_grow; place = place_grows; symbols = symbols_hold }
