-- The labels to which fields lead.
use Rattle.std.proofs.Common.{◌≡◌, ◌<◌, ℕ, zero, suc, Bool, true, false, ◌==◌, List, [], ◌∷◌, length, Option, None, Some, refl, sym, ap, ◌∙◌, arith}
use Rattle.std.specs.Prelude.{slice_get, filter, if◌then◌else◌}
use Rattle.std.specs.Option.{option_map_or}
use Rattle.std.proofs.lemmas.Option.{slice_get_within}
use Rattle.std.proofs.lemmas.Bool.Decides.{nat_tests}
use Rattle.asm_base.specs.declared.places.Place.{Place}
use Rattle.asm_expr.specs.declared.forms.Term.{Term}
use Rattle.asm_expr.specs.Forms.{Form, term_of}
use Rattle.asm_frags.specs.declared.fields.Field.{Field}
use Rattle.asm_symbols.specs.declared.entries.Spot.{Spot}
use Rattle.asm_symbols.specs.declared.entries.Meaning.{Meaning}
use Rattle.asm_symbols.specs.declared.entries.Meaning.TheVariants as meaning
use Rattle.asm_symbols.specs.declared.entries.Symbol.{Symbol}
use Rattle.asm_symbols.specs.SymbolMap.{SymbolMap}
use Rattle.assigned_forms.specs.Expanding.{expanded}
use Rattle.code_functions.specs.declared.items.CodeItem.{CodeItem}
use Rattle.flow_graph.specs.declared.targets.Target.{Target}
use Rattle.flow_graph.specs.declared.targets.Target.TheVariants.{Inside, Outside, Unknown}
use Rattle.flow_graph.specs.Targets.{item_at, is_of_symbol, lone_term, lone_symbol, is_preemptible, label_target, meaning_target, symbol_target, field_target}
use Rattle.flow_graph.specs.Rules.{LoneIsLeft, ComesTo, LeadsInside, TargetIsLabel}
use Rattle.flow_graph.proofs.LandingLemmas.{found_is_last, last_is_found}

-- the one term is of the symbol, once
lone_is : (terms : List Term) (symbol : ℕ) → lone_term terms ≡ Some symbol → terms ≡ term_of symbol 1 ∷ []
lone_is [] symbol is = absurd (cc)
lone_is (term ∷ []) symbol is = by (term.coefficient == 1) refl is
  where
    by : (b : Bool) → (term.coefficient == 1) ≡ b → (if b then Some term.symbol else None) ≡ Some symbol → term ∷ [] ≡ term_of symbol 1 ∷ []
    by true once found =
        let one : term.coefficient ≡ 1 = grind (arith, nat_tests) in
        let same : term.symbol ≡ symbol = cc in
        ap (λ (n : ℕ). term_of term.symbol n ∷ []) one ∙ ap (λ (n : ℕ). term_of n 1 ∷ []) same
    by false once found = absurd (cc)
lone_is (one ∷ other ∷ more) symbol is = absurd (cc)

-- such terms are of one symbol, once
lone_to : (terms : List Term) (symbol : ℕ) → terms ≡ term_of symbol 1 ∷ [] → lone_term terms ≡ Some symbol
lone_to terms symbol is = ap lone_term is

-- what is left of a form that is one symbol
lone_left : (form : Form) (symbol : ℕ) (b : Bool) → (form.constant == 0) ≡ b → (if b then lone_term (filter is_of_symbol form.terms) else None) ≡ Some symbol
    → (form.constant ≡ 0) × (filter is_of_symbol form.terms ≡ term_of symbol 1 ∷ [])
lone_left form symbol true zero_is is = (grind (arith, nat_tests), lone_is (filter is_of_symbol form.terms) symbol is)
lone_left form symbol false zero_is is = absurd (cc)

-- the one symbol is what is left of the form
pub lone_is_left : (form : Form) (symbol : ℕ) → LoneIsLeft form symbol
lone_is_left form symbol = (lone_left form symbol (form.constant == 0) refl, back)
  where
    back : (form.constant ≡ 0) × (filter is_of_symbol form.terms ≡ term_of symbol 1 ∷ []) → lone_symbol form ≡ Some symbol
    back left =
        ap (λ (n : ℕ). if n == 0 then lone_term (filter is_of_symbol form.terms) else None) left.0 ∙ lone_to (filter is_of_symbol form.terms) symbol left.1

-- no element is found only behind the last
past : (all : List Symbol) (index : ℕ) → slice_get all index ≡ None → index < length all → ⊥
past [] index is within = omega arith
past (symbol ∷ all) zero is within = cc
past (symbol ∷ all) (suc index) is within = past all index is (omega arith)

module _ (symbols : SymbolMap) (section : ℕ) (items : List CodeItem) (field : Field) where
  module _ (item : ℕ) (preemptible said : Bool) (index : ℕ) (comes : ComesTo symbols section items field index) where
    -- a target inside is that of a label, by its spot, its section and its meaning, and of a symbol that is there
    label_leads : (spot : Spot) (symbol : Symbol) → slice_get symbols.symbols index ≡ Some symbol → symbol.meaning ≡ meaning.Label spot → spot.place.section ≡ section
        → (found : Option ℕ) → item_at items spot.place.place ≡ found → label_target preemptible found ≡ Inside item said
        → LeadsInside symbols section items field item × (preemptible ≡ said)
    label_leads spot symbol there label in_section None found_is is = absurd (cc)
    label_leads spot symbol there label in_section (Some other) found_is is =
        let number : other ≡ item = cc in (
          record {
            symbol = index;
            place = spot.place.place;
            comes = comes;
            label = record { entry = symbol; spot = spot; there = there; label = label; in_section = in_section; at_place = refl };
            last = found_is_last spot.place.place items item (found_is ∙ ap (λ (n : ℕ). Some n) number);
          },
          cc,
        )

    spot_leads : (spot : Spot) (symbol : Symbol) → slice_get symbols.symbols index ≡ Some symbol → symbol.meaning ≡ meaning.Label spot
        → (b : Bool) → (spot.place.section == section) ≡ b → (if b then label_target preemptible (item_at items spot.place.place) else Outside) ≡ Inside item said
        → LeadsInside symbols section items field item × (preemptible ≡ said)
    spot_leads spot symbol there label true here is =
        let in_section : spot.place.section ≡ section = grind (arith, nat_tests) in
        label_leads spot symbol there label in_section (item_at items spot.place.place) refl is
    spot_leads spot symbol there label false here is = absurd (cc)

    meaning_leads : (symbol : Symbol) → slice_get symbols.symbols index ≡ Some symbol → (what : Meaning) → symbol.meaning ≡ what
        → meaning_target section items preemptible what ≡ Inside item said → LeadsInside symbols section items field item × (preemptible ≡ said)
    meaning_leads symbol there meaning.Undefined what_is is = absurd (cc)
    meaning_leads symbol there (meaning.Label spot) what_is is = spot_leads spot symbol there what_is (spot.place.section == section) refl is
    meaning_leads symbol there (meaning.Common size align) what_is is = absurd (cc)
    meaning_leads symbol there (meaning.Space spot) what_is is = absurd (cc)
    meaning_leads symbol there (meaning.Assigned form) what_is is = absurd (cc)

    found_leads : (found : Option Symbol) → slice_get symbols.symbols index ≡ found
        → option_map_or (λ (symbol : Symbol). meaning_target section items preemptible symbol.meaning) found Unknown ≡ Inside item said
        → LeadsInside symbols section items field item × (preemptible ≡ said)
    found_leads None found_is is = absurd (cc)
    found_leads (Some symbol) found_is is = meaning_leads symbol found_is symbol.meaning refl is

  symbol_leads : (item : ℕ) (preemptible said : Bool) (lone : Option ℕ) → lone_symbol (expanded symbols field.form) ≡ lone
      → symbol_target symbols section items preemptible lone ≡ Inside item said → LeadsInside symbols section items field item × (preemptible ≡ said)
  symbol_leads item preemptible said None comes is = absurd (cc)
  symbol_leads item preemptible said (Some index) comes is = found_leads item preemptible said index comes (slice_get symbols.symbols index) refl is

  -- a field that leads inside comes to such a label
  leads : (item : ℕ) (said : Bool) → field_target symbols section items field ≡ Inside item said
      → LeadsInside symbols section items field item × (is_preemptible symbols field ≡ said)
  unfolding field_target
  leads item said is = symbol_leads item (is_preemptible symbols field) said (lone_symbol (expanded symbols field.form)) refl is

  -- such a label is led to
  led : (item : ℕ) (said : Bool) → LeadsInside symbols section items field item × (is_preemptible symbols field ≡ said)
      → field_target symbols section items field ≡ Inside item said
  unfolding field_target
  led item said (it, preemptible) =
      let here : (it.label.spot.place.section == section) ≡ true = grind (arith, nat_tests, it.label.in_section) in
      ap (symbol_target symbols section items (is_preemptible symbols field)) it.comes
      ∙ ap (λ (o : Option Symbol). option_map_or (λ (s : Symbol). meaning_target section items (is_preemptible symbols field) s.meaning) o Unknown) it.label.there
      ∙ ap (meaning_target section items (is_preemptible symbols field)) it.label.label
      ∙ ap (λ (b : Bool). if b then label_target (is_preemptible symbols field) (item_at items it.label.spot.place.place) else Outside) here
      ∙ ap (λ (p : Place). label_target (is_preemptible symbols field) (item_at items p)) it.label.at_place
      ∙ ap (label_target (is_preemptible symbols field)) (last_is_found it.place items item it.last)
      ∙ ap (λ (b : Bool). Inside item b) preemptible

  -- what a symbol that is there leads to is known
  if_known : (b : Bool) (one : Target) → (one ≡ Unknown → ⊥) → (if b then one else Outside) ≡ Unknown → ⊥
  if_known true one known is = known is
  if_known false one known is = cc

  -- a label leads somewhere, and so does any other meaning
  label_known : (preemptible : Bool) (found : Option ℕ) → label_target preemptible found ≡ Unknown → ⊥
  label_known preemptible None is = cc
  label_known preemptible (Some item) is = cc

  meaning_known : (preemptible : Bool) (what : Meaning) → meaning_target section items preemptible what ≡ Unknown → ⊥
  meaning_known preemptible meaning.Undefined is = cc
  meaning_known preemptible (meaning.Label spot) is =
      if_known (spot.place.section == section) (label_target preemptible (item_at items spot.place.place)) (label_known preemptible (item_at items spot.place.place)) is
  meaning_known preemptible (meaning.Common size align) is = cc
  meaning_known preemptible (meaning.Space spot) is = cc
  meaning_known preemptible (meaning.Assigned form) is = cc

  -- a symbol that is there leads somewhere
  found_known : (preemptible : Bool) (index : ℕ) (found : Option Symbol) → slice_get symbols.symbols index ≡ found
      → option_map_or (λ (symbol : Symbol). meaning_target section items preemptible symbol.meaning) found Unknown ≡ Unknown → index < length symbols.symbols → ⊥
  found_known preemptible index None found_is is within = past symbols.symbols index found_is within
  found_known preemptible index (Some symbol) found_is is within = meaning_known preemptible symbol.meaning is

  unknown : field_target symbols section items field ≡ Unknown → (symbol : ℕ) → symbol < length symbols.symbols → ComesTo symbols section items field symbol → ⊥
  unfolding field_target
  unknown is symbol within comes =
      found_known (is_preemptible symbols field) symbol (slice_get symbols.symbols symbol) refl
      (sym (ap (symbol_target symbols section items (is_preemptible symbols field)) comes) ∙ is) within

  -- no symbol leads nowhere that is known
  none_known : (preemptible : Bool) (lone : Option ℕ) → ((symbol : ℕ) → symbol < length symbols.symbols → lone ≡ Some symbol → ⊥)
      → symbol_target symbols section items preemptible lone ≡ Unknown
  none_known preemptible None none = refl
  none_known preemptible (Some index) none = by (slice_get symbols.symbols index) refl
    where
      by : (found : Option Symbol) → slice_get symbols.symbols index ≡ found
          → option_map_or (λ (symbol : Symbol). meaning_target section items preemptible symbol.meaning) found Unknown ≡ Unknown
      by None found_is = refl
      by (Some symbol) found_is = absurd (none index (slice_get_within symbols.symbols index symbol found_is) refl)

  untraced : ((symbol : ℕ) → symbol < length symbols.symbols → ComesTo symbols section items field symbol → ⊥) → field_target symbols section items field ≡ Unknown
  unfolding field_target
  untraced none = none_known (is_preemptible symbols field) (lone_symbol (expanded symbols field.form)) none

  -- what fields lead to
  pub target_is_label : TargetIsLabel symbols section items field
  target_is_label = record {
    inside = λ item said. (leads item said, led item said);
    unknown = (unknown, untraced);
  }
