-- The targets of fields: the one symbol of a form, forms without assigned symbols, and targets inside the function.
use Rattle.std.proofs.Common.{◌≡◌, ◌<◌, ℕ, ◌+◌, Bool, true, false, cond, ◌==◌, ◌||◌, List, [], ◌∷◌, length, drop, get_or, Option, None, Some, is_some, refl, sym, ap, ◌∙◌, arith}
use Rattle.std.specs.Prelude.{slice_get, filter, if◌then◌else◌}
use Rattle.std.specs.List.{list_any}
use Rattle.std.specs.Option.{option_map, option_map_or, option_and_then}
use Rattle.std.proofs.lemmas.Option.{slice_get-map}
use Rattle.std.proofs.lemmas.List.{drop_more}
use Rattle.std.proofs.lemmas.Bool.Decides.{nat_tests}
use Rattle.asm_base.specs.declared.places.Place.{Place}
use Rattle.asm_expr.specs.declared.forms.Term.{Term}
use Rattle.asm_expr.specs.Forms.{Form}
use Rattle.asm_frags.specs.declared.fields.Field.{Field}
use Rattle.asm_symbols.specs.declared.entries.Meaning.{Meaning}
use Rattle.asm_symbols.specs.declared.entries.Meaning.TheVariants as meaning
use Rattle.asm_symbols.specs.declared.entries.Symbol.{Symbol}
use Rattle.asm_symbols.specs.Assigning.{form_of, form_at}
use Rattle.asm_symbols.specs.SymbolMap.{SymbolMap}
use Rattle.assigned_forms.specs.Expanding.{is_assigned, names_assigned, expanded}
use Rattle.assigned_forms.specs.Opened.{opened_if}
use Rattle.assigned_forms.specs.Linked.{is_weak_alias, linked_map, linked}
use Rattle.code_functions.specs.declared.items.CodeItem.{CodeItem}
use Rattle.flow_graph.specs.declared.targets.Target.{Target}
use Rattle.flow_graph.specs.declared.targets.Target.TheVariants.{Inside, Outside, Unknown}
use Rattle.flow_graph.specs.Targets.{same_place, later_of, item_at, is_of_symbol, lone_term, lone_symbol, names_weak, by_plt, is_preemptible, label_target, meaning_target, symbol_target, field_target}
use Rattle.flow_graph.specs.Nodes.{item_target}

-- the one symbol of the terms, of which one may be found already
abbrev pub lone_from : Option ℕ → List Term → Option ℕ
lone_from None terms = lone_term terms
lone_from (Some symbol) [] = Some symbol
lone_from (Some symbol) (term ∷ terms) = None

module _ (map : SymbolMap) where
  -- tests of which none is true
  or_false : (a b : Bool) → a ≡ false → b ≡ false → (a || b) ≡ false
  or_false a b first second = grind arith

  or_parts : (a b : Bool) → (a || b) ≡ false → (a ≡ false) × (b ≡ false)
  or_parts true b is = cc
  or_parts false b is = (refl, is)

  -- a symbol that is no assigned one stays so where weak aliases are undefined
  opened_plain : (alias : Bool) (found : Option Symbol)
      → is_some (option_and_then (λ (symbol : Symbol). form_of symbol.meaning) found) ≡ false
      → is_some (option_and_then (λ (symbol : Symbol). form_of symbol.meaning) (option_map (λ symbol. opened_if (is_weak_alias map symbol) symbol) found)) ≡ false
  opened_plain alias None plain = refl
  opened_plain alias (Some symbol) plain = by (is_weak_alias map symbol)
    where
      by : (b : Bool) → is_some (form_of (opened_if b symbol).meaning) ≡ false
      by true = refl
      by false = plain

  -- so also the one at an index
  still_plain : (index : ℕ) → is_some (form_at map.symbols index) ≡ false → is_some (form_at (linked_map map).symbols index) ≡ false
  unfolding linked_map
  still_plain index plain =
      ap (λ (o : Option Symbol). is_some (option_and_then (λ (s : Symbol). form_of s.meaning) o)) (slice_get-map (λ symbol. opened_if (is_weak_alias map symbol) symbol) map.symbols index)
      ∙ opened_plain true (slice_get map.symbols index) plain

  -- a form that names no assigned symbol names none then
  none_named : (terms : List Term) → list_any (is_assigned map) terms ≡ false → list_any (is_assigned (linked_map map)) terms ≡ false
  none_named [] none = refl
  none_named (term ∷ terms) none =
      let parts = or_parts (is_assigned map term) (list_any (is_assigned map) terms) none in
      or_false (is_assigned (linked_map map) term) (list_any (is_assigned (linked_map map)) terms) (still_plain term.symbol parts.0) (none_named terms parts.1)

  -- the law of expanded forms that is used: a form that names no assigned symbol stays
  abbrev pub StaysPlain : Type 0
  StaysPlain = (symbols : SymbolMap) (form : Form) → names_assigned symbols form ≡ false → expanded symbols form ≡ form

  -- so it stays as it is there too
  pub plain_linked : StaysPlain → (form : Form) → names_assigned map form ≡ false → linked map form ≡ form
  unfolding linked
  plain_linked stays form plain = stays (linked_map map) form (none_named form.terms plain)

  -- what a field leads to whose form names no assigned symbol
  pub plain_target : StaysPlain → (section : ℕ) (items : List CodeItem) (field : Field) → names_assigned map field.form ≡ false
      → symbol_target map section items (by_plt field.role.suffix || names_weak map field.form) (lone_symbol field.form) ≡ field_target map section items field
  unfolding field_target
  plain_target stays section items field plain =
      ap (λ (form : Form). symbol_target map section items (by_plt field.role.suffix || names_weak map form) (lone_symbol field.form)) (sym (plain_linked stays field.form plain))
      ∙ ap (λ (form : Form). symbol_target map section items (is_preemptible map field) (lone_symbol form)) (sym (stays map field.form plain))

-- one term more of a symbol, that counts once, where none is found yet
pub lone_one : (term : Term) (terms : List Term) → term.coefficient ≡ 1 → lone_from (Some term.symbol) terms ≡ lone_term (term ∷ terms)
lone_one term [] is = ap (λ (n : ℕ). if n == 1 then Some term.symbol else None) (sym is)
lone_one term (other ∷ terms) is = refl

-- one that counts otherwise is no symbol alone
pub lone_many : (term : Term) (terms : List Term) → (term.coefficient ≡ 1 → ⊥) → lone_term (term ∷ terms) ≡ None
lone_many term [] away = grind (arith, nat_tests)
lone_many term (other ∷ terms) away = refl

-- the term at this number is of a symbol, or is not
pub symbols_more : (terms : List Term) (at : ℕ) (d : Term) → at < length terms → is_of_symbol (get_or terms at d) ≡ true
    → filter is_of_symbol (drop at terms) ≡ get_or terms at d ∷ filter is_of_symbol (drop (at + 1) terms)
symbols_more terms at d within is =
    ap (filter is_of_symbol) (drop_more terms at d within)
    ∙ ap (λ (b : Bool). cond b (get_or terms at d ∷ filter is_of_symbol (drop (at + 1) terms)) (filter is_of_symbol (drop (at + 1) terms))) is

-- a term of no symbol is left out
pub symbols_same : (terms : List Term) (at : ℕ) (d : Term) → at < length terms → is_of_symbol (get_or terms at d) ≡ false
    → filter is_of_symbol (drop at terms) ≡ filter is_of_symbol (drop (at + 1) terms)
symbols_same terms at d within is =
    ap (filter is_of_symbol) (drop_more terms at d within)
    ∙ ap (λ (b : Bool). cond b (get_or terms at d ∷ filter is_of_symbol (drop (at + 1) terms)) (filter is_of_symbol (drop (at + 1) terms))) is

-- a target is an item
abbrev pub IsTargetIn : (count : ℕ) → Target → Type 0
IsTargetIn count (Inside item preemptible) = item < count
IsTargetIn count Outside = Unit {0}
IsTargetIn count Unknown = Unit {0}

-- what is found behind the first element is in the list
later_within : (first : Bool) (found : Option ℕ) (count : ℕ) → ((item : ℕ) → found ≡ Some item → item < count) → (item : ℕ) → later_of first found ≡ Some item → item < count + 1
later_within first (Some behind) count each item is =
    let number : behind + 1 ≡ item = cc in
    let inside : behind < count = each behind refl in
    omega arith
later_within true None count each item is =
    let number : 0 ≡ item = cc in
    omega arith
later_within false None count each item is = absurd (cc)

-- the item that is found at a place is in the list
item_within : (items : List CodeItem) (place : Place) (item : ℕ) → item_at items place ≡ Some item → item < length items
item_within [] place item is = absurd (cc)
item_within (code ∷ items) place item is =
    let inside : item < length items + 1 = later_within (same_place code.place place) (item_at items place) (length items) (item_within items place) item is in
    omega arith

-- the target of a label is an item, and so is that of any meaning, symbol and field
label_in : (count : ℕ) (preemptible : Bool) (found : Option ℕ) → ((item : ℕ) → found ≡ Some item → item < count) → IsTargetIn count (label_target preemptible found)
label_in count preemptible None each = tt
label_in count preemptible (Some item) each = each item refl

module _ (section : ℕ) (items : List CodeItem) where
  -- of two targets that are items
  if_in : (count : ℕ) (test : Bool) (one other : Target) → IsTargetIn count one → IsTargetIn count other → IsTargetIn count (if test then one else other)
  if_in count true one other first second = first
  if_in count false one other first second = second

  -- by meanings
  meaning_in : (preemptible : Bool) (what : Meaning) → IsTargetIn (length items) (meaning_target section items preemptible what)
  meaning_in preemptible meaning.Undefined = tt
  meaning_in preemptible (meaning.Label spot) =
      if_in (length items) (spot.place.section == section) (label_target preemptible (item_at items spot.place.place)) Outside
      (label_in (length items) preemptible (item_at items spot.place.place) (item_within items spot.place.place)) tt
  meaning_in preemptible (meaning.Common size align) = tt
  meaning_in preemptible (meaning.Space spot) = tt
  meaning_in preemptible (meaning.Assigned form) = tt

  module _ (map : SymbolMap) where
    -- by symbols
    found_in : (preemptible : Bool) (found : Option Symbol)
        → IsTargetIn (length items) (option_map_or (λ (symbol : Symbol). meaning_target section items preemptible symbol.meaning) found Unknown)
    found_in preemptible None = tt
    found_in preemptible (Some symbol) = meaning_in preemptible symbol.meaning

    symbol_in : (preemptible : Bool) (symbol : Option ℕ) → IsTargetIn (length items) (symbol_target map section items preemptible symbol)
    symbol_in preemptible None = tt
    symbol_in preemptible (Some index) = found_in preemptible (slice_get map.symbols index)

    -- by fields
    field_in : (field : Field) → IsTargetIn (length items) (field_target map section items field)
    unfolding field_target
    field_in field = symbol_in (is_preemptible map field) (lone_symbol (expanded map field.form))

    there_in : (found : Option Field) → IsTargetIn (length items) (option_map_or (field_target map section items) found Unknown)
    there_in None = tt
    there_in (Some field) = field_in field

    -- the target of an item is one
    pub target_in : (fields : List Field) (item : CodeItem) → IsTargetIn (length items) (item_target map section fields items item)
    target_in fields item = there_in (option_and_then (slice_get fields) item.field)
