-- A form that leaves no weak symbol to the linker weighs as much as its expansion.
use Rattle.std.proofs.Common.{◌≡◌, ℕ, zero, suc, ◌*◌, ◌^◌, ◌||◌, inl, inr, Bool, true, false, List, [], ◌∷◌, map, Option, Some, None, refl, sym, ap, ◌∙◌, arith}
use Rattle.std.specs.Prelude.{option_map, is_some, slice_get}
use Rattle.std.specs.Option.{option_map_or}
use Rattle.std.specs.List.{list_any}
use Rattle.std.proofs.lemmas.Bool.{and_parts}
use Rattle.std.proofs.lemmas.Nat.{mul-mod_second}
use Rattle.std.proofs.lemmas.Option.{none-some}
use Rattle.asm_expr.specs.declared.forms.Term.{Term}
use Rattle.asm_expr.specs.Forms.{Form, wrapped}
use Rattle.asm_symbols.specs.declared.entries.Symbol.{Symbol}
use Rattle.asm_symbols.specs.Assigning.{form_of, form_at, IsNamedIn}
use Rattle.asm_symbols.specs.Attributes.{is_weak}
use Rattle.asm_symbols.specs.SymbolMap.{SymbolMap}
use Rattle.assigned_forms.specs.Expanding.{form_or_symbol, replacement, with_replaced, is_assigned, names_assigned, expanded}
use Rattle.assigned_forms.specs.Opened.{opened_if}
use Rattle.assigned_forms.specs.Linked.{comes_to_place, is_weak_alias, linked_map, linked, IsLinkedSymbol, NamesLinked}
use Rattle.flow_graph.specs.Targets.{is_weak_at, names_weak}
use Rattle.target_laws.proofs.Sums.{total, weighed, weighed_symbol, replaced_form, expanded_keeps}

-- what is known of expansions where no form leads back to its symbol
pub record AreExact (map : SymbolMap) : Type 0 where
  pub sum : (made : Form) → names_assigned map made ≡ true → expanded map made ≡ with_replaced (replacement (expanded map) map) made
  pub none : (made : Form) → names_assigned map made ≡ false → expanded map made ≡ made
  pub left : (made : Form) → NamesLinked map (linked map made)

-- SYMBOLS OF WHICH SOME ARE UNDEFINED

-- a form that is left was there before
form_left : (test : Symbol → Bool) (all : List Symbol) (index : ℕ) (form : Form) → form_at (map (λ symbol. opened_if (test symbol) symbol) all) index ≡ Some form
    → form_at all index ≡ Some form
form_left test [] index form is = is
form_left test (symbol ∷ all) zero form is = by (test symbol) is
  where
    by : (undefined : Bool) → form_of (opened_if undefined symbol).meaning ≡ Some form → form_of symbol.meaning ≡ Some form
    by true none = absurd (none-some form none)
    by false same = same
form_left test (symbol ∷ all) (suc index) form is = form_left test all index form is

pub linked_form : (symbols : SymbolMap) (index : ℕ) (form : Form) → form_at (linked_map symbols).symbols index ≡ Some form → form_at symbols.symbols index ≡ Some form
unfolding linked_map
linked_form symbols index form is = form_left (is_weak_alias symbols) symbols.symbols index form is

-- one of two tests that fail together
first_of : (a b : Bool) → (a || b) ≡ false → (a ≡ false) × (b ≡ false)
first_of true b is = absurd cc
first_of false b is = (refl, is)

not_some : (found : Option Form) → is_some found ≡ false → found ≡ None
not_some None is = refl
not_some (Some form) is = absurd cc

-- WEIGHTS OF EXPANSIONS

module _ (map : SymbolMap) (exact : AreExact map) (number : Bool) (weight : ℕ → ℕ) where
  -- what the expansion of a symbol weighs
  abbrev expansion_weight : ℕ → ℕ
  expansion_weight symbol = weighed number weight (replacement (expanded map) map symbol)

  plain_total : (terms : List Term) → list_any (is_assigned map) terms ≡ false → wrapped (total number weight terms) ≡ wrapped (total number expansion_weight terms)
  plain_total [] is = refl
  plain_total (term ∷ terms) is =
      let parts = first_of (is_assigned map term) (list_any (is_assigned map) terms) is in
      let unassigned : form_at map.symbols term.symbol ≡ None = not_some (form_at map.symbols term.symbol) parts.0 in
      let here : expansion_weight term.symbol ≡ wrapped (weight term.symbol) =
      ap (λ (found : Option Form). weighed number weight (form_or_symbol term.symbol (option_map (expanded map) found))) unassigned ∙ weighed_symbol number weight term.symbol in
      let same : term.coefficient * expansion_weight term.symbol ≡ term.coefficient * wrapped (weight term.symbol) = ap (λ (n : ℕ). term.coefficient * n) here in
      let second = mul-mod_second term.coefficient (weight term.symbol) (2 ^ 64) in
      let later = plain_total terms parts.1 in
      omega (arith, same, second, later)

  expanded_weight : (made : Form) → weighed number weight (expanded map made) ≡ weighed number expansion_weight made
  expanded_weight made = by (names_assigned map made) refl
    where
      by : (b : Bool) → names_assigned map made ≡ b → weighed number weight (expanded map made) ≡ weighed number expansion_weight made
      by true some = ap (weighed number weight) (exact.sum made some) ∙ replaced_form number weight expansion_weight (replacement (expanded map) map) (λ symbol. refl) made
      by false none = ap (weighed number weight) (exact.none made none) ∙ (let terms = plain_total made.terms none in omega (arith, terms))

  assigned_weight : (symbol : ℕ) (made : Form) → form_at map.symbols symbol ≡ Some made → weighed number expansion_weight made ≡ expansion_weight symbol
  assigned_weight symbol made is =
      sym (expanded_weight made) ∙ sym (ap (λ (found : Option Form). weighed number weight (form_or_symbol symbol (option_map (expanded map) found))) is)

  low_weight : (symbol : ℕ) → wrapped (expansion_weight symbol) ≡ expansion_weight symbol
  low_weight symbol = omega arith

  linked_weight : (made : Form) → weighed number expansion_weight (linked map made) ≡ weighed number expansion_weight made
  unfolding linked
  linked_weight made =
      expanded_keeps number expansion_weight (linked_map map) low_weight (λ symbol found is. assigned_weight symbol found (linked_form map symbol found is)) made

  -- where all symbols are put in, the form for the linker weighs as much as the expansion
  pub linked_as_expanded : (made : Form) → names_assigned map (linked map made) ≡ false → weighed number weight (linked map made) ≡ weighed number weight (expanded map made)
  linked_as_expanded made clean =
      ap (weighed number weight) (sym (exact.none (linked map made) clean)) ∙ expanded_weight (linked map made) ∙ linked_weight made ∙ sym (expanded_weight made)

-- WEAK SYMBOLS

-- a symbol that is left and is not weak is no assigned one
unassigned_symbol : (map : SymbolMap) (symbol : Symbol) → IsLinkedSymbol map symbol → is_weak symbol.binding ≡ false → is_some (form_of symbol.meaning) ≡ false
unassigned_symbol map symbol (inl plain) strong = plain
unassigned_symbol map symbol (inr alias) strong =
    let weak = (and_parts (is_weak symbol.binding) (comes_to_place map (option_map (expanded map) (form_of symbol.meaning))) alias).0 in
    absurd cc

unassigned_at : (map : SymbolMap) (index : ℕ) (found : Option Symbol) → slice_get map.symbols index ≡ found
    → ((symbol : Symbol) → slice_get map.symbols index ≡ Some symbol → IsLinkedSymbol map symbol) → is_weak_at map index ≡ false
    → is_some (form_at map.symbols index) ≡ false
unassigned_at map index None is left strong = ap (λ (f : Option Symbol). is_some (elim f [ None ↦ None | Some symbol ↦ form_of symbol.meaning ])) is
unassigned_at map index (Some symbol) is left strong =
    ap (λ (f : Option Symbol). is_some (elim f [ None ↦ None | Some symbol ↦ form_of symbol.meaning ])) is
    ∙ unassigned_symbol map symbol (left symbol is) (sym (ap (λ f. option_map_or (λ (s : Symbol). is_weak s.binding) f false) is) ∙ strong)

unassigned_terms : (map : SymbolMap) (terms : List Term) → ((index : ℕ) (symbol : Symbol) → IsNamedIn terms index → slice_get map.symbols index ≡ Some symbol → IsLinkedSymbol map symbol)
    → list_any (λ term. is_weak_at map term.symbol) terms ≡ false → list_any (is_assigned map) terms ≡ false
unassigned_terms map [] left strong = refl
unassigned_terms map (term ∷ terms) left strong =
    let parts = first_of (is_weak_at map term.symbol) (list_any (λ term. is_weak_at map term.symbol) terms) strong in
    let here = unassigned_at map term.symbol (slice_get map.symbols term.symbol) refl (λ symbol is. left term.symbol symbol (inl refl) is) parts.0 in
    ap (λ b. b || list_any (is_assigned map) terms) here
    ∙ unassigned_terms map terms (λ index symbol named is. left index symbol (inr named) is) parts.1

-- a form that names no weak symbol names no assigned one, once all but weak aliases are put in
pub strong_unassigned : (map : SymbolMap) → AreExact map → (made : Form) → names_weak map (linked map made) ≡ false → names_assigned map (linked map made) ≡ false
strong_unassigned map exact made strong = unassigned_terms map (linked map made).terms (exact.left made) strong
