-- A field that leads to an item of a function is that of a branch to the place where it begins.
use Rattle.std.proofs.Common.{◌≡◌, ℕ, ◌+◌, ◌-◌, ◌*◌, ◌^◌, ◌==◌, ◌&&◌, ◌||◌, ◌⊎◌, inl, inr, Bool, true, false, cond, List, [], ◌∷◌, ◌++◌, length, Option, Some, None, refl, sym, ap, ◌∙◌, subst, arith, mul-zero, append-nil}
use Rattle.std.specs.Prelude.{filter, slice_get, option_map}
use Rattle.std.specs.Option.{option_map_or}
use Rattle.std.specs.List.{list_any}
use Rattle.std.proofs.lemmas.Bool.Decides.{nat_tests}
use Rattle.std.proofs.lemmas.Option.{none-some, same_Some, slice_get_within}
use Rattle.asm_base.specs.declared.places.Place.{Place}
use Rattle.asm_expr.specs.declared.forms.Term.{Term}
use Rattle.asm_expr.specs.Forms.{Form, wrapped, term_of, constant_form, symbol_form, with_terms, plus_times}
use Rattle.asm_expr.specs.Knowledge.{absent, label}
use Rattle.asm_symbols.specs.declared.entries.Symbol.{Symbol}
use Rattle.asm_symbols.specs.Assigning.{form_of, form_at, NoFormLeadsBack}
use Rattle.asm_symbols.specs.SymbolMap.{SymbolMap}
use Rattle.asm_frags.specs.declared.fields.Field.{Field}
use Rattle.asm_frags.specs.Fields.{own_place}
use Rattle.assigned_forms.specs.Expanding.{form_or_symbol, replacement, plus_terms, with_replaced, names_assigned, expanded_within, expanded}
use Rattle.assigned_forms.specs.Linked.{linked_map, linked}
use Rattle.x86_insn.specs.declared.amounts.Suffix.{Suffix}
use Rattle.x86_insn.specs.declared.amounts.Suffix.TheVariants.{Plt}
use Rattle.item_rows.specs.Links.{is_left_in, is_weak_left, leaves_weak, section_of, is_suffixed}
use Rattle.asm_relax.specs.Final.{address_of, final_meaning, final_told}
use Rattle.asm_relax.specs.Settling.{LaidSections}
use Rattle.code_functions.specs.declared.items.CodeItem.{CodeItem}
use Rattle.flow_graph.specs.Targets.{is_of_symbol, lone_symbol, is_weak_at, names_weak, by_plt}
use Rattle.flow_graph.specs.Rules.{LoneIsLeft, IsLabelAt, TargetIsLabel}
use Rattle.asm_place.specs.Coding.{from_own_place}
use Rattle.target_laws.specs.Targets.{NamesNoField, AreExpandable, place_address, TargetsAreItems}
use Rattle.target_laws.proofs.Sums.{total}
use Rattle.target_laws.proofs.Linking.{AreExact, linked_form, linked_as_expanded, strong_unassigned}
use Rattle.target_laws.proofs.Distances.{AreReduced, apart_of, unnamed_sum, unnamed_replacement, last_term, reduced_sum}
use Rattle.target_laws.proofs.LoneTerms.{alone, times_in, weighed_times, lone_terms, all_left, lone_counts}

-- THE FORM

-- a form that does not name its own place, less that
pub less_place : (rest : Form) → NamesNoField rest → (from_own_place rest).terms ≡ rest.terms ++ term_of own_place (2 ^ 64 - 1) ∷ []
unfolding plus_times with_terms
less_place rest plain = last_term own_place rest.terms (2 ^ 64 - 1) refl plain

wrapped_once : (n : ℕ) → wrapped (wrapped n) ≡ wrapped n
wrapped_once n = omega arith

pub less_constant : (rest : Form) → wrapped (from_own_place rest).constant ≡ (from_own_place rest).constant
unfolding plus_times
less_constant rest = wrapped_once _

-- one term more is put in last
sum_last : (replaces : ℕ → Form) (made : Form) (terms : List Term) (last : Term)
    → plus_terms replaces made (terms ++ last ∷ []) ≡ plus_times (plus_terms replaces made terms) last.coefficient (replaces last.symbol)
unfolding plus_terms
sum_last replaces made [] last = refl
sum_last replaces made (term ∷ terms) last = sum_last replaces (plus_times made term.coefficient (replaces term.symbol)) terms last

-- the form of a field, once all but weak aliases are put in: this rest less the place of the field; each symbol of the rest stands in it once and counts, or
-- nothing was put in
pub record IsSplit (symbols : SymbolMap) (target : Form) : Type 0 where
  pub rest : Form
  pub is : linked symbols (from_own_place target) ≡ from_own_place rest
  pub plain : NamesNoField rest
  pub kind : AreReduced rest.terms ⊎ (linked symbols (from_own_place target) ≡ from_own_place target)

module _ (symbols : SymbolMap) (ordered : AreExpandable symbols) (target : Form) (target_plain : NamesNoField target) where
  abbrev opened : SymbolMap
  opened = linked_map symbols

  abbrev within : Form → Form
  within form = expanded_within (length opened.symbols) opened form

  abbrev replaces : ℕ → Form
  replaces = replacement within opened

  no_form : (index : ℕ) (form : Form) → form_at opened.symbols index ≡ Some form → NamesNoField form
  no_form index form is = ordered.forms index form (linked_form symbols index form is)

  own_unassigned : form_at opened.symbols own_place ≡ None
  own_unassigned = by (form_at opened.symbols own_place) refl
    where
      by : (found : Option Form) → form_at opened.symbols own_place ≡ found → found ≡ None
      by None is = refl
      by (Some form) is = at (slice_get symbols.symbols own_place) refl
        where
          at : (there : Option Symbol) → slice_get symbols.symbols own_place ≡ there → Some form ≡ None
          at None none =
              absurd (none-some form (sym (ap (λ (f : Option Symbol). elim f [ None ↦ None | Some symbol ↦ form_of symbol.meaning ]) none) ∙ linked_form symbols own_place form is))
          at (Some symbol) some =
              let inside = slice_get_within symbols.symbols own_place symbol some in
              let few = ordered.few in
              absurd (omega (arith, inside, few))

  own_itself : replaces own_place ≡ symbol_form own_place
  own_itself = ap (λ (found : Option Form). form_or_symbol own_place (option_map within found)) own_unassigned

  split_by : (test : Bool) → linked symbols (from_own_place target) ≡ cond test (with_replaced replaces (from_own_place target)) (from_own_place target) → IsSplit symbols target
  split_by true is =
      let rest = plus_terms replaces (constant_form (from_own_place target).constant) target.terms in
      let terms = less_place target target_plain in
      record {
        rest = rest;
        is = is ∙ ap (plus_terms replaces (constant_form (from_own_place target).constant)) terms
            ∙ sum_last replaces (constant_form (from_own_place target).constant) target.terms (term_of own_place (2 ^ 64 - 1))
            ∙ ap (plus_times rest (2 ^ 64 - 1)) own_itself;
        plain = unnamed_sum own_place replaces (λ symbol other. unnamed_replacement own_place opened no_form (length opened.symbols) symbol other)
            (constant_form (from_own_place target).constant) target.terms refl target_plain;
        kind = inl (reduced_sum replaces (constant_form (from_own_place target).constant) target.terms tt);
      }
  split_by false is = record { rest = target; is = is; plain = target_plain; kind = inr is }

  linked_is : linked symbols (from_own_place target)
      ≡ cond (names_assigned opened (from_own_place target)) (with_replaced replaces (from_own_place target)) (from_own_place target)
  unfolding linked expanded expanded_within
  linked_is = refl

  pub split : IsSplit symbols target
  split = split_by (names_assigned opened (from_own_place target)) linked_is

  -- THE ONE SYMBOL

  module _ (exact : AreExact symbols) (lone : (form : Form) (symbol : ℕ) → LoneIsLeft form symbol) (symbol : ℕ) (apart : (symbol == own_place) ≡ false)
      (comes : lone_symbol (expanded symbols (from_own_place target)) ≡ Some symbol) (strong : names_weak symbols (linked symbols (from_own_place target)) ≡ false) where
    abbrev whole : Form
    whole = expanded symbols (from_own_place target)

    abbrev left : Form
    left = linked symbols (from_own_place target)

    whole_is : (whole.constant ≡ 0) × (filter is_of_symbol whole.terms ≡ term_of symbol 1 ∷ [])
    whole_is = (lone whole symbol).0 comes

    clean : names_assigned symbols left ≡ false
    clean = strong_unassigned symbols exact (from_own_place target) strong

    left_terms : left.terms ≡ split.rest.terms ++ term_of own_place (2 ^ 64 - 1) ∷ []
    left_terms = ap (λ (f : Form). f.terms) split.is ∙ less_place split.rest split.plain

    -- each other symbol counts in the rest as it does in the expansion
    times_last : (other : ℕ) → (other == own_place) ≡ false → (terms : List Term) → times_in other (terms ++ term_of own_place (2 ^ 64 - 1) ∷ []) ≡ times_in other terms
    times_last other free [] =
        let turned : (own_place == other) ≡ false = grind (arith, nat_tests) in
        ap (λ b. (2 ^ 64 - 1) * cond b 1 0 + 0) turned
    times_last other free (term ∷ terms) = ap (λ n. term.coefficient * alone other term.symbol + n) (times_last other free terms)

    rest_counts : (other : ℕ) → (other == own_place) ≡ false → wrapped (times_in other split.rest.terms) ≡ cond (symbol == other) 1 0
    rest_counts other free =
        let same = linked_as_expanded symbols exact false (alone other) (from_own_place target) clean in
        let there = lone_counts whole.terms symbol whole_is.1 other free in
        let here : times_in other left.terms ≡ times_in other split.rest.terms = ap (times_in other) left_terms ∙ times_last other free split.rest.terms in
        let small : wrapped (cond (symbol == other) 1 0) ≡ cond (symbol == other) 1 0 = by (symbol == other) in
        ap wrapped (sym here) ∙ sym (weighed_times other left) ∙ same ∙ weighed_times other whole ∙ ap wrapped there ∙ small
      where
        by : (b : Bool) → wrapped (cond b 1 0) ≡ cond b 1 0
        by true = refl
        by false = refl

    total_zero : (terms : List Term) → total true (λ symbol. 0) terms ≡ 0
    total_zero [] = refl
    total_zero (term ∷ terms) = let none = mul-zero term.coefficient in let later = total_zero terms in omega (arith, none, later)

    left_constant : left.constant ≡ 0
    left_constant =
        let same = linked_as_expanded symbols exact true (λ symbol. 0) (from_own_place target) clean in
        let zero_is = whole_is.0 in
        let here = total_zero left.terms in
        let there = total_zero whole.terms in
        let small : wrapped left.constant ≡ left.constant = ap (λ (f : Form). wrapped f.constant) split.is ∙ less_constant split.rest ∙ sym (ap (λ (f : Form). f.constant) split.is) in
        omega (arith, same, zero_is, here, there, small)

    rest_is : AreReduced split.rest.terms ⊎ (left ≡ from_own_place target) → split.rest.terms ≡ term_of symbol 1 ∷ []
    rest_is (inl reduced) = lone_terms own_place symbol apart split.rest.terms reduced split.plain rest_counts
    rest_is (inr same) =
        let free : names_assigned symbols (from_own_place target) ≡ false = subst (λ (f : Form). names_assigned symbols f ≡ false) same clean in
        let both : whole ≡ left = exact.none (from_own_place target) free ∙ sym same in
        let all : filter is_of_symbol (split.rest.terms ++ term_of own_place (2 ^ 64 - 1) ∷ []) ≡ split.rest.terms ++ [] = all_left split.rest.terms split.plain (term_of own_place (2 ^ 64 - 1) ∷ []) in
        let kept : split.rest.terms ++ [] ≡ split.rest.terms = append-nil split.rest.terms in
        sym kept ∙ sym all ∙ ap (filter is_of_symbol) (sym left_terms) ∙ sym (ap (λ (f : Form). filter is_of_symbol f.terms) both) ∙ whole_is.1

    pub distance_form : left ≡ record { terms = term_of symbol 1 ∷ term_of own_place (2 ^ 64 - 1) ∷ []; constant = 0 }
    distance_form =
        let terms = left_terms ∙ ap (λ (ts : List Term). ts ++ term_of own_place (2 ^ 64 - 1) ∷ []) (rest_is split.kind) in
        let parts : left ≡ record { terms = left.terms; constant = left.constant } = refl in
        parts ∙ ap (λ (ts : List Term). record { terms = ts; constant = left.constant }) terms
        ∙ ap (λ (n : ℕ). record { terms = term_of symbol 1 ∷ term_of own_place (2 ^ 64 - 1) ∷ []; constant = n }) left_constant

-- WEAK SYMBOLS AND SUFFIXES

none_weak : (symbols : SymbolMap) (all terms : List Term) → list_any (λ term. is_weak_at symbols term.symbol) terms ≡ false → list_any (is_weak_left symbols all) terms ≡ false
none_weak symbols all [] none = refl
none_weak symbols all (term ∷ terms) none =
    let parts = apart_of 0 (is_weak_at symbols term.symbol) (list_any (λ term. is_weak_at symbols term.symbol) terms) none in
    ap (λ b. (b && is_left_in symbols all (section_of symbols term.symbol)) || list_any (is_weak_left symbols all) terms) parts.0
    ∙ none_weak symbols all terms parts.1

unsuffixed : (suffix : Option Suffix) → (suffix ≡ None) ⊎ (suffix ≡ Some Plt) → by_plt suffix ≡ false → is_suffixed suffix ≡ false
unsuffixed suffix (inl none) free = ap is_suffixed none
unsuffixed suffix (inr plt) free = absurd (let is : by_plt suffix ≡ true = ap by_plt plt in cc)

-- THE FIELD

-- what a symbol is known as that is a label
label_known : (symbols : SymbolMap) (laid : LaidSections) (section : ℕ) (items : List CodeItem) (symbol : ℕ) (place : Place) → IsLabelAt symbols section items symbol place
    → final_told symbols laid symbol ≡ label section (place_address laid section place)
unfolding final_told
label_known symbols laid section items symbol place is =
    ap (λ (found : Option Symbol). option_map_or (λ (s : Symbol). final_meaning laid s.meaning) found absent) is.there
    ∙ ap (final_meaning laid) is.label
    ∙ ap (λ n. label n (address_of laid n is.spot.place.place.item is.spot.place.place.offset)) is.in_section
    ∙ ap (λ (p : Place). label section (place_address laid section p)) is.at_place

begun : (items : List CodeItem) (item : ℕ) (place : Place) → option_map (λ (code : CodeItem). code.place) (slice_get items item) ≡ Some place
    → (code : CodeItem) × (slice_get items item ≡ Some code) × (code.place ≡ place)
begun items item place is = by (slice_get items item) refl is
  where
    by : (found : Option CodeItem) → slice_get items item ≡ found → option_map (λ (code : CodeItem). code.place) found ≡ Some place
        → (code : CodeItem) × (slice_get items item ≡ Some code) × (code.place ≡ place)
    by None there same = absurd (none-some place same)
    by (Some code) there same = (code, there, same_Some code.place place same)

pub targets_are_items : ((symbols : SymbolMap) → NoFormLeadsBack symbols.symbols → AreExact symbols) → ((form : Form) (symbol : ℕ) → LoneIsLeft form symbol)
    → ((symbols : SymbolMap) (section : ℕ) (items : List CodeItem) (field : Field) → TargetIsLabel symbols section items field) → TargetsAreItems
targets_are_items exact lone labels symbols laid section items field item ordered is target =
    let leads = ((labels symbols section items field).inside item false).0 target in
    let inside = leads.0 in
    let free = apart_of 0 (by_plt field.role.suffix) (names_weak symbols (linked symbols field.form)) leads.1 in
    let same : from_own_place is.target ≡ field.form = sym is.form in
    let strong : names_weak symbols (linked symbols (from_own_place is.target)) ≡ false = ap (λ (f : Form). names_weak symbols (linked symbols f)) same ∙ free.1 in
    let comes : lone_symbol (expanded symbols (from_own_place is.target)) ≡ Some inside.symbol = ap (λ (f : Form). lone_symbol (expanded symbols f)) same ∙ inside.comes in
    let within = slice_get_within symbols.symbols inside.symbol inside.label.entry inside.label.there in
    let few = ordered.few in
    let apart : (inside.symbol == own_place) ≡ false = grind (arith, nat_tests) in
    let form = distance_form symbols ordered is.target is.plain (exact symbols ordered.forward) lone inside.symbol apart comes strong in
    let found = begun items item inside.place inside.last.begins in
    record {
      code = found.0;
      there = found.1;
      symbol = inside.symbol;
      branch = record {
        distance = record { kind = is.kind; form = ap (linked symbols) is.form ∙ form; behind = is.behind };
        free = ap (λ b. b || leaves_weak symbols (linked symbols field.form)) (unsuffixed field.role.suffix is.suffix free.0)
            ∙ none_weak symbols (linked symbols field.form).terms (linked symbols field.form).terms free.1;
        apart = apart;
        known = label_known symbols laid section items inside.symbol inside.place inside.label
            ∙ ap (λ (p : Place). label section (place_address laid section p)) (sym found.2)
            ∙ ap (λ n. label n (place_address laid section found.0.place)) (sym is.in_section);
      };
    }
