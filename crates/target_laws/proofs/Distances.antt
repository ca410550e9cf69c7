-- A form less its own place that comes to one symbol is the distance to that symbol.
use Rattle.std.proofs.Common.{◌≡◌, ℕ, zero, suc, ◌+◌, ◌*◌, ◌^◌, ◌<◌, ◌==◌, ◌||◌, Bool, true, false, not, cond, List, [], ◌∷◌, ◌++◌, map, Option, Some, None, refl, ap, ◌∙◌, arith}
use Rattle.std.specs.Prelude.{option_map}
use Rattle.std.proofs.lemmas.Bool.Decides.{nat_tests}
use Rattle.asm_expr.specs.declared.forms.Term.{Term}
use Rattle.asm_expr.specs.Forms.{Form, wrapped, term_of, is_kept, constant_form, before_terms, with_term, with_terms, scaled_term, plus_times}
use Rattle.asm_expr.specs.Coefficients.{is_among}
use Rattle.asm_symbols.specs.Assigning.{form_at}
use Rattle.asm_symbols.specs.SymbolMap.{SymbolMap}
use Rattle.assigned_forms.specs.Expanding.{form_or_symbol, replacement, plus_terms, with_replaced, names_assigned, expanded_within}

-- WHICH SYMBOLS ARE NAMED

module _ (own : ℕ) where
  unnamed_before : (kept : Bool) (term : Term) (rest : List Term) → (term.symbol == own) ≡ false → is_among own rest ≡ false → is_among own (cond kept (term ∷ rest) rest) ≡ false
  unnamed_before true term rest other none = ap (λ b. b || is_among own rest) other ∙ none
  unnamed_before false term rest other none = none

  unnamed_by : (same : Bool) (term more : Term) (rest : List Term) → (term.symbol == own) ≡ false → is_among own rest ≡ false → is_among own (with_term rest more) ≡ false
      → is_among own (cond same (before_terms (term_of term.symbol (wrapped (term.coefficient + more.coefficient))) rest) (term ∷ with_term rest more)) ≡ false
  unnamed_by true term more rest other none later =
      unnamed_before (is_kept (term_of term.symbol (wrapped (term.coefficient + more.coefficient)))) (term_of term.symbol (wrapped (term.coefficient + more.coefficient))) rest other none
  unnamed_by false term more rest other none later = ap (λ b. b || is_among own (with_term rest more)) other ∙ later

  pub apart_of : (a b : Bool) → (a || b) ≡ false → (a ≡ false) × (b ≡ false)
  apart_of true b is = absurd cc
  apart_of false b is = (refl, is)

  unnamed_with : (terms : List Term) (more : Term) → (more.symbol == own) ≡ false → is_among own terms ≡ false → is_among own (with_term terms more) ≡ false
  unfolding with_term
  unnamed_with [] more other none = unnamed_before (is_kept more) more [] other refl
  unnamed_with (term ∷ rest) more other none =
      let parts = apart_of (term.symbol == own) (is_among own rest) none in
      unnamed_by (term.symbol == more.symbol) term more rest parts.0 parts.1 (unnamed_with rest more other parts.1)

  unnamed_all : (terms others : List Term) → is_among own terms ≡ false → is_among own others ≡ false → is_among own (with_terms terms others) ≡ false
  unfolding with_terms
  unnamed_all terms [] none no_other = none
  unnamed_all terms (more ∷ others) none no_other =
      let parts = apart_of (more.symbol == own) (is_among own others) no_other in
      unnamed_all (with_term terms more) others (unnamed_with terms more parts.0 none) parts.1

  unnamed_scaled : (factor : ℕ) (terms : List Term) → is_among own terms ≡ false → is_among own (map (scaled_term factor) terms) ≡ false
  unnamed_scaled factor [] none = refl
  unnamed_scaled factor (term ∷ terms) none =
      let parts = apart_of (term.symbol == own) (is_among own terms) none in
      ap (λ b. b || is_among own (map (scaled_term factor) terms)) parts.0 ∙ unnamed_scaled factor terms parts.1

  unnamed_plus : (made : Form) (factor : ℕ) (other : Form) → is_among own made.terms ≡ false → is_among own other.terms ≡ false → is_among own (plus_times made factor other).terms ≡ false
  unfolding plus_times
  unnamed_plus made factor other none no_other = unnamed_all made.terms (map (scaled_term factor) other.terms) none (unnamed_scaled factor other.terms no_other)

  pub unnamed_sum : (replaces : ℕ → Form) → ((symbol : ℕ) → (symbol == own) ≡ false → is_among own (replaces symbol).terms ≡ false) → (made : Form) (terms : List Term)
      → is_among own made.terms ≡ false → is_among own terms ≡ false → is_among own (plus_terms replaces made terms).terms ≡ false
  unfolding plus_terms
  unnamed_sum replaces each made [] none no_other = none
  unnamed_sum replaces each made (term ∷ terms) none no_other =
      let parts = apart_of (term.symbol == own) (is_among own terms) no_other in
      unnamed_sum replaces each (plus_times made term.coefficient (replaces term.symbol)) terms
      (unnamed_plus made term.coefficient (replaces term.symbol) none (each term.symbol parts.0)) parts.1

  module _ (map : SymbolMap) (forms : (index : ℕ) (form : Form) → form_at map.symbols index ≡ Some form → is_among own form.terms ≡ false) where
    unnamed_found : (becomes : Form → Form) → ((form : Form) → is_among own form.terms ≡ false → is_among own (becomes form).terms ≡ false) → (symbol : ℕ) (found : Option Form)
        → form_at map.symbols symbol ≡ found → (symbol == own) ≡ false → is_among own (form_or_symbol symbol (option_map becomes found)).terms ≡ false
    unnamed_found becomes keeps symbol None is other = ap (λ b. b || false) other
    unnamed_found becomes keeps symbol (Some form) is other = keeps form (forms symbol form is)

    unnamed_form : (test : Bool) (becomes : Form → Form) → ((form : Form) → is_among own form.terms ≡ false → is_among own (becomes form).terms ≡ false) → (form : Form)
        → is_among own form.terms ≡ false → is_among own (cond test (with_replaced (replacement becomes map) form) form).terms ≡ false
    unnamed_form true becomes keeps form none =
        unnamed_sum (replacement becomes map) (λ symbol other. unnamed_found becomes keeps symbol (form_at map.symbols symbol) refl other)
        (constant_form form.constant) form.terms refl none
    unnamed_form false becomes keeps form none = none

    -- an expansion does not name what no form names
    pub unnamed_within : (more : ℕ) (form : Form) → is_among own form.terms ≡ false → is_among own (expanded_within more map form).terms ≡ false
    unfolding expanded_within
    unnamed_within zero form none = none
    unnamed_within (suc more) form none = unnamed_form (names_assigned map form) (λ next. expanded_within more map next) (unnamed_within more) form none

    pub unnamed_replacement : (more symbol : ℕ) → (symbol == own) ≡ false → is_among own (replacement (λ next. expanded_within more map next) map symbol).terms ≡ false
    unnamed_replacement more symbol other =
        unnamed_found (λ next. expanded_within more map next) (unnamed_within more) symbol (form_at map.symbols symbol) refl other

  -- a symbol that is not named goes to the end
  pub last_term : (terms : List Term) (coefficient : ℕ) → (coefficient == 0) ≡ false → is_among own terms ≡ false → with_term terms (term_of own coefficient) ≡ terms ++ term_of own coefficient ∷ []
  unfolding with_term
  last_term [] coefficient some none = ap (λ b. cond (not b) (term_of own coefficient ∷ []) []) some
  last_term (term ∷ rest) coefficient some none =
      let parts = apart_of (term.symbol == own) (is_among own rest) none in
      ap (λ b. cond b (before_terms (term_of term.symbol (wrapped (term.coefficient + coefficient))) rest) (term ∷ with_term rest (term_of own coefficient))) parts.0
      ∙ ap (λ (ts : List Term). term ∷ ts) (last_term rest coefficient some parts.1)

-- TERMS THAT STAND ONCE AND COUNT

-- the coefficient is a number modulo 2^64 other than 0
pub record IsSmallTerm (term : Term) : Type 0 where
  pub some : (term.coefficient == 0) ≡ false
  pub small : term.coefficient < 2 ^ 64

-- each term is so, and no symbol stands twice
abbrev pub AreReduced : List Term → Type 0
AreReduced [] = Unit {0}
AreReduced (term ∷ terms) = IsSmallTerm term × (is_among term.symbol terms ≡ false) × AreReduced terms

reduced_by : (kept : Bool) (term : Term) (rest : List Term) → is_kept term ≡ kept → term.coefficient < 2 ^ 64 → is_among term.symbol rest ≡ false → AreReduced rest
    → AreReduced (cond kept (term ∷ rest) rest)
reduced_by true term rest kept small none all = (record { some = by (term.coefficient == 0) kept; small = small }, none, all)
  where
    by : (b : Bool) → not b ≡ true → b ≡ false
    by true is = absurd cc
    by false is = refl
reduced_by false term rest kept small none all = all

wrapped_small : (n : ℕ) → wrapped n < 2 ^ 64
wrapped_small n = omega arith

reduced_step : (same : Bool) (term more : Term) (rest : List Term) → (term.symbol == more.symbol) ≡ same → IsSmallTerm term → is_among term.symbol rest ≡ false → AreReduced rest
    → AreReduced (with_term rest more)
    → AreReduced (cond same (before_terms (term_of term.symbol (wrapped (term.coefficient + more.coefficient))) rest) (term ∷ with_term rest more))
reduced_step true term more rest is one none all later =
    reduced_by (is_kept (term_of term.symbol (wrapped (term.coefficient + more.coefficient)))) (term_of term.symbol (wrapped (term.coefficient + more.coefficient))) rest refl
    (wrapped_small (term.coefficient + more.coefficient)) none all
reduced_step false term more rest is one none all later =
    let other : (more.symbol == term.symbol) ≡ false = grind (arith, nat_tests) in
    (one, unnamed_with term.symbol rest more other none, later)

reduced_with : (terms : List Term) (more : Term) → more.coefficient < 2 ^ 64 → AreReduced terms → AreReduced (with_term terms more)
unfolding with_term
reduced_with [] more small all = reduced_by (is_kept more) more [] refl small refl tt
reduced_with (term ∷ rest) more small all =
    reduced_step (term.symbol == more.symbol) term more rest refl all.0 all.1 all.2 (reduced_with rest more small all.2)

reduced_scaled : (terms : List Term) (factor : ℕ) (others : List Term) → AreReduced terms → AreReduced (with_terms terms (map (scaled_term factor) others))
unfolding with_terms
reduced_scaled terms factor [] all = all
reduced_scaled terms factor (other ∷ others) all =
    reduced_scaled (with_term terms (scaled_term factor other)) factor others
    (reduced_with terms (scaled_term factor other) (wrapped_small (factor * other.coefficient)) all)

pub reduced_sum : (replaces : ℕ → Form) (made : Form) (terms : List Term) → AreReduced made.terms → AreReduced (plus_terms replaces made terms).terms
unfolding plus_terms plus_times
reduced_sum replaces made [] all = all
reduced_sum replaces made (term ∷ terms) all =
    reduced_sum replaces (plus_times made term.coefficient (replaces term.symbol)) terms (reduced_scaled made.terms term.coefficient (replaces term.symbol).terms all)
