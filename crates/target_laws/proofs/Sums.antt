-- Sums of the terms of forms, each symbol at a weight, as forms are added and expanded.
use Rattle.std.proofs.Common.{◌≡◌, ℕ, zero, suc, ◌+◌, ◌*◌, ◌^◌, ◌==◌, Bool, true, false, not, cond, List, [], ◌∷◌, map, length, Option, Some, None, refl, sym, ap, ◌∙◌, arith, add-mul, mul-add, mul-zero, zero-mul}
use Rattle.std.specs.Prelude.{option_map}
use Rattle.std.proofs.lemmas.Bool.Decides.{Decides-eqb}
use Rattle.std.proofs.lemmas.Nat.{mul-mod_first, mul-mod_second}
use Rattle.asm_expr.specs.declared.forms.Term.{Term}
use Rattle.asm_expr.specs.Forms.{Form, wrapped, term_of, is_kept, constant_form, symbol_form, before_terms, with_term, with_terms, scaled_term, plus_times}
use Rattle.asm_symbols.specs.Assigning.{form_at}
use Rattle.asm_symbols.specs.SymbolMap.{SymbolMap}
use Rattle.assigned_forms.specs.Expanding.{form_or_symbol, replacement, plus_terms, with_replaced, names_assigned, expanded_within, expanded}

-- the number, if it counts
abbrev pub counted_if : Bool → ℕ → ℕ
counted_if true n = n
counted_if false n = 0

module _ (number : Bool) (weight : ℕ → ℕ) where
  -- the symbols, each at its weight as often as it counts
  abbrev pub total : List Term → ℕ
  total [] = 0
  total (term ∷ terms) = term.coefficient * weight term.symbol + total terms

  -- the same of a form, and its number, if that counts
  abbrev pub weighed : Form → ℕ
  weighed made = wrapped (counted_if number made.constant + total made.terms)

  -- TERMS

  before_by : (kept : Bool) (term : Term) (rest : List Term) → is_kept term ≡ kept → wrapped (total (cond kept (term ∷ rest) rest)) ≡ wrapped (term.coefficient * weight term.symbol + total rest)
  before_by true term rest is = refl
  before_by false term rest is = by (term.coefficient == 0) refl is
    where
      by : (b : Bool) → (term.coefficient == 0) ≡ b → not b ≡ false → wrapped (total rest) ≡ wrapped (term.coefficient * weight term.symbol + total rest)
      by true zero_is not_kept =
          let none : term.coefficient ≡ 0 = (Decides-eqb term.coefficient 0).0 zero_is in
          let nothing : term.coefficient * weight term.symbol ≡ 0 = ap (λ (n : ℕ). n * weight term.symbol) none ∙ zero-mul (weight term.symbol) in
          omega arith
      by false zero_is not_kept = absurd cc

  total_before : (term : Term) (rest : List Term) → wrapped (total (before_terms term rest)) ≡ wrapped (term.coefficient * weight term.symbol + total rest)
  total_before term rest = before_by (is_kept term) term rest refl

  with_by : (same : Bool) (term more : Term) (rest : List Term) → (term.symbol == more.symbol) ≡ same
      → wrapped (total (with_term rest more)) ≡ wrapped (total rest + more.coefficient * weight more.symbol)
      → wrapped (total (cond same (before_terms (term_of term.symbol (wrapped (term.coefficient + more.coefficient))) rest) (term ∷ with_term rest more)))
      ≡ wrapped (total (term ∷ rest) + more.coefficient * weight more.symbol)
  with_by true term more rest is later =
      let same : term.symbol ≡ more.symbol = (Decides-eqb term.symbol more.symbol).0 is in
      let w = weight term.symbol in
      let moved : more.coefficient * weight more.symbol ≡ more.coefficient * w = ap (λ (s : ℕ). more.coefficient * weight s) (sym same) in
      let first = mul-mod_first (term.coefficient + more.coefficient) w (2 ^ 64) in
      let parts = add-mul term.coefficient more.coefficient w in
      let whole = total_before (term_of term.symbol (wrapped (term.coefficient + more.coefficient))) rest in
      omega arith
  with_by false term more rest is later = omega arith

  total_with : (terms : List Term) (more : Term) → wrapped (total (with_term terms more)) ≡ wrapped (total terms + more.coefficient * weight more.symbol)
  unfolding with_term
  total_with [] more = let one = total_before more [] in omega arith
  total_with (term ∷ rest) more = with_by (term.symbol == more.symbol) term more rest refl (total_with rest more)

  total_all : (terms others : List Term) → wrapped (total (with_terms terms others)) ≡ wrapped (total terms + total others)
  unfolding with_terms
  total_all terms [] = omega arith
  total_all terms (more ∷ others) =
      let one = total_with terms more in
      let later = total_all (with_term terms more) others in
      omega arith

  total_scaled : (factor : ℕ) (terms : List Term) → wrapped (total (map (scaled_term factor) terms)) ≡ wrapped (factor * total terms)
  total_scaled factor [] = let none = mul-zero factor in omega arith
  total_scaled factor (term ∷ terms) =
      let later = total_scaled factor terms in
      let w = weight term.symbol in
      let first = mul-mod_first (factor * term.coefficient) w (2 ^ 64) in
      omega arith

  -- FORMS

  number_plus : (one factor other : ℕ) → wrapped (counted_if number (wrapped (one + wrapped (factor * other)))) ≡ wrapped (counted_if number one + factor * counted_if number other)
  number_plus one factor other = by number
    where
      by : (b : Bool) → wrapped (counted_if b (wrapped (one + wrapped (factor * other)))) ≡ wrapped (counted_if b one + factor * counted_if b other)
      by true = omega arith
      by false = let none = mul-zero factor in omega arith

  weighed_plus : (made : Form) (factor : ℕ) (other : Form) → weighed (plus_times made factor other) ≡ wrapped (weighed made + factor * weighed other)
  unfolding plus_times
  weighed_plus made factor other =
      let numbers = number_plus made.constant factor other.constant in
      let terms = total_all made.terms (map (scaled_term factor) other.terms) in
      let scaled = total_scaled factor other.terms in
      let inner = mul-mod_second factor (counted_if number other.constant + total other.terms) (2 ^ 64) in
      let parts = mul-add factor (counted_if number other.constant) (total other.terms) in
      omega arith

  weighed_constant : (n : ℕ) → weighed (constant_form n) ≡ wrapped (counted_if number n)
  weighed_constant n = omega arith

  pub weighed_symbol : (symbol : ℕ) → weighed (symbol_form symbol) ≡ wrapped (weight symbol)
  weighed_symbol symbol = by number
    where
      by : (b : Bool) → wrapped (counted_if b 0 + (1 * weight symbol + 0)) ≡ wrapped (weight symbol)
      by true = omega arith
      by false = omega arith

-- a sum, whose symbols are replaced, is that of the terms at the weights of what replaces them
replaced_sum : (number : Bool) (weight other : ℕ → ℕ) (replaces : ℕ → Form) → ((symbol : ℕ) → weighed number weight (replaces symbol) ≡ other symbol)
    → (made : Form) (terms : List Term) → weighed number weight (plus_terms replaces made terms) ≡ wrapped (weighed number weight made + total number other terms)
unfolding plus_terms
replaced_sum number weight other replaces same made [] = omega arith
replaced_sum number weight other replaces same made (term ∷ terms) =
    let next = plus_times made term.coefficient (replaces term.symbol) in
    let later = replaced_sum number weight other replaces same next terms in
    let plus = weighed_plus number weight made term.coefficient (replaces term.symbol) in
    let here : term.coefficient * weighed number weight (replaces term.symbol) ≡ term.coefficient * other term.symbol =
    ap (λ (n : ℕ). term.coefficient * n) (same term.symbol) in
    omega arith

pub replaced_form : (number : Bool) (weight other : ℕ → ℕ) (replaces : ℕ → Form) → ((symbol : ℕ) → weighed number weight (replaces symbol) ≡ other symbol)
    → (made : Form) → weighed number weight (with_replaced replaces made) ≡ weighed number other made
replaced_form number weight other replaces same made =
    let all = replaced_sum number weight other replaces same (constant_form made.constant) made.terms in
    let one = weighed_constant number weight made.constant in
    omega arith

-- A MAP WHOSE ASSIGNED SYMBOLS WEIGH AS MUCH AS THEIR FORMS

module _ (number : Bool) (weight : ℕ → ℕ) (map : SymbolMap) (low : (symbol : ℕ) → wrapped (weight symbol) ≡ weight symbol)
    (consistent : (symbol : ℕ) (made : Form) → form_at map.symbols symbol ≡ Some made → weighed number weight made ≡ weight symbol) where
  symbol_kept : (becomes : Form → Form) → ((made : Form) → weighed number weight (becomes made) ≡ weighed number weight made)
      → (symbol : ℕ) (found : Option Form) → form_at map.symbols symbol ≡ found → weighed number weight (form_or_symbol symbol (option_map becomes found)) ≡ weight symbol
  symbol_kept becomes keeps symbol None is = weighed_symbol number weight symbol ∙ low symbol
  symbol_kept becomes keeps symbol (Some made) is = keeps made ∙ consistent symbol made is

  expanded_by : (test : Bool) (becomes : Form → Form) → ((made : Form) → weighed number weight (becomes made) ≡ weighed number weight made)
      → (made : Form) → weighed number weight (cond test (with_replaced (replacement becomes map) made) made) ≡ weighed number weight made
  expanded_by true becomes keeps made =
      replaced_form number weight weight (replacement becomes map) (λ symbol. symbol_kept becomes keeps symbol (form_at map.symbols symbol) refl) made
  expanded_by false becomes keeps made = refl

  -- expanding a form keeps what it weighs
  pub expanded_within_keeps : (more : ℕ) (made : Form) → weighed number weight (expanded_within more map made) ≡ weighed number weight made
  unfolding expanded_within
  expanded_within_keeps zero made = refl
  expanded_within_keeps (suc more) made = expanded_by (names_assigned map made) (λ next. expanded_within more map next) (expanded_within_keeps more) made

  pub expanded_keeps : (made : Form) → weighed number weight (expanded map made) ≡ weighed number weight made
  unfolding expanded
  expanded_keeps made = expanded_within_keeps (suc (length map.symbols)) made
