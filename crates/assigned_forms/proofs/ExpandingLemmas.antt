-- The expansion of assigned symbols: it has an equation without a bound, and no assigned symbol is left in it.
use Rattle.std.proofs.Common.{◌≡◌, ℕ, zero, suc, ◌+◌, ◌<◌, ◌≤◌, inl, inr, Bool, true, false, cond, ◌||◌, ◌==◌, List, [], ◌∷◌, length, map, Option, None, Some, is_some, refl, sym, ap, ◌∙◌, arith}
use Rattle.std.specs.List.{list_any}
use Rattle.std.specs.Option.{option_map}
use Rattle.asm_expr.specs.declared.forms.Term.{Term}
use Rattle.asm_expr.specs.Forms.{Form, constant_form, wrapped, term_of, is_kept, before_terms, with_term, with_terms, scaled_term, plus_times}
use Rattle.asm_symbols.specs.SymbolMap.{SymbolMap}
use Rattle.asm_symbols.specs.Assigning.{form_at, IsNamedIn, NoFormLeadsBack}
use Rattle.assigned_forms.specs.Expanding.{form_or_symbol, replacement, plus_terms, with_replaced, is_assigned, names_assigned, expanded_within, expanded}
use Rattle.assigned_forms.proofs.RankLemmas.{AreDecided, rank, rank_small, rank_falls}

or_parts : (a b : Bool) → (a || b) ≡ false → (a ≡ false) × (b ≡ false)
or_parts true b is = cc
or_parts false b is = (refl, is)

or_none : (a b : Bool) → a ≡ false → b ≡ false → (a || b) ≡ false
or_none a b one other = rw (one, other)

module _ (all : SymbolMap) where
  -- what replaces a symbol that is no assigned one is that symbol, whatever forms become
  replaced_same : (one other : Form → Form) (symbol : ℕ) (o : Option Form) → ((form : Form) → o ≡ Some form → one form ≡ other form)
      → form_or_symbol symbol (option_map one o) ≡ form_or_symbol symbol (option_map other o)
  replaced_same one other symbol None same = refl
  replaced_same one other symbol (Some form) same = same form refl

  -- the forms of the symbols that are named decide
  plus_same : (one other : Form → Form) (terms : List Term) (made : Form)
      → ((index : ℕ) (form : Form) → IsNamedIn terms index → form_at all.symbols index ≡ Some form → one form ≡ other form)
      → plus_terms (replacement one all) made terms ≡ plus_terms (replacement other all) made terms
  unfolding plus_terms
  plus_same one other [] made same = refl
  plus_same one other (term ∷ terms) made same =
      let first = replaced_same one other term.symbol (form_at all.symbols term.symbol) (λ form is. same term.symbol form (inl refl) is) in
      ap (λ replaced. plus_terms (replacement one all) (plus_times made term.coefficient replaced) terms) first
      ∙ plus_same one other terms (plus_times made term.coefficient (replacement other all term.symbol)) (λ index form named is. same index form (inr named) is)

  -- a symbol that is no assigned one
  unassigned_by : (o : Option Form) → ((form : Form) → o ≡ Some form → ⊥) → is_some o ≡ false
  unassigned_by None none = refl
  unassigned_by (Some form) none = absurd (none form refl)

  names_none : (terms : List Term) → ((index : ℕ) (form : Form) → IsNamedIn terms index → form_at all.symbols index ≡ Some form → ⊥) → list_any (is_assigned all) terms ≡ false
  names_none [] none = refl
  names_none (term ∷ terms) none =
      or_none (is_assigned all term) (list_any (is_assigned all) terms) (unassigned_by (form_at all.symbols term.symbol) (λ form is. none term.symbol form (inl refl) is))
      (names_none terms (λ index form named is. none index form (inr named) is))

  -- sums of terms that name no assigned symbol name none
  before_clean : (term : Term) (rest : List Term) (b : Bool) → is_assigned all term ≡ false → list_any (is_assigned all) rest ≡ false
      → list_any (is_assigned all) (cond b (term ∷ rest) rest) ≡ false
  before_clean term rest true one others = or_none (is_assigned all term) (list_any (is_assigned all) rest) one others
  before_clean term rest false one others = others

  with_term_by : (term more : Term) (rest : List Term) (b : Bool) → is_assigned all term ≡ false → list_any (is_assigned all) rest ≡ false → list_any (is_assigned all) (with_term rest more) ≡ false
      → list_any (is_assigned all) (cond b (before_terms (term_of term.symbol (wrapped (term.coefficient + more.coefficient))) rest) (term ∷ with_term rest more)) ≡ false
  with_term_by term more rest true one others later =
      before_clean (term_of term.symbol (wrapped (term.coefficient + more.coefficient))) rest (is_kept (term_of term.symbol (wrapped (term.coefficient + more.coefficient)))) one others
  with_term_by term more rest false one others later = or_none (is_assigned all term) (list_any (is_assigned all) (with_term rest more)) one later

  with_term_clean : (terms : List Term) (more : Term) → list_any (is_assigned all) terms ≡ false → is_assigned all more ≡ false → list_any (is_assigned all) (with_term terms more) ≡ false
  unfolding with_term
  with_term_clean [] more none one = before_clean more [] (is_kept more) one refl
  with_term_clean (term ∷ terms) more none one =
      let parts = or_parts (is_assigned all term) (list_any (is_assigned all) terms) none in
      with_term_by term more terms (term.symbol == more.symbol) parts.0 parts.1 (with_term_clean terms more parts.1 one)

  with_terms_clean : (terms others : List Term) (factor : ℕ) → list_any (is_assigned all) terms ≡ false → list_any (is_assigned all) others ≡ false
      → list_any (is_assigned all) (with_terms terms (map (scaled_term factor) others)) ≡ false
  unfolding with_terms
  with_terms_clean terms [] factor none more = none
  with_terms_clean terms (other ∷ others) factor none more =
      let parts = or_parts (is_assigned all other) (list_any (is_assigned all) others) more in
      with_terms_clean (with_term terms (scaled_term factor other)) others factor (with_term_clean terms (scaled_term factor other) none parts.0) parts.1

  plus_clean : (made other : Form) (factor : ℕ) → names_assigned all made ≡ false → names_assigned all other ≡ false → names_assigned all (plus_times made factor other) ≡ false
  unfolding plus_times
  plus_clean made other factor none more = with_terms_clean made.terms other.terms factor none more

  replacement_clean : (becomes : Form → Form) (symbol : ℕ) (o : Option Form) → form_at all.symbols symbol ≡ o → ((form : Form) → o ≡ Some form → names_assigned all (becomes form) ≡ false)
      → names_assigned all (form_or_symbol symbol (option_map becomes o)) ≡ false
  replacement_clean becomes symbol None is clean = rw is
  replacement_clean becomes symbol (Some form) is clean = clean form refl

  plus_terms_clean : (becomes : Form → Form) (terms : List Term) (made : Form) → names_assigned all made ≡ false
      → ((index : ℕ) (form : Form) → IsNamedIn terms index → form_at all.symbols index ≡ Some form → names_assigned all (becomes form) ≡ false)
      → names_assigned all (plus_terms (replacement becomes all) made terms) ≡ false
  unfolding plus_terms
  plus_terms_clean becomes [] made none clean = none
  plus_terms_clean becomes (term ∷ terms) made none clean =
      let first = replacement_clean becomes term.symbol (form_at all.symbols term.symbol) refl (λ form is. clean term.symbol form (inl refl) is) in
      plus_terms_clean becomes terms (plus_times made term.coefficient (replacement becomes all term.symbol)) (plus_clean made (replacement becomes all term.symbol) term.coefficient none first)
      (λ index form named is. clean index form (inr named) is)

  -- a form that names no assigned symbol
  within_none : (more : ℕ) (form : Form) → names_assigned all form ≡ false → expanded_within more all form ≡ form
  unfolding expanded_within
  within_none zero form none = refl
  within_none (suc more) form none = rw none

  within_some : (more : ℕ) (form : Form) → names_assigned all form ≡ true → expanded_within (suc more) all form ≡ with_replaced (replacement (λ next. expanded_within more all next) all) form
  unfolding expanded_within
  within_some more form some = rw some

  pub expanded_none : (form : Form) → names_assigned all form ≡ false → expanded all form ≡ form
  unfolding expanded
  expanded_none form none = within_none (suc (length all.symbols)) form none

  module _ (decided : AreDecided) (forward : NoFormLeadsBack all.symbols) where
    falls : (form : Form) (index : ℕ) (next : Form) → IsNamedIn form.terms index → form_at all.symbols index ≡ Some next → rank all.symbols next < rank all.symbols form
    falls form index next named is = rank_falls decided all.symbols forward form index next is named

    lowest : (form : Form) → rank all.symbols form ≤ 0 → names_assigned all form ≡ false
    lowest form low = names_none form.terms (λ index next named is. let less = falls form index next named is in absurd (omega arith))

    -- the rank of a form is bound enough for its expansion
    exact : (bound : ℕ) (form : Form) (more : ℕ) → rank all.symbols form ≤ bound → bound ≤ more → expanded_within more all form ≡ expanded_within bound all form
    unfolding expanded_within
    exact zero form more low within = within_none more form (lowest form low)
    exact (suc bound) form zero low within = absurd (omega arith)
    exact (suc bound) form (suc more) low within =
        by (names_assigned all form) refl (λ index next named is. let less = falls form index next named is in exact bound next more (omega arith) (omega arith))
      where
        by : (b : Bool) → names_assigned all form ≡ b
            → ((index : ℕ) (next : Form) → IsNamedIn form.terms index → form_at all.symbols index ≡ Some next → expanded_within more all next ≡ expanded_within bound all next)
            → expanded_within (suc more) all form ≡ expanded_within (suc bound) all form
        by false none later = within_none (suc more) form none ∙ sym (within_none (suc bound) form none)
        by true some later =
            within_some more form some
            ∙ plus_same (λ next. expanded_within more all next) (λ next. expanded_within bound all next) form.terms (constant_form form.constant) later
            ∙ sym (within_some bound form some)

    -- and leaves no assigned symbol
    clean : (bound : ℕ) (form : Form) → rank all.symbols form ≤ bound → names_assigned all (expanded_within bound all form) ≡ false
    clean zero form low = let none = lowest form low in rw (within_none zero form none) none
    clean (suc bound) form low = by (names_assigned all form) refl (λ index next named is. let less = falls form index next named is in clean bound next (omega arith))
      where
        by : (b : Bool) → names_assigned all form ≡ b
            → ((index : ℕ) (next : Form) → IsNamedIn form.terms index → form_at all.symbols index ≡ Some next → names_assigned all (expanded_within bound all next) ≡ false)
            → names_assigned all (expanded_within (suc bound) all form) ≡ false
        by false none later = rw (within_none (suc bound) form none) none
        by true some later =
            rw (within_some bound form some)
            (plus_terms_clean (λ next. expanded_within bound all next) form.terms (constant_form form.constant) refl later)

    -- the expansion of a form is the sum of its terms, with each symbol replaced by the expansion of its form
    pub expanded_some : (form : Form) → names_assigned all form ≡ true → expanded all form ≡ with_replaced (replacement (expanded all) all) form
    unfolding expanded
    expanded_some form some =
        within_some (length all.symbols) form some
        ∙ plus_same (λ next. expanded_within (length all.symbols) all next) (expanded all) form.terms (constant_form form.constant)
        (λ index next named is. let small = rank_small all.symbols next in sym (exact (length all.symbols) next (suc (length all.symbols)) small (omega arith)))

    -- no assigned symbol is left
    pub expanded_clean : (form : Form) → names_assigned all (expanded all form) ≡ false
    unfolding expanded
    expanded_clean form = let small = rank_small all.symbols form in clean (suc (length all.symbols)) form (omega arith)
