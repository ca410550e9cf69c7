-- How the expanded forms of symbols are made, each after those that it needs.
use Rattle.std.proofs.Common.{◌≡◌, ◌≢◌, ℕ, zero, suc, ◌+◌, ◌<◌, ◌≤◌, ◌⊎◌, inl, inr, Bool, true, false, nat_eq, ◌&&◌, not, List, [], ◌∷◌, length, map, set, replicate, Option, None, Some, is_some, IsSome, refl, sym, ap, ◌∙◌, arith, get_or, drop, drop-cons, length-drop, slice_get}
use Rattle.std.specs.List.{list_any}
use Rattle.std.specs.Option.{option_map, option_flatten}
use Rattle.std.proofs.lemmas.Bool.{eqb-true}
use Rattle.std.proofs.lemmas.Bool.Decides.{nat_tests}
use Rattle.std.proofs.lemmas.List.{nil_from_length, length-set, length-replicate}
use Rattle.asm_expr.specs.declared.forms.Term.{Term}
use Rattle.asm_expr.specs.Forms.{Form, constant_form, plus_times}
use Rattle.asm_symbols.specs.SymbolMap.{SymbolMap}
use Rattle.asm_symbols.specs.Assigning.{form_at, IsNamedIn, NoFormLeadsBack}
use Rattle.assigned_forms.specs.Expanding.{form_or_symbol, replacement, plus_terms, is_assigned, names_assigned, names_expanded, expanded, expansion_at, entry_at, awaits, terms_of, Expands, IsAwaited, AreExpansions, ArePartly, KeepsForms}
use Rattle.assigned_forms.specs.declared.expanding.Expansion.TheVariants.{Absent}
use Rattle.assigned_forms.specs.Expansions.{form_there}
use Rattle.assigned_forms.proofs.RankLemmas.{AreDecided, form_within}
use Rattle.assigned_forms.proofs.ExpandingLemmas.{expanded_none, expanded_some}

-- a store at one place
pub slice_set_here : {X : Type 0} (xs : List X) (at : ℕ) (x : X) → at < length xs → slice_get (set xs at x) at ≡ Some x
slice_set_here [] at x within = absurd (omega arith)
slice_set_here (first ∷ xs) zero x within = refl
slice_set_here (first ∷ xs) (suc at) x within = slice_set_here xs at x (omega arith)

pub slice_set_other : {X : Type 0} (xs : List X) (at index : ℕ) (x : X) → index ≢ at → slice_get (set xs at x) index ≡ slice_get xs index
slice_set_other [] at index x other = refl
slice_set_other (first ∷ xs) zero zero x other = absurd (other refl)
slice_set_other (first ∷ xs) zero (suc index) x other = refl
slice_set_other (first ∷ xs) (suc at) zero x other = refl
slice_set_other (first ∷ xs) (suc at) (suc index) x other = slice_set_other xs at index x (λ same. other (ap suc same))

slice_set : {X : Type 0} (xs : List X) (at index : ℕ) (x : X) → at < length xs → (slice_get (set xs at x) index ≡ slice_get xs index) ⊎ ((index ≡ at) × (slice_get (set xs at x) index ≡ Some x))
slice_set [] at index x within = absurd (omega arith)
slice_set (first ∷ xs) zero zero x within = inr (refl, refl)
slice_set (first ∷ xs) zero (suc index) x within = inl refl
slice_set (first ∷ xs) (suc at) zero x within = inl refl
slice_set (first ∷ xs) (suc at) (suc index) x within = elim (slice_set xs at index x (omega arith)) [ inl kept ↦ inl kept | inr this ↦ inr (ap suc this.0, this.1) ]

-- a store, seen through a view of the elements
pub map_set : {X Y : Type 0} (f : X → Y) (xs : List X) (at : ℕ) (x : X) → map f (set xs at x) ≡ set (map f xs) at (f x)
map_set f [] at x = refl
map_set f (first ∷ xs) zero x = refl
map_set f (first ∷ xs) (suc at) x = ap (λ rest. f first ∷ rest) (map_set f xs at x)

-- no form is there for so many symbols
pub map_absent : (n : ℕ) → map form_there (replicate n Absent) ≡ replicate n None
map_absent zero = refl
map_absent (suc n) = ap (λ rest. None ∷ rest) (map_absent n)

entry_none : (n index : ℕ) → entry_at (replicate n None) index ≡ None
entry_none zero index = refl
entry_none (suc n) zero = refl
entry_none (suc n) (suc index) = entry_none n index

and_parts : (a b : Bool) → (a && b) ≡ true → (a ≡ true) × (b ≡ true)
and_parts true b is = (refl, is)
and_parts false b is = cc

not_true : (a : Bool) → not a ≡ true → a ≡ false
not_true true is = cc
not_true false is = refl

module _ (all : SymbolMap) where
  -- the next term is added
  plus_more : (terms : List Term) (at : ℕ) (item : Term) (made : Form) → at < length terms → item ≡ get_or terms at item
      → plus_terms (replacement (expanded all) all) made (drop at terms) ≡ plus_terms (replacement (expanded all) all) (plus_times made item.coefficient (replacement (expanded all) all item.symbol)) (drop (at + 1) terms)
  unfolding plus_terms
  plus_more terms at item made inside is =
      let front = drop-cons terms at item inside in
      let one : suc at ≡ at + 1 = omega arith in
      ap (λ rest. plus_terms (replacement (expanded all) all) made rest) (front ∙ ap (λ term. term ∷ drop (suc at) terms) (sym is))
      ∙ ap (λ n. plus_terms (replacement (expanded all) all) (plus_times made item.coefficient (replacement (expanded all) all item.symbol)) (drop n terms)) one

  -- no term is left
  plus_end : (terms : List Term) (at : ℕ) (made : Form) → length terms ≤ at → plus_terms (replacement (expanded all) all) made (drop at terms) ≡ made
  unfolding plus_terms
  plus_end terms at made all_seen =
      let none : drop at terms ≡ [] = nil_from_length (drop at terms) (omega (arith, length-drop at terms)) in
      ap (λ rest. plus_terms (replacement (expanded all) all) made rest) none

  -- the form of a symbol begins to be expanded
  pub begun_some : AreDecided → NoFormLeadsBack all.symbols → (at : ℕ) (form made : Form) → form_at all.symbols at ≡ Some form → names_assigned all form ≡ true → made ≡ constant_form form.constant → Expands all at 0 made
  begun_some decided forward at form made is some same = rw (is, same) (ap Some (expanded_some all decided forward form some))

  pub begun_none : (at seen : ℕ) (form made : Form) → form_at all.symbols at ≡ Some form → names_assigned all form ≡ false → made ≡ form → seen ≡ length form.terms → Expands all at seen made
  begun_none at seen form made is none same long =
      let whole = expanded_none all form none in
      let end = plus_end form.terms seen made (omega arith) in
      rw is (ap Some (whole ∙ sym same ∙ sym end))

  -- a form that names no assigned symbol stands for itself
  pub own_there : (at : ℕ) (form : Form) → form_at all.symbols at ≡ Some form → names_assigned all form ≡ false → expansion_at all at ≡ Some form
  own_there at form is none = ap (option_map (expanded all)) is ∙ ap Some (expanded_none all form none)

  pub expands_done : (at seen : ℕ) (made : Form) → Expands all at seen made → length (terms_of (form_at all.symbols at)) ≤ seen → expansion_at all at ≡ Some made
  expands_done at seen made expands all_seen = expands ∙ ap Some (plus_end (terms_of (form_at all.symbols at)) seen made all_seen)

  -- at first none is there
  pub partly_none : (count : ℕ) → count ≡ length all.symbols → ArePartly all (replicate count None)
  partly_none count long = record {
    long = length-replicate count None ∙ long;
    each = λ index form is. let none : ◌≡◌ {A = Option Form} None (Some form) = sym (entry_none count index) ∙ is in cc;
  }

  module _ (forms : List (Option Form)) where
    -- a form that is not awaited is there, where it is one
    exact_by : (index : ℕ) (o : Option Form) (e : Option Form) → ((form : Form) → e ≡ Some form → option_map (expanded all) o ≡ Some form) → (is_some o && not (is_some e)) ≡ false → e ≡ option_map (expanded all) o
    exact_by index None None each none = refl
    exact_by index None (Some form) each none = let no = each form refl in cc
    exact_by index (Some form) None each none = cc
    exact_by index (Some form) (Some made) each none = sym (each made refl)

    pub entry_exact : ArePartly all forms → (index : ℕ) → awaits all forms index ≡ false → entry_at forms index ≡ expansion_at all index
    entry_exact partly index none = exact_by index (form_at all.symbols index) (entry_at forms index) (partly.each index) none

    -- a term whose symbol awaits no form is added
    pub expands_step : ArePartly all forms → (at seen other : ℕ) (item : Term) (made new : Form) → seen < length (terms_of (form_at all.symbols at)) → item ≡ get_or (terms_of (form_at all.symbols at)) seen item
        → other ≡ item.symbol → awaits all forms other ≡ false → new ≡ plus_times made item.coefficient (form_or_symbol item.symbol (entry_at forms item.symbol)) → Expands all at seen made → Expands all at (seen + 1) new
    expands_step partly at seen other item made new inside is same none grown expands =
        let found = entry_exact partly item.symbol (rw same at none) in
        let next : new ≡ plus_times made item.coefficient (replacement (expanded all) all item.symbol) = grown ∙ ap (λ o. plus_times made item.coefficient (form_or_symbol item.symbol o)) found in
        expands ∙ ap Some (plus_more (terms_of (form_at all.symbols at)) seen item made inside is ∙ ap (λ m. plus_terms (replacement (expanded all) all) m (drop (seen + 1) (terms_of (form_at all.symbols at)))) (sym next))

    -- the symbol that is awaited is named
    named_at : (terms : List Term) (seen : ℕ) (item : Term) → seen < length terms → item ≡ get_or terms seen item → IsNamedIn terms item.symbol
    named_at [] seen item inside is = absurd (omega arith)
    named_at (term ∷ terms) zero item inside is = inl (ap (λ t. t.symbol) (sym is))
    named_at (term ∷ terms) (suc seen) item inside is = inr (named_at terms seen item (omega arith) is)

    pub is_awaited : (at seen other : ℕ) (item : Term) → seen < length (terms_of (form_at all.symbols at)) → item ≡ get_or (terms_of (form_at all.symbols at)) seen item
        → other ≡ item.symbol → awaits all forms other ≡ true → IsAwaited all forms at other
    is_awaited at seen other item inside is same missing = record { named = rw same (named_at (terms_of (form_at all.symbols at)) seen item inside is); missing = missing }

    -- what is awaited is a symbol whose form is not there
    pub awaits_parts : (index : ℕ) → awaits all forms index ≡ true → IsSome (form_at all.symbols index) × (is_some (entry_at forms index) ≡ false)
    awaits_parts index is =
        let parts = and_parts (is_some (form_at all.symbols index)) (not (is_some (entry_at forms index))) is in
        (parts.0, not_true (is_some (entry_at forms index)) parts.1)

    within_by : (index : ℕ) (o : Option Form) → form_at all.symbols index ≡ o → is_some o ≡ true → index < length all.symbols
    within_by index None is some = cc
    within_by index (Some form) is some = form_within all.symbols index form is

    pub awaits_within : (index : ℕ) → awaits all forms index ≡ true → index < length all.symbols
    awaits_within index is = within_by index (form_at all.symbols index) refl (awaits_parts index is).0

    -- a form is put there
    module _ (at : ℕ) (made : Form) (inside : at < length forms) where
      entry_put : (index : ℕ) → (entry_at (set forms at (Some made)) index ≡ entry_at forms index) ⊎ ((index ≡ at) × (entry_at (set forms at (Some made)) index ≡ Some made))
      entry_put index = elim (slice_set forms at index (Some made) inside) [
        | inl kept ↦ inl (ap option_flatten kept)
        | inr this ↦ inr (this.0, ap option_flatten this.1)
      ]

      partly_by : ArePartly all forms → expansion_at all at ≡ Some made → (index : ℕ) (form : Form)
          → (entry_at (set forms at (Some made)) index ≡ entry_at forms index) ⊎ ((index ≡ at) × (entry_at (set forms at (Some made)) index ≡ Some made))
          → entry_at (set forms at (Some made)) index ≡ Some form → expansion_at all index ≡ Some form
      partly_by partly whole index form (inl kept) is = partly.each index form (sym kept ∙ is)
      partly_by partly whole index form (inr this) is = ap (expansion_at all) this.0 ∙ whole ∙ sym this.1 ∙ is

      pub partly_put : ArePartly all forms → expansion_at all at ≡ Some made → ArePartly all (set forms at (Some made))
      partly_put partly whole = record { long = length-set forms at (Some made) ∙ partly.long; each = λ index form is. partly_by partly whole index form (entry_put index) is }

      kept_by : (index : ℕ) (a : Bool) → (entry_at (set forms at (Some made)) index ≡ entry_at forms index) ⊎ ((index ≡ at) × (entry_at (set forms at (Some made)) index ≡ Some made))
          → (a && not (is_some (entry_at forms index))) ≡ false → (a && not (is_some (entry_at (set forms at (Some made)) index))) ≡ false
      kept_by index false put is = refl
      kept_by index true (inl kept) is = rw kept is
      kept_by index true (inr this) is = rw this.1

      pub kept_put : KeepsForms all forms (set forms at (Some made))
      kept_put index is = kept_by index (is_some (form_at all.symbols index)) (entry_put index) is

      and_none : (a b : Bool) → b ≡ true → (a && not b) ≡ false
      and_none true b is = rw is
      and_none false b is = refl

      pub there_put : awaits all (set forms at (Some made)) at ≡ false
      there_put = and_none (is_some (form_at all.symbols at)) (is_some (entry_at (set forms at (Some made)) at)) (ap is_some (ap option_flatten (slice_set_here forms at (Some made) inside)))

      pub others_put : (index : ℕ) → index ≢ at → awaits all forms index ≡ true → awaits all (set forms at (Some made)) index ≡ true
      others_put index other is = ap (λ e. is_some (form_at all.symbols index) && not (is_some (option_flatten e))) (slice_set_other forms at index (Some made) other) ∙ is

    -- all are there
    pub all_there : ArePartly all forms → ((index : ℕ) → index < length all.symbols → awaits all forms index ≡ false) → AreExpansions all forms
    all_there partly done = record { each = λ index. entry_exact partly index (none_by index (form_at all.symbols index) refl) }
      where
        none_by : (index : ℕ) (o : Option Form) → form_at all.symbols index ≡ o → awaits all forms index ≡ false
        none_by index None is = rw is
        none_by index (Some form) is = done index (form_within all.symbols index form is)

    -- where all are there, they are those of the assigned symbols
    is_there : (o : Option Form) → is_some (option_map (expanded all) o) ≡ is_some o
    is_there None = refl
    is_there (Some form) = refl

    terms_there : AreExpansions all forms → (terms : List Term) → list_any (λ term. is_some (entry_at forms term.symbol)) terms ≡ list_any (is_assigned all) terms
    terms_there exact [] = refl
    terms_there exact (term ∷ terms) =
        let first : is_some (entry_at forms term.symbol) ≡ is_assigned all term = ap is_some (exact.each term.symbol) ∙ is_there (form_at all.symbols term.symbol) in
        let rest = terms_there exact terms in
        rw (first, rest) refl

    pub names_there : AreExpansions all forms → (form : Form) → names_expanded forms form ≡ names_assigned all form
    names_there exact form = terms_there exact form.terms

    -- a term is added where all are there
    pub expand_step : AreExpansions all forms → (terms : List Term) (seen : ℕ) (item : Term) (made new whole : Form) → seen < length terms → item ≡ get_or terms seen item
        → new ≡ plus_times made item.coefficient (form_or_symbol item.symbol (entry_at forms item.symbol))
        → plus_terms (replacement (expanded all) all) made (drop seen terms) ≡ whole → plus_terms (replacement (expanded all) all) new (drop (seen + 1) terms) ≡ whole
    expand_step exact terms seen item made new whole inside is grown before =
        let next : new ≡ plus_times made item.coefficient (replacement (expanded all) all item.symbol) = grown ∙ ap (λ o. plus_times made item.coefficient (form_or_symbol item.symbol o)) (exact.each item.symbol) in
        ap (λ m. plus_terms (replacement (expanded all) all) m (drop (seen + 1) terms)) next ∙ sym (plus_more terms seen item made inside is) ∙ before

    pub expand_end : (terms : List Term) (seen : ℕ) (made whole : Form) → length terms ≤ seen → plus_terms (replacement (expanded all) all) made (drop seen terms) ≡ whole → made ≡ whole
    expand_end terms seen made whole all_seen before = sym (plus_end terms seen made all_seen) ∙ before

-- the expanded forms of so many symbols are there
pub record AreUpTo (all : SymbolMap) (forms : List (Option Form)) (count : ℕ) : Type 0 where
  pub partly : ArePartly all forms
  pub done : (index : ℕ) → index < count → awaits all forms index ≡ false

pub up_to_none : (all : SymbolMap) (forms : List (Option Form)) (count : ℕ) → forms ≡ replicate count None → count ≡ length all.symbols → AreUpTo all forms 0
up_to_none all forms count is long = rw is (record { partly = partly_none all count long; done = λ index below. absurd (omega arith) })

pub up_to_next : (all : SymbolMap) (forms new : List (Option Form)) (count : ℕ) → AreUpTo all forms count → ArePartly all new → awaits all new count ≡ false → KeepsForms all forms new → AreUpTo all new (count + 1)
up_to_next all forms new count before partly last kept = record { partly = partly; done = λ index below. by index below (nat_eq index count) refl }
  where
    apart : (a b : ℕ) → nat_eq a b ≡ false → a ≢ b
    apart a b is = grind (arith, nat_tests)

    by : (index : ℕ) → index < count + 1 → (b : Bool) → nat_eq index count ≡ b → awaits all new index ≡ false
    by index below true is = let same : index ≡ count = eqb-true index count is in rw same last
    by index below false is = let other : index ≢ count = apart index count is in kept index (before.done index (omega arith))

pub up_to_all : (all : SymbolMap) (forms : List (Option Form)) (count : ℕ) → length all.symbols ≤ count → AreUpTo all forms count → AreExpansions all forms
up_to_all all forms count enough up_to = all_there all forms up_to.partly (λ index below. up_to.done index (omega arith))
