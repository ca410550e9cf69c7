-- Which weak symbols are left when labels have cancelled.
use Rattle.std.proofs.Common.{◌≡◌, ℕ, ◌+◌, ◌==◌, ◌&&◌, ◌||◌, Bool, true, false, not, cond, List, [], ◌∷◌, ◌++◌, map, Option, Some, None, is_none, refl, sym, ap, ◌∙◌}
use Rattle.std.specs.Prelude.{sum_by}
use Rattle.std.specs.List.{list_any}
use Rattle.std.proofs.lemmas.List.Folds.{list_any-append}
use Rattle.std.proofs.lemmas.List.Sums.{sum_by-cons}
use Rattle.asm_expr.specs.declared.forms.Term.{Term}
use Rattle.asm_expr.specs.Forms.{Form, wrapped, constant_form}
use Rattle.asm_expr.specs.Knowledge.{Told, absent, constant, label, form}
use Rattle.asm_expr.specs.Settled.{spot_by, spot_of, stretch_sum, cancelled_number, put_one, put_all, settled}
use Rattle.asm_expr.specs.Settled as settling
use Rattle.asm_symbols.specs.SymbolMap.{SymbolMap}
use Rattle.item_rows.specs.Links.{is_of_weak, section_of, counted_if, counted_in, section_sum, is_left_in, is_weak_left, leaves_weak, stretch_of, AreBySection, WeakAreLeft}

-- two terms of which none is weak leave no weak symbol
pub strong_pair : (map' : SymbolMap) (made : Form) (one other : Term) → made.terms ≡ one ∷ other ∷ [] → is_of_weak map' one ≡ false → is_of_weak map' other ≡ false
    → leaves_weak map' made ≡ false
strong_pair map' made one other two first second = rw (two, first, second) refl

or_none : (a : Bool) → (a || false) ≡ a
or_none true = refl
or_none false = refl

or_group : (a b c : Bool) → ((a || b) || c) ≡ (a || (b || c))
or_group true b c = refl
or_group false b c = refl

and_all : (a : Bool) → (a && true) ≡ a
and_all true = refl
and_all false = refl

and_none : (a : Bool) → (a && false) ≡ false
and_none true = refl
and_none false = refl

-- a test that is the same for each element passes for the same lists
any_same : {X : Type 0} (p q : X → Bool) → ((x : X) → p x ≡ q x) → (xs : List X) → list_any p xs ≡ list_any q xs
any_same p q same [] = refl
any_same p q same (x ∷ xs) = ap (λ b. b || list_any p xs) (same x) ∙ ap (λ b. q x || b) (any_same p q same xs)

-- what is weak in a form and one term more
any_put : (weak : Term → Bool) (made : Form) (term : Term) (number : Option ℕ) → list_any weak (put_one made term number).terms ≡ (list_any weak made.terms || (weak term && is_none number))
any_put weak made term None =
    list_any-append weak made.terms (term ∷ [])
    ∙ ap (λ b. list_any weak made.terms || b) (or_none (weak term) ∙ sym (and_all (weak term)))
any_put weak made term (Some number) = sym (ap (λ b. list_any weak made.terms || b) (and_none (weak term)) ∙ or_none (list_any weak made.terms))

-- and in a form and these terms more: those for which no number stands
any_put_all : (told : ℕ → Told) (weak : Term → Bool) (spots : _) (made : Form) (terms : List Term)
    → list_any weak (put_all spots told made terms).terms
    ≡ (list_any weak made.terms || list_any (λ term. weak term && is_none (cancelled_number spots (spot_of told term))) terms)
unfolding put_all
any_put_all told weak spots made [] = sym (or_none (list_any weak made.terms))
any_put_all told weak spots made (term ∷ terms) =
    let stays = λ (other : Term). weak other && is_none (cancelled_number spots (spot_of told other)) in
    let number = cancelled_number spots (spot_of told term) in
    any_put_all told weak spots (put_one made term number) terms
    ∙ ap (λ b. b || list_any stays terms) (any_put weak made term number)
    ∙ or_group (list_any weak made.terms) (stays term) (list_any stays terms)

module _ (map' : SymbolMap) (told : ℕ → Told) (by : AreBySection map' told) where
  counted_same : (known : Told) (section coefficient : ℕ) → settling.counted_in section (spot_by known coefficient) ≡ counted_if (stretch_of known) section coefficient
  counted_same (label stretch at) section coefficient = refl
  counted_same absent section coefficient = refl
  counted_same (constant number) section coefficient = refl
  counted_same (form other) section coefficient = refl

  counted_term : (section : ℕ) (term : Term) → settling.counted_in section (spot_of told term) ≡ counted_in map' section term
  counted_term section term =
      counted_same (told term.symbol) section term.coefficient
      ∙ ap (λ own. counted_if own section term.coefficient) (by term.symbol)

  -- the labels of a section count as often as those of the stretch
  sum_same : (section : ℕ) (terms : List Term) → stretch_sum section (map (spot_of told) terms) ≡ section_sum map' section terms
  sum_same section [] = refl
  sum_same section (term ∷ terms) =
      sum_by-cons (settling.counted_in section) (spot_of told term) (map (spot_of told) terms)
      ∙ ap (λ n. n + stretch_sum section (map (spot_of told) terms)) (counted_term section term)
      ∙ ap (λ n. counted_in map' section term + n) (sum_same section terms)
      ∙ sym (sum_by-cons (counted_in map' section) term terms)

  none_by : (b : Bool) (at : ℕ) → is_none (cond b (Some at) None) ≡ not b
  none_by true at = refl
  none_by false at = refl

  -- no number stands for a symbol exactly where it is left
  left_known : (terms : List Term) (known : Told) (coefficient : ℕ)
      → is_none (cancelled_number (map (spot_of told) terms) (spot_by known coefficient)) ≡ is_left_in map' terms (stretch_of known)
  left_known terms (label stretch at) coefficient =
      none_by (wrapped (stretch_sum stretch (map (spot_of told) terms)) == 0) at
      ∙ ap (λ n. not (wrapped n == 0)) (sum_same stretch terms)
  left_known terms absent coefficient = refl
  left_known terms (constant number) coefficient = refl
  left_known terms (form other) coefficient = refl

  left_same : (terms : List Term) (term : Term)
      → (is_of_weak map' term && is_none (cancelled_number (map (spot_of told) terms) (spot_of told term))) ≡ is_weak_left map' terms term
  left_same terms term =
      ap (λ b. is_of_weak map' term && b)
      (left_known terms (told term.symbol) term.coefficient ∙ ap (is_left_in map' terms) (by term.symbol))

  left_in_form : (made : Form) → leaves_weak map' made ≡ list_any (is_of_weak map') (settled told made).terms
  unfolding settled
  left_in_form made =
      sym (
      any_put_all told (is_of_weak map') (map (spot_of told) made.terms) (constant_form made.constant) made.terms
      ∙ any_same (λ term. is_of_weak map' term && is_none (cancelled_number (map (spot_of told) made.terms) (spot_of told term)))
      (is_weak_left map' made.terms) (left_same made.terms) made.terms
      )

-- a weak symbol is left exactly where the settled form names one
pub weak_are_left : WeakAreLeft
weak_are_left map' told made by = left_in_form map' told by made
