-- The coefficients of a sum and of a difference of forms.
use Rattle.std.proofs.Common.{◌≡◌, ◌==◌, ℕ, ◌+◌, Bool, true, false, cond, List, [], ◌∷◌, map, refl, ap, arith}
use Rattle.asm_expr.specs.declared.forms.Term.{Term}
use Rattle.asm_expr.specs.Forms.{Form, wrapped, with_terms, signed_term}
use Rattle.asm_expr.specs.Coefficients.{counted_as, times, AreAdded}
use Rattle.asm_expr.proofs.Weights.{IsWeight, weighed, with_terms_weighs, plain_weighs, minus_weighs}

count_adds : (b : Bool) (m n : ℕ) → wrapped (cond b (wrapped (m + n)) 0) ≡ wrapped (cond b m 0 + cond b n 0)
count_adds true m n = omega arith
count_adds false m n = omega arith

count_none : (b : Bool) → wrapped (cond b 0 0) ≡ 0
count_none true = refl
count_none false = refl

counts : (own : ℕ) → IsWeight (counted_as own)
counts own = record {
  none = λ symbol. count_none (symbol == own);
  adds = λ symbol m n. count_adds (symbol == own) m n;
}

times_weighs : (own : ℕ) (terms : List Term) → times own terms ≡ weighed (counted_as own) terms
times_weighs own [] = refl
times_weighs own (term ∷ terms) = ap (λ (n : ℕ). counted_as own term.symbol term.coefficient + n) (times_weighs own terms)

pub are_added : (one other : Form) → AreAdded one other
are_added one other = record {
  sum = λ own.
      let a = with_terms_weighs (counted_as own) (counts own) one.terms (map (signed_term false) other.terms) in
      let b = plain_weighs (counted_as own) (counts own) other.terms in
      let c = times_weighs own one.terms in
      let d = times_weighs own other.terms in
      let e = times_weighs own (with_terms one.terms (map (signed_term false) other.terms)) in
      omega arith;
  difference = λ own.
      let a = with_terms_weighs (counted_as own) (counts own) one.terms (map (signed_term true) other.terms) in
      let b = minus_weighs (counted_as own) (counts own) other.terms in
      let c = times_weighs own one.terms in
      let d = times_weighs own other.terms in
      let e = times_weighs own (with_terms one.terms (map (signed_term true) other.terms)) in
      omega arith;
  sum_constant = refl;
  difference_constant = omega arith;
}
