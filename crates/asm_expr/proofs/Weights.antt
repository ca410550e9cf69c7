-- What a list of terms weighs where each coefficient weighs what its name lets it, modulo 2^64.
use Rattle.std.proofs.Common.{◌≡◌, ℕ, ◌+◌, ◌-◌, ◌^◌, ◌==◌, Bool, true, false, cond, List, [], ◌∷◌, map, refl, sym, ap, ◌∙◌, arith}
use Rattle.std.proofs.lemmas.Bool.Decides.{nat_tests}
use Rattle.asm_expr.specs.declared.forms.Term.{Term}
use Rattle.asm_expr.specs.Forms.{wrapped, term_of, is_kept, before_terms, with_term, with_terms, signed_term}

-- symbols that are the same are equal
pub same_is : (one other : ℕ) → (one == other) ≡ true → one ≡ other
same_is one other is = grind (arith, nat_tests)

-- a weight of coefficients that adds up modulo 2^64
pub record IsWeight (weight : ℕ → ℕ → ℕ) : Type 0 where
  pub none : (name : ℕ) → wrapped (weight name 0) ≡ 0
  pub adds : (name : ℕ) (a b : ℕ) → wrapped (weight name (wrapped (a + b))) ≡ wrapped (weight name a + weight name b)

-- the weight of all terms
abbrev pub weighed : (ℕ → ℕ → ℕ) → List Term → ℕ
weighed weight [] = 0
weighed weight (term ∷ terms) = weight term.symbol term.coefficient + weighed weight terms

module _ (weight : ℕ → ℕ → ℕ) (is_weight : IsWeight weight) where
  kept_weighs : (b : Bool) (term : Term) (rest : List Term) → is_kept term ≡ b → wrapped (weighed weight (cond b (term ∷ rest) rest)) ≡ wrapped (weight term.symbol term.coefficient + weighed weight rest)
  kept_weighs true term rest is = refl
  kept_weighs false term rest is =
      let zero : term.coefficient ≡ 0 = grind (arith, nat_tests) in
      let none = is_weight.none term.symbol in
      let same : weight term.symbol term.coefficient ≡ weight term.symbol 0 = ap (weight term.symbol) zero in
      omega arith

  step : (b : Bool) (term more : Term) (rest : List Term) → (term.symbol == more.symbol) ≡ b → wrapped (weighed weight (with_term rest more)) ≡ wrapped (weighed weight rest + weight more.symbol more.coefficient)
      → wrapped (weighed weight (cond b (before_terms (term_of term.symbol (wrapped (term.coefficient + more.coefficient))) rest) (term ∷ with_term rest more)))
      ≡ wrapped (weight term.symbol term.coefficient + weighed weight rest + weight more.symbol more.coefficient)
  step true term more rest is later =
      let same = same_is term.symbol more.symbol is in
      let adds = is_weight.adds term.symbol term.coefficient more.coefficient in
      let weighs = kept_weighs (is_kept (term_of term.symbol (wrapped (term.coefficient + more.coefficient)))) (term_of term.symbol (wrapped (term.coefficient + more.coefficient))) rest refl in
      let moved : weight more.symbol more.coefficient ≡ weight term.symbol more.coefficient = ap (λ (n : ℕ). weight n more.coefficient) (sym same) in
      omega arith
  step false term more rest is later = omega arith

  pub with_term_weighs : (terms : List Term) (more : Term) → wrapped (weighed weight (with_term terms more)) ≡ wrapped (weighed weight terms + weight more.symbol more.coefficient)
  unfolding with_term
  with_term_weighs [] more =
      let weighs = kept_weighs (is_kept more) more [] refl in
      omega arith
  with_term_weighs (term ∷ rest) more = step (term.symbol == more.symbol) term more rest refl (with_term_weighs rest more)

  pub with_terms_weighs : (terms others : List Term) → wrapped (weighed weight (with_terms terms others)) ≡ wrapped (weighed weight terms + weighed weight others)
  unfolding with_terms
  with_terms_weighs terms [] = omega arith
  with_terms_weighs terms (more ∷ others) =
      let one = with_term_weighs terms more in
      let all = with_terms_weighs (with_term terms more) others in
      omega arith

  pub plain_weighs : (terms : List Term) → weighed weight (map (signed_term false) terms) ≡ weighed weight terms
  plain_weighs [] = refl
  plain_weighs (term ∷ terms) = ap (λ (n : ℕ). weight term.symbol term.coefficient + n) (plain_weighs terms)

  turned : (name : ℕ) (n : ℕ) → wrapped (weight name (wrapped (2 ^ 64 - wrapped n)) + weight name n) ≡ 0
  turned name n =
      let adds = is_weight.adds name (wrapped (2 ^ 64 - wrapped n)) n in
      let zero : wrapped (wrapped (2 ^ 64 - wrapped n) + n) ≡ 0 = omega arith in
      sym adds ∙ ap (λ (m : ℕ). wrapped (weight name m)) zero ∙ is_weight.none name

  pub minus_weighs : (terms : List Term) → wrapped (weighed weight (map (signed_term true) terms) + weighed weight terms) ≡ 0
  minus_weighs [] = refl
  minus_weighs (term ∷ terms) =
      let one = turned term.symbol term.coefficient in
      let all = minus_weighs terms in
      omega arith
