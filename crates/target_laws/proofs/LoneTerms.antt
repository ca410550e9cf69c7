-- Terms that count as one symbol, once, are that symbol alone.
use Rattle.std.proofs.Common.{◌≡◌, ℕ, ◌+◌, ◌*◌, ◌==◌, Bool, true, false, not, cond, List, [], ◌∷◌, ◌++◌, refl, sym, ap, ◌∙◌, arith, mul-zero}
use Rattle.std.specs.Prelude.{filter}
use Rattle.std.proofs.lemmas.Bool.Decides.{Decides-eqb, nat_tests}
use Rattle.asm_expr.specs.declared.forms.Term.{Term}
use Rattle.asm_expr.specs.Forms.{Form, wrapped, term_of}
use Rattle.asm_expr.specs.Coefficients.{is_among}
use Rattle.asm_frags.specs.Fields.{own_place}
use Rattle.flow_graph.specs.Targets.{is_of_symbol}
use Rattle.target_laws.proofs.Sums.{total, weighed}
use Rattle.target_laws.proofs.Distances.{IsSmallTerm, AreReduced, apart_of}

-- a symbol weighs 1, and all others 0
abbrev pub alone : ℕ → ℕ → ℕ
alone own symbol = cond (symbol == own) 1 0

-- how often it counts in the terms
abbrev pub times_in : ℕ → List Term → ℕ
times_in own terms = total false (alone own) terms

pub weighed_times : (own : ℕ) (made : Form) → weighed false (alone own) made ≡ wrapped (times_in own made.terms)
weighed_times own made = omega arith

times_none : (own : ℕ) (terms : List Term) → is_among own terms ≡ false → times_in own terms ≡ 0
times_none own [] none = refl
times_none own (term ∷ terms) none =
    let parts = apart_of own (term.symbol == own) (is_among own terms) none in
    let here : term.coefficient * alone own term.symbol ≡ term.coefficient * 0 = ap (λ b. term.coefficient * cond b 1 0) parts.0 in
    let nothing = mul-zero term.coefficient in
    let later = times_none own terms parts.1 in
    omega (arith, here, nothing, later)

times_here : (own : ℕ) (term : Term) (terms : List Term) → (term.symbol == own) ≡ true → is_among own terms ≡ false → times_in own (term ∷ terms) ≡ term.coefficient
times_here own term terms same none =
    let here : term.coefficient * alone own term.symbol ≡ term.coefficient * 1 = ap (λ b. term.coefficient * cond b 1 0) same in
    let once : term.coefficient * 1 ≡ term.coefficient = omega arith in
    let later = times_none own terms none in
    omega (arith, here, once, later)

times_other : (own : ℕ) (term : Term) (terms : List Term) → (term.symbol == own) ≡ false → times_in own (term ∷ terms) ≡ times_in own terms
times_other own term terms other =
    let here : term.coefficient * alone own term.symbol ≡ term.coefficient * 0 = ap (λ b. term.coefficient * cond b 1 0) other in
    let nothing = mul-zero term.coefficient in
    omega (arith, here, nothing)

self : (n : ℕ) → (n == n) ≡ true
self n = (Decides-eqb n n).1 refl

-- a symbol that counts is the one that counts
counted : (symbol one count : ℕ) → IsSmallTerm (term_of one count) → wrapped count ≡ cond (symbol == one) 1 0 → (symbol ≡ one) × (count ≡ 1)
counted symbol one count is counts = by (symbol == one) refl counts
  where
    by : (b : Bool) → (symbol == one) ≡ b → wrapped count ≡ cond b 1 0 → (symbol ≡ one) × (count ≡ 1)
    by true same once = ((Decides-eqb symbol one).0 same, let small = is.small in omega (arith, once, small))
    by false other none =
        let small = is.small in
        let zero_is : count ≡ 0 = omega (arith, none, small) in
        let found : (count == 0) ≡ true = (Decides-eqb count 0).1 zero_is in
        let some = is.some in
        absurd cc

module _ (own symbol : ℕ) (apart : (symbol == own) ≡ false) where
  -- so often each symbol counts in the terms, but for this one
  abbrev CountsAs : List Term → Type 0
  CountsAs terms = (other : ℕ) → (other == own) ≡ false → wrapped (times_in other terms) ≡ cond (symbol == other) 1 0

  one_left : (term : Term) (terms : List Term) → AreReduced (term ∷ terms) → is_among own (term ∷ terms) ≡ false → CountsAs (term ∷ terms)
      → (symbol ≡ term.symbol) × (term.coefficient ≡ 1)
  one_left term terms all none counts =
      let parts = apart_of own (term.symbol == own) (is_among own terms) none in
      counted symbol term.symbol term.coefficient all.0 (ap wrapped (sym (times_here term.symbol term terms (self term.symbol) all.1)) ∙ counts term.symbol parts.0)

  pub lone_terms : (terms : List Term) → AreReduced terms → is_among own terms ≡ false → CountsAs terms → terms ≡ term_of symbol 1 ∷ []
  lone_terms [] all none counts =
      let here = counts symbol apart in
      let once : alone symbol symbol ≡ 1 = ap (λ b. cond b 1 0) (self symbol) in
      absurd (omega (arith, here, once))
  lone_terms (term ∷ []) all none counts =
      let is = one_left term [] all none counts in
      ap (λ (n : ℕ). term_of n term.coefficient ∷ []) (sym is.0) ∙ ap (λ (n : ℕ). term_of symbol n ∷ []) is.1
  lone_terms (term ∷ next ∷ terms) all none counts =
      let first = one_left term (next ∷ terms) all none counts in
      let parts = apart_of own (term.symbol == own) (is_among own (next ∷ terms)) none in
      let later = apart_of own (next.symbol == own) (is_among own terms) parts.1 in
      let between = apart_of term.symbol (next.symbol == term.symbol) (is_among term.symbol terms) all.1 in
      let turned : (term.symbol == next.symbol) ≡ false = let b = between.0 in grind (arith, nat_tests) in
      let counts_next = ap wrapped (sym (times_other next.symbol term (next ∷ terms) turned ∙ times_here next.symbol next terms (self next.symbol) all.2.1)) ∙ counts next.symbol later.0 in
      let second = counted symbol next.symbol next.coefficient all.2.0 counts_next in
      let same : (next.symbol == term.symbol) ≡ true = (Decides-eqb next.symbol term.symbol).1 (sym second.0 ∙ first.0) in
      let differs = between.0 in
      absurd cc

-- WITHOUT THE PLACE OF THE FIELD

-- what is left counts as it did
filtered : (other : ℕ) → (own_place == other) ≡ false → (terms : List Term) → times_in other (filter is_of_symbol terms) ≡ times_in other terms
filtered other apart [] = refl
filtered other apart (term ∷ terms) = by (term.symbol == own_place) refl (filtered other apart terms)
  where
    by : (b : Bool) → (term.symbol == own_place) ≡ b → times_in other (filter is_of_symbol terms) ≡ times_in other terms
        → times_in other (cond (not b) (term ∷ filter is_of_symbol terms) (filter is_of_symbol terms)) ≡ times_in other (term ∷ terms)
    by true is later =
        let e : term.symbol ≡ own_place = (Decides-eqb term.symbol own_place).0 is in
        let differs : (term.symbol == other) ≡ false = ap (λ (n : ℕ). n == other) e ∙ apart in
        later ∙ sym (times_other other term terms differs)
    by false is later = ap (λ n. term.coefficient * alone other term.symbol + n) later

-- all is left where the place is not named
pub all_left : (terms : List Term) → is_among own_place terms ≡ false → (more : List Term) → filter is_of_symbol (terms ++ more) ≡ terms ++ filter is_of_symbol more
all_left [] none more = refl
all_left (term ∷ terms) none more =
    let parts = apart_of own_place (term.symbol == own_place) (is_among own_place terms) none in
    ap (λ b. cond (not b) (term ∷ filter is_of_symbol (terms ++ more)) (filter is_of_symbol (terms ++ more))) parts.0
    ∙ ap (λ (ts : List Term). term ∷ ts) (all_left terms parts.1 more)

-- terms of which one symbol is left, once, count so
pub lone_counts : (terms : List Term) (symbol : ℕ) → filter is_of_symbol terms ≡ term_of symbol 1 ∷ [] → (other : ℕ) → (other == own_place) ≡ false
    → times_in other terms ≡ cond (symbol == other) 1 0
lone_counts terms symbol is other apart =
    let turned : (own_place == other) ≡ false = grind (arith, nat_tests) in
    let once : 1 * alone other symbol + 0 ≡ alone other symbol = omega arith in
    sym (filtered other turned terms) ∙ ap (times_in other) is ∙ once
