-- Terms and one more, found by its place, and terms whose coefficients stay other than 0.
use Rattle.std.proofs.Common.{◌≡◌, ◌≢◌, ℕ, zero, suc, ◌+◌, ◌==◌, ◌<◌, ◌≤◌, Bool, true, false, not, cond, ◌&&◌, List, [], ◌∷◌, ◌++◌, length, get_or, drop, map, refl, sym, ap, ◌∙◌, arith, append-nil, drop-cons, length-drop}
use Rattle.std.proofs.lemmas.Bool.Decides.{nat_tests}
use Rattle.std.proofs.lemmas.List.{nil_from_length}
use Rattle.std.specs.List.{position_or_len, list_all, remove, insert}
use Rattle.asm_expr.specs.declared.forms.Term.{Term}
use Rattle.asm_expr.specs.Forms.{wrapped, term_of, is_kept, before_terms, with_term, with_terms}
use Rattle.asm_expr.specs.Raised.{raised}

-- what stands at the place is left out, or put in again with the other coefficient
pub raised_out : (terms : List Term) (at by : ℕ) (old : Term) → at < length terms → old ≡ get_or terms at old → wrapped (old.coefficient + by) ≡ 0
    → raised terms at by ≡ remove terms at
unfolding raised
raised_out [] at by old inside is none = absurd (omega arith)
raised_out (term ∷ rest) zero by old inside is none =
    let counts : wrapped (term.coefficient + by) ≡ 0 = ap (λ (t : Term). wrapped (t.coefficient + by)) (sym is) ∙ none in
    rw counts
raised_out (term ∷ rest) (suc at) by old inside is none = ap (λ (ts : List Term). term ∷ ts) (raised_out rest at by old (omega arith) is none)

pub raised_in : (terms : List Term) (at by : ℕ) (old : Term) → at < length terms → old ≡ get_or terms at old → not (wrapped (old.coefficient + by) == 0) ≡ true
    → raised terms at by ≡ insert (remove terms at) at (term_of old.symbol (wrapped (old.coefficient + by)))
unfolding raised
raised_in [] at by old inside is some = absurd (omega arith)
raised_in (term ∷ rest) zero by old inside is some =
    let other : old ≡ term = is in
    rw other (let counts : not (wrapped (term.coefficient + by) == 0) ≡ true = ap (λ (t : Term). not (wrapped (t.coefficient + by) == 0)) (sym is) ∙ some in rw counts)
raised_in (term ∷ rest) (suc at) by old inside is some = ap (λ (ts : List Term). term ∷ ts) (raised_in rest at by old (omega arith) is some)

-- the term of the same name counts more
at_step : (b : Bool) (term more : Term) (rest : List Term) (n : ℕ) → (n < length rest → with_term rest more ≡ raised rest n more.coefficient)
    → cond (not b) (1 + n) 0 < suc (length rest)
    → cond b (before_terms (term_of term.symbol (wrapped (term.coefficient + more.coefficient))) rest) (term ∷ with_term rest more)
    ≡ raised (term ∷ rest) (cond (not b) (1 + n) 0) more.coefficient
unfolding raised
at_step true term more rest n later inside = refl
at_step false term more rest n later inside = let one : 1 + n ≡ suc n = omega arith in rw one (ap (λ (ts : List Term). term ∷ ts) (later (omega arith)))

found_at : (terms : List Term) (more : Term) → position_or_len (λ term. term.symbol == more.symbol) terms < length terms
    → with_term terms more ≡ raised terms (position_or_len (λ term. term.symbol == more.symbol) terms) more.coefficient
unfolding with_term
found_at [] more inside = absurd (omega arith)
found_at (term ∷ rest) more inside =
    at_step (term.symbol == more.symbol) term more rest (position_or_len (λ t. t.symbol == more.symbol) rest) (found_at rest more) inside

pub with_term_at : (terms : List Term) (more : Term) (at : ℕ) → at ≡ position_or_len (λ term. term.symbol == more.symbol) terms → at < length terms
    → with_term terms more ≡ raised terms at more.coefficient
with_term_at terms more at is inside = rw is (found_at terms more (rw is at inside))

-- a name that is not there goes to the end
end_step : (b : Bool) (term more : Term) (rest : List Term) (n : ℕ) → (length rest ≤ n → with_term rest more ≡ rest ++ before_terms more [])
    → suc (length rest) ≤ cond (not b) (1 + n) 0
    → cond b (before_terms (term_of term.symbol (wrapped (term.coefficient + more.coefficient))) rest) (term ∷ with_term rest more)
    ≡ term ∷ rest ++ before_terms more []
end_step true term more rest n later all = absurd (omega arith)
end_step false term more rest n later all = ap (λ (ts : List Term). term ∷ ts) (later (omega arith))

not_found : (terms : List Term) (more : Term) → length terms ≤ position_or_len (λ term. term.symbol == more.symbol) terms
    → with_term terms more ≡ terms ++ before_terms more []
unfolding with_term
not_found [] more all = refl
not_found (term ∷ rest) more all =
    end_step (term.symbol == more.symbol) term more rest (position_or_len (λ t. t.symbol == more.symbol) rest) (not_found rest more) all

pub with_term_behind : (terms : List Term) (more : Term) (at : ℕ) → at ≡ position_or_len (λ term. term.symbol == more.symbol) terms → length terms ≤ at
    → with_term terms more ≡ terms ++ before_terms more []
with_term_behind terms more at is all = not_found terms more (rw is at all)

-- no coefficient becomes 0
kept_before : (b : Bool) (term : Term) (rest : List Term) → is_kept term ≡ b → list_all is_kept rest ≡ true → list_all is_kept (cond b (term ∷ rest) rest) ≡ true
kept_before true term rest is all = rw is all
kept_before false term rest is all = all

both : (a b : Bool) → (a && b) ≡ true → (a ≡ true) × (b ≡ true)
both true true is = (refl, refl)
both true false is = cc
both false b is = cc

kept_step : (b : Bool) (term more : Term) (rest : List Term) → is_kept term ≡ true → list_all is_kept rest ≡ true → list_all is_kept (with_term rest more) ≡ true
    → list_all is_kept (cond b (before_terms (term_of term.symbol (wrapped (term.coefficient + more.coefficient))) rest) (term ∷ with_term rest more)) ≡ true
kept_step true term more rest is all later = kept_before (is_kept (term_of term.symbol (wrapped (term.coefficient + more.coefficient)))) (term_of term.symbol (wrapped (term.coefficient + more.coefficient))) rest refl all
kept_step false term more rest is all later = rw is later

kept_with_term : (terms : List Term) (more : Term) → list_all is_kept terms ≡ true → list_all is_kept (with_term terms more) ≡ true
unfolding with_term
kept_with_term [] more all = kept_before (is_kept more) more [] refl refl
kept_with_term (term ∷ rest) more all =
    let parts = both (is_kept term) (list_all is_kept rest) all in
    kept_step (term.symbol == more.symbol) term more rest parts.0 parts.1 (kept_with_term rest more parts.1)

pub kept_with_terms : (terms others : List Term) → list_all is_kept terms ≡ true → list_all is_kept (with_terms terms others) ≡ true
unfolding with_terms
kept_with_terms terms [] all = all
kept_with_terms terms (more ∷ others) all = kept_with_terms (with_term terms more) others (kept_with_term terms more all)

pub behind_none : (terms : List Term) (more : Term) (at : ℕ) → at ≡ position_or_len (λ term. term.symbol == more.symbol) terms → length terms ≤ at → more.coefficient ≡ 0
    → terms ≡ with_term terms more
behind_none terms more at is all none =
    let left : (more.coefficient == 0) ≡ true = ap (λ n. n == 0) none in
    sym (with_term_behind terms more at is all ∙ rw left (append-nil terms))

pub behind_some : (terms : List Term) (more : Term) (at : ℕ) → at ≡ position_or_len (λ term. term.symbol == more.symbol) terms → length terms ≤ at → more.coefficient ≢ 0
    → with_term terms more ≡ terms ++ more ∷ []
behind_some terms more at is all some =
    let stays : (more.coefficient == 0) ≡ false = grind (arith, nat_tests) in
    with_term_behind terms more at is all ∙ rw stays

-- the next of the other terms goes, changed so, to the terms so far
pub mapped_step : (change : Term → Term) (terms new others all : List Term) (at : ℕ) (item made : Term) → at < length others → item ≡ get_or others at item
    → made ≡ change item → new ≡ with_term terms made → with_terms terms (map change (drop at others)) ≡ all
    → with_terms new (map change (drop (at + 1) others)) ≡ all
unfolding with_terms
mapped_step change terms new others all at item made inside is times grown before =
    let front = drop-cons others at item inside in
    let one : suc at ≡ at + 1 = omega arith in
    rw (grown, times, is, ← one) (rw front at before)

pub mapped_done : (change : Term → Term) (terms others all : List Term) (at : ℕ) → length others ≤ at → with_terms terms (map change (drop at others)) ≡ all → terms ≡ all
unfolding with_terms
mapped_done change terms others all at inside before =
    let none : drop at others ≡ [] = nil_from_length (drop at others) (omega (arith, length-drop at others)) in
    rw none at before
