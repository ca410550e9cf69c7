-- The form of one symbol and a number, less another symbol.
use Rattle.std.proofs.Common.{◌≡◌, ℕ, ◌+◌, ◌-◌, ◌^◌, ◌<◌, ◌==◌, true, false, [], ◌∷◌, ap, arith}
use Rattle.asm_expr.specs.Forms.{Form, wrapped, term_of, constant_form, with_term, with_terms, plus_times}
use Rattle.piece_laws.specs.HeldDistances.{numbers_form}

-- one symbol counts once, and the other minus once
abbrev pub both_form : ℕ → ℕ → ℕ → Form
both_form to from plus = record { terms = term_of to 1 ∷ term_of from (2 ^ 64 - 1) ∷ []; constant = plus }

-- symbols that are not one are both left
pub apart_form : (to from plus : ℕ) → (to == from) ≡ false → plus < 2 ^ 64 → numbers_form to from plus ≡ both_form to from plus
unfolding plus_times with_terms with_term
apart_form to from plus apart low =
    let same : wrapped (wrapped (0 + plus) + 0) ≡ plus = omega (arith, low) in
    rw apart (ap (λ (constant : ℕ). record { terms = term_of to 1 ∷ term_of from (2 ^ 64 - 1) ∷ []; constant = constant }) same)

-- one symbol less itself is nothing
pub same_form : (to from plus : ℕ) → (to == from) ≡ true → plus < 2 ^ 64 → numbers_form to from plus ≡ constant_form plus
unfolding plus_times with_terms with_term
same_form to from plus one low =
    let same : wrapped (wrapped (0 + plus) + 0) ≡ plus = omega (arith, low) in
    rw one (ap (λ (constant : ℕ). constant_form constant) same)
