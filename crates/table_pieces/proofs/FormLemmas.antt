-- The form of a distance.
use Rattle.std.proofs.Common.{◌≡◌, ℕ, ◌+◌, ◌-◌, ◌^◌, ◌<◌, ◌==◌, false, [], ◌∷◌, ap, arith}
use Rattle.asm_expr.specs.Forms.{wrapped, term_of, constant_form, symbol_form, joined, with_term, with_terms, plus_times}
use Rattle.table_pieces.specs.Marks.{mark_number, with_mark, HaveTwoTerms}

-- two symbols that are not one
two_symbols : (one other plus : ℕ) → (one == other) ≡ false → plus < 2 ^ 64
    → plus_times (joined false (symbol_form one) (constant_form plus)) (2 ^ 64 - 1) (symbol_form other)
    ≡ record { terms = term_of one 1 ∷ term_of other (2 ^ 64 - 1) ∷ []; constant = plus }
unfolding plus_times with_terms with_term
two_symbols one other plus apart low =
    let same : wrapped (wrapped (0 + plus) + 0) ≡ plus = omega (arith, low) in
    rw apart (ap (λ (constant : ℕ). record { terms = term_of one 1 ∷ term_of other (2 ^ 64 - 1) ∷ []; constant = constant }) same)

pub two_terms : HaveTwoTerms
two_terms map distance apart low =
    two_symbols (mark_number map distance.to) (mark_number (with_mark map distance.to) distance.from) distance.plus apart low
