-- Terms of which one counts more, told by its place.
use Rattle.std.specs.Prelude.{ℕ, zero, suc, ◌+◌, List, [], ◌∷◌}
use Rattle.asm_expr.specs.declared.forms.Term.{Term}
use Rattle.asm_expr.specs.Forms.{wrapped, term_of, before_terms}

-- the terms where the one at this place counts so much more, and is left out if it then counts 0
unfoldable pub raised : List Term → ℕ → ℕ → List Term
raised [] at by = []
raised (term ∷ rest) zero by = before_terms (term_of term.symbol (wrapped (term.coefficient + by))) rest
raised (term ∷ rest) (suc at) by = term ∷ raised rest at by
