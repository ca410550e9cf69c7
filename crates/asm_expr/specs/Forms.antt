-- Linear forms: symbols, by their numbers, with coefficients, and a constant, all modulo 2^64.
use Rattle.std.specs.Prelude.{ℕ, ◌+◌, ◌-◌, ◌*◌, ◌%◌, ◌^◌, ◌==◌, Bool, true, false, not, List, [], ◌∷◌, map, if◌then◌else◌}
use Rattle.asm_expr.specs.declared.forms.Term.{Term}

-- a form as a value: its terms in the order in which symbols were mentioned, and its constant
pub record Form : Type 0 where
  pub terms : List Term
  pub constant : ℕ

-- a number modulo 2^64
abbrev pub wrapped : ℕ → ℕ
wrapped n = n % 2 ^ 64

-- a symbol, and how often it counts
abbrev pub term_of : ℕ → ℕ → Term
term_of symbol coefficient = record { symbol = symbol; coefficient = coefficient }

-- a term whose coefficient is 0 is left out
abbrev pub is_kept : Term → Bool
is_kept term = not (term.coefficient == 0)

-- the form of a number
abbrev pub constant_form : ℕ → Form
constant_form n = record { terms = []; constant = n }

-- the form of a symbol, once
abbrev pub symbol_form : ℕ → Form
symbol_form symbol = record { terms = term_of symbol 1 ∷ []; constant = 0 }

-- a term before the others, if it is kept
abbrev pub before_terms : Term → List Term → List Term
before_terms term rest = if is_kept term then (term ∷ rest) else rest

-- the terms and one more, whose coefficient goes to its symbol's where that is there
unfoldable pub with_term : List Term → Term → List Term
with_term [] more = before_terms more []
with_term (term ∷ rest) more =
    if term.symbol == more.symbol then before_terms (term_of term.symbol (wrapped (term.coefficient + more.coefficient))) rest
    else (term ∷ with_term rest more)

-- the terms and these others, one after the other
unfoldable pub with_terms : List Term → List Term → List Term
with_terms terms [] = terms
with_terms terms (more ∷ others) = with_terms (with_term terms more) others

-- the number, or minus the number
abbrev pub signed : Bool → ℕ → ℕ
signed false n = n
signed true n = wrapped (2 ^ 64 - wrapped n)

-- the term, or minus the term
abbrev pub signed_term : Bool → Term → Term
signed_term minus term = term_of term.symbol (signed minus term.coefficient)

-- the sum of two forms, of which the second is taken with this sign
abbrev pub joined : Bool → Form → Form → Form
joined minus one other = record {
  terms = with_terms one.terms (map (signed_term minus) other.terms);
  constant = wrapped (one.constant + signed minus other.constant);
}

-- the sum of two forms
abbrev pub sum_of : Form → Form → Form
sum_of = joined false

-- the first form less the second
abbrev pub difference_of : Form → Form → Form
difference_of = joined true

-- the term so many times
abbrev pub scaled_term : ℕ → Term → Term
scaled_term factor term = term_of term.symbol (wrapped (factor * term.coefficient))

-- the form plus so many times another
unfoldable pub plus_times : Form → ℕ → Form → Form
plus_times made factor other = record {
  terms = with_terms made.terms (map (scaled_term factor) other.terms);
  constant = wrapped (made.constant + wrapped (factor * other.constant));
}
