-- The tokens from an index on.
use Rattle.std.proofs.Common.{◌≡◌, ℕ, ◌+◌, ◌<◌, ◌≤◌, List, [], ◌∷◌, None, length, get_or, drop, map, ap, arith, add-one, drop-cons, length-drop}
use Rattle.std.proofs.lemmas.List.{nil_from_length}
use Rattle.asm_base.specs.declared.tokens.Token.{Token}
use Rattle.asm_base.specs.Tokens.{spelled}
use Rattle.expr_texts.specs.Reading.{operator_at}
use Rattle.expr_texts.specs.Found.{spelled_from, operator_in}

pub none_left : (tokens : List Token) (at : ℕ) → length tokens ≤ at → spelled_from tokens at ≡ []
none_left tokens at all = ap (λ (ts : List Token). map spelled ts) (nil_from_length (drop at tokens) (omega (arith, length-drop at tokens)))

pub one_left : (tokens : List Token) (at : ℕ) (d : Token) → at < length tokens → spelled_from tokens at ≡ spelled (get_or tokens at d) ∷ spelled_from tokens (at + 1)
one_left tokens at d inside = rw add-one (ap (λ (ts : List Token). map spelled ts) (drop-cons tokens at d inside))

pub operator_none : (tokens : List Token) (at level : ℕ) → length tokens ≤ at → operator_in level (spelled_from tokens at) ≡ None
unfolding operator_in
operator_none tokens at level all = ap (operator_in level) (none_left tokens at all)

pub operator_one : (tokens : List Token) (at level : ℕ) (d : Token) → at < length tokens → operator_in level (spelled_from tokens at) ≡ operator_at level (spelled (get_or tokens at d))
unfolding operator_in
operator_one tokens at level d inside = ap (operator_in level) (one_left tokens at d inside)
