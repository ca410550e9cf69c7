-- The tokens from an index on.
use Rattle.std.proofs.Common.{◌≡◌, ℕ, ◌+◌, ◌<◌, ◌≤◌, List, [], ◌∷◌, length, get_or, drop, map, ap, arith, add-one, drop-cons, length-drop}
use Rattle.std.proofs.lemmas.List.{nil_from_length}
use Rattle.asm_base.specs.declared.tokens.Token.{Token}
use Rattle.asm_base.specs.Tokens.{spelled}
use Rattle.expr_texts.specs.Found.{spelled_from}
use Rattle.asm_operands.specs.Levels.{token_level}
use Rattle.asm_operands.specs.Counting.{first_level}

pub none_left : (tokens : List Token) (at : ℕ) → length tokens ≤ at → spelled_from tokens at ≡ []
none_left tokens at all = ap (λ (ts : List Token). map spelled ts) (nil_from_length (drop at tokens) (omega (arith, length-drop at tokens)))

pub one_left : (tokens : List Token) (at : ℕ) (d : Token) → at < length tokens → spelled_from tokens at ≡ spelled (get_or tokens at d) ∷ spelled_from tokens (at + 1)
one_left tokens at d inside = rw add-one (ap (λ (ts : List Token). map spelled ts) (drop-cons tokens at d inside))

pub level_none : (tokens : List Token) (at : ℕ) → length tokens ≤ at → first_level (spelled_from tokens at) ≡ 0
unfolding first_level
level_none tokens at all = ap first_level (none_left tokens at all)

pub level_one : (tokens : List Token) (at : ℕ) (d : Token) → at < length tokens → first_level (spelled_from tokens at) ≡ token_level (spelled (get_or tokens at d))
unfolding first_level
level_one tokens at d inside = ap first_level (one_left tokens at d inside)
