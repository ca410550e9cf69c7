-- The tokens that are left from a place on.
use Rattle.std.proofs.Common.{◌≡◌, ℕ, ◌+◌, ◌<◌, ◌≤◌, List, [], ◌∷◌, length, get_or, drop, map, ap, ◌∙◌, arith}
use Rattle.std.proofs.lemmas.List.{at_drop_more, at_drop_all}
use Rattle.asm_base.specs.declared.tokens.Token.{Token}
use Rattle.asm_base.specs.Tokens.{spelled}

pub one_more_left : (tokens : List Token) (at : ℕ) (d : Token) → at < length tokens
    → map spelled (drop at tokens) ≡ spelled (get_or tokens at d) ∷ map spelled (drop (at + 1) tokens)
one_more_left tokens at d inside = at_drop_more (map spelled) tokens at d inside

pub none_left : (tokens : List Token) (at : ℕ) → length tokens ≤ at → map spelled (drop at tokens) ≡ []
none_left tokens at all = at_drop_all (map spelled) tokens at all

-- the two tokens, and what is left behind them
pub two_left : (tokens : List Token) (at : ℕ) (d : Token) → at + 2 ≤ length tokens
    → map spelled (drop at tokens) ≡ spelled (get_or tokens at d) ∷ spelled (get_or tokens (at + 1) d) ∷ map spelled (drop (at + 2) tokens)
two_left tokens at d inside =
    let later : (at + 1) + 1 ≡ at + 2 = omega arith in
    one_more_left tokens at d (omega arith)
    ∙ ap (λ rest. spelled (get_or tokens at d) ∷ rest) (one_more_left tokens (at + 1) d (omega arith) ∙ ap (λ n. spelled (get_or tokens (at + 1) d) ∷ map spelled (drop n tokens)) later)
