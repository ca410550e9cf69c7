-- Where the tokens of a statement lie in it.
use Rattle.std.proofs.Common.{◌≡◌, ℕ, zero, suc, ◌+◌, ◌-◌, ◌≤◌, Bool, true, false, cond, List, [], ◌∷◌, length, take, All, zero-add, arith}
use Rattle.std.proofs.lemmas.List.{length-take}
use Rattle.std.proofs.lemmas.List.Elements.{All-nil, All-cons}
use Rattle.asm_base.specs.Pieces.{is_space}
use Rattle.asm_base.specs.Dividing.{piece_kind, piece_length}
use Rattle.asm_base.specs.Tokens.{SpelledToken, token_kind, token_length, first_token, tokens_from, tokens_of}

-- the token ends at this offset or before
abbrev pub EndsBy : ℕ → SpelledToken → Type 0
EndsBy end token = token.start + length token.bytes ≤ end

-- what holds of both branches holds of a choice
either : (space : Bool) (end : ℕ) (xs ys : List SpelledToken) → All (EndsBy end) xs → All (EndsBy end) ys → All (EndsBy end) (cond space xs ys)
either true end xs ys p q = p
either false end xs ys p q = q

tokens_from-ends : (left_out offset end : ℕ) (bytes : List ℕ) → offset + length bytes ≡ end → All (EndsBy end) (tokens_from left_out offset bytes)
unfolding tokens_from
tokens_from-ends left_out offset end [] e = All-nil (EndsBy end)
tokens_from-ends (suc n) offset end (byte ∷ rest) e = tokens_from-ends n (suc offset) end rest (omega arith)
tokens_from-ends zero offset end (byte ∷ rest) e =
    let after : suc offset + length rest ≡ end = omega arith in
    let n = token_length (token_kind byte rest) byte rest in
    let fits : offset + length (take n (byte ∷ rest)) ≤ end = omega (arith, length-take n (byte ∷ rest)) in
    either (is_space (piece_kind byte rest)) end _ _ (tokens_from-ends (piece_length (piece_kind byte rest) rest - 1) (suc offset) end rest after)
    (All-cons (EndsBy end) (first_token offset byte rest) _ fits (tokens_from-ends (n - 1) (suc offset) end rest after))

-- each token of a statement ends within it
pub tokens_of-ends : (statement : List ℕ) → All (EndsBy (length statement)) (tokens_of statement)
tokens_of-ends statement = tokens_from-ends 0 0 (length statement) statement (zero-add (length statement))
