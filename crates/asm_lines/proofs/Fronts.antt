-- Every piece and every token has a byte, and what is left behind them.
use Rattle.std.proofs.Common.{◌≡◌, ℕ, zero, suc, ◌+◌, ◌<◌, true, false, cond, List, [], ◌∷◌, drop, refl, sym, ap, ◌∙◌, arith, add-zero}
use Rattle.std.proofs.lemmas.List.{drop-drop}
use Rattle.asm_base.specs.Dividing.{piece_kind, piece_length}
use Rattle.asm_base.specs.declared.pieces.PieceKind.{PieceKind}
use Rattle.asm_base.specs.declared.pieces.PieceKind.TheVariants as piece
use Rattle.asm_base.specs.declared.tokens.TokenKind.{TokenKind}
use Rattle.asm_base.specs.declared.tokens.TokenKind.TheVariants.{Name, Digits, Operator}
use Rattle.asm_base.specs.Tokens.{is_long_operator, token_length, tokens_from}

-- a piece, and a token, has at least one byte
pub some_length : (kind : PieceKind) (rest : List ℕ) → 0 < piece_length kind rest
unfolding piece_length
some_length piece.LineComment rest = omega arith
some_length _ rest = omega arith

pub some_token_length : (kind : TokenKind) (first : ℕ) (rest : List ℕ) → 0 < token_length kind first rest
unfolding token_length
some_token_length Name first rest = omega arith
some_token_length Digits first rest = omega arith
some_token_length Operator first rest = elim (is_long_operator first rest) as (λ b. 0 < (cond b 2 1)) [ true ↦ omega arith | false ↦ omega arith ]
some_token_length _ first rest = some_length (piece_kind first rest) rest

-- what is left after the first byte and some more
pub left_behind_first : (s : List ℕ) (at first : ℕ) (rest : List ℕ) (n : ℕ) → drop at s ≡ first ∷ rest → drop (at + suc n) s ≡ drop n rest
left_behind_first s at first rest n e = sym (drop-drop (suc n) at s) ∙ ap (drop (suc n)) e

-- the bytes that are left out are those of the token before
pub tokens_left : (left_out offset : ℕ) (bytes : List ℕ) → tokens_from left_out offset bytes ≡ tokens_from 0 (offset + left_out) (drop left_out bytes)
unfolding tokens_from
tokens_left zero offset bytes = rw add-zero
tokens_left (suc n) offset [] = refl
tokens_left (suc n) offset (byte ∷ rest) =
    let next : suc offset + n ≡ offset + suc n = omega arith in
    tokens_left n (suc offset) rest ∙ ap (λ k. tokens_from 0 k (drop n rest)) next
