-- Tokens of pieces, and of more after them.
use Rattle.std.proofs.Common.{◌≡◌, ℕ, ◌+◌, List, [], ◌∷◌, ◌++◌, length, refl, ap}
use Rattle.asm_base.specs.declared.tokens.TokenKind.TheVariants.{Operator}
use Rattle.asm_base.specs.Tokens.{SpelledToken}
use Rattle.att_texts.specs.Pieces.{PrintedPiece, word, mark, blank, word_kind, made, tokens_in}

-- the offset after pieces
abbrev pub behind : ℕ → List PrintedPiece → ℕ
behind offset [] = offset
behind offset (word bytes ∷ pieces) = behind (offset + length bytes) pieces
behind offset (mark byte ∷ pieces) = behind (offset + 1) pieces
behind offset (blank ∷ pieces) = behind (offset + 1) pieces

-- tokens of pieces and of more
pub tokens_append : (offset : ℕ) (one other : List PrintedPiece) → tokens_in offset (one ++ other) ≡ tokens_in offset one ++ tokens_in (behind offset one) other
tokens_append offset [] other = refl
tokens_append offset (word bytes ∷ one) other = ap (λ (ts : List SpelledToken). made (word_kind bytes) bytes offset ∷ ts) (tokens_append (offset + length bytes) one other)
tokens_append offset (mark byte ∷ one) other = ap (λ (ts : List SpelledToken). made Operator (byte ∷ []) offset ∷ ts) (tokens_append (offset + 1) one other)
tokens_append offset (blank ∷ one) other = tokens_append (offset + 1) one other
