-- The tokens of bytes are spelled in bytes.
use Rattle.std.proofs.Common.{◌<◌, ◌-◌, ℕ, zero, suc, Bool, true, false, cond, List, [], ◌∷◌}
use Rattle.std.specs.Prelude.{◌^◌, All}
use Rattle.std.proofs.lemmas.List.Elements.{All-nil, All-cons, All-tail, All-take}
use Rattle.asm_base.specs.Dividing.{piece_kind, piece_length}
use Rattle.asm_base.specs.Pieces.{is_space}
use Rattle.asm_base.specs.Tokens.{SpelledToken, token_kind, token_length, first_token, tokens_from, tokens_of}
use Rattle.form_laws.specs.Numbers.{IsInBytes}

-- the number is a byte
abbrev IsByte : ℕ → Type 0
IsByte byte = byte < 2 ^ 8

either_spelled : (b : Bool) (one other : List SpelledToken) → All IsInBytes one → All IsInBytes other → All IsInBytes (cond b one other)
either_spelled true one other first second = first
either_spelled false one other first second = second

from_spelled : (left_out offset : ℕ) (bytes : List ℕ) → All IsByte bytes → All IsInBytes (tokens_from left_out offset bytes)
unfolding tokens_from
from_spelled left_out offset [] all = All-nil IsInBytes
from_spelled (suc left_out) offset (byte ∷ rest) all = from_spelled left_out (suc offset) rest (All-tail IsByte byte rest all)
from_spelled zero offset (byte ∷ rest) all =
    let later = All-tail IsByte byte rest all in
    let length = token_length (token_kind byte rest) byte rest in
    either_spelled (is_space (piece_kind byte rest)) (tokens_from (piece_length (piece_kind byte rest) rest - 1) (suc offset) rest)
    (first_token offset byte rest ∷ tokens_from (length - 1) (suc offset) rest)
    (from_spelled (piece_length (piece_kind byte rest) rest - 1) (suc offset) rest later)
    (All-cons IsInBytes (first_token offset byte rest) (tokens_from (length - 1) (suc offset) rest) (All-take IsByte length (byte ∷ rest) all)
    (from_spelled (length - 1) (suc offset) rest later))

pub tokens_spelled : (bytes : List ℕ) → All IsByte bytes → All IsInBytes (tokens_of bytes)
tokens_spelled bytes all = from_spelled 0 0 bytes all
