-- How the tokens of a statement are read from its front, one token at a time.
use Rattle.std.proofs.Common.{◌≡◌, ℕ, zero, suc, ◌+◌, ◌-◌, ◌<◌, ◌≤◌, true, false, cond, List, [], ◌∷◌, ◌++◌, length, take, drop, map, sym, ap, ◌∙◌, refl, arith, add-zero, append_assoc}
use Rattle.std.proofs.lemmas.List.{drop-drop, drop_all, append-nil, map-append, length-append, length-map}
use Rattle.asm_base.specs.declared.pieces.PieceKind.{PieceKind}
use Rattle.asm_base.specs.declared.pieces.PieceKind.TheVariants as piece
use Rattle.asm_base.specs.declared.tokens.TokenKind.{TokenKind}
use Rattle.asm_base.specs.declared.tokens.TokenKind.TheVariants.{Name, Digits, Character, String, Operator, Other}
use Rattle.asm_base.specs.declared.tokens.Token.{Token}
use Rattle.asm_base.specs.Pieces.{is_space}
use Rattle.asm_base.specs.Dividing.{piece_kind, piece_length}
use Rattle.asm_base.specs.Tokens.{SpelledToken, spelled, is_long_operator, token_kind, token_length, tokens_from}

-- the bytes that are left out are those of the token before
pub tokens_from-drop : (left_out offset : ℕ) (bytes : List ℕ) → tokens_from left_out offset bytes ≡ tokens_from 0 (offset + left_out) (drop left_out bytes)
unfolding tokens_from
tokens_from-drop zero offset bytes = rw add-zero
tokens_from-drop (suc n) offset [] = refl
tokens_from-drop (suc n) offset (byte ∷ rest) =
    let e : suc offset + n ≡ offset + suc n = omega arith in
    tokens_from-drop n (suc offset) rest ∙ ap (λ k. tokens_from 0 k (drop n rest)) e

-- what is left after the first byte and some more
pub drop-next : (s : List ℕ) (at first : ℕ) (rest : List ℕ) (n : ℕ) → drop at s ≡ first ∷ rest → drop (at + suc n) s ≡ drop n rest
drop-next s at first rest n e = sym (drop-drop (suc n) at s) ∙ ap (drop (suc n)) e

-- a piece has at least one byte
pub piece_length-positive : (kind : PieceKind) (rest : List ℕ) → 0 < piece_length kind rest
unfolding piece_length
piece_length-positive piece.LineFeed rest = omega arith
piece_length-positive piece.Semicolon rest = omega arith
piece_length-positive piece.Blank rest = omega arith
piece_length-positive piece.LineComment rest = omega arith
piece_length-positive piece.BlockComment rest = omega arith
piece_length-positive piece.OpenComment rest = omega arith
piece_length-positive piece.Character rest = omega arith
piece_length-positive piece.String rest = omega arith
piece_length-positive piece.OpenString rest = omega arith
piece_length-positive piece.Other rest = omega arith

-- a token has at least one byte
pub token_length-positive : (kind : TokenKind) (first : ℕ) (rest : List ℕ) → 0 < token_length kind first rest
unfolding token_length
token_length-positive Name first rest = omega arith
token_length-positive Digits first rest = omega arith
token_length-positive Character first rest = piece_length-positive (piece_kind first rest) rest
token_length-positive String first rest = piece_length-positive (piece_kind first rest) rest
token_length-positive Operator first rest = elim (is_long_operator first rest) as (λ b. 0 < (cond b 2 1)) [ true ↦ omega arith | false ↦ omega arith ]
token_length-positive Other first rest = piece_length-positive (piece_kind first rest) rest

-- a long operator has a byte after the first one
pub is_long_operator-followed : (first : ℕ) (rest : List ℕ) → is_long_operator first rest ≡ true → 1 ≤ length rest
unfolding is_long_operator
is_long_operator-followed first [] long = cc
is_long_operator-followed first (second ∷ rest) long = omega arith

-- past what is left out of the bytes behind the first
pub skip : (s : List ℕ) (at first : ℕ) (rest : List ℕ) (n : ℕ) → drop at s ≡ first ∷ rest → 0 < n → tokens_from (n - 1) (suc at) rest ≡ tokens_from 0 (at + n) (drop (at + n) s)
skip s at first rest n e positive =
    let whole : suc (n - 1) ≡ n = omega arith in
    let left : drop (at + n) s ≡ drop (n - 1) rest = ap (λ k. drop (at + k) s) (sym whole) ∙ drop-next s at first rest (n - 1) e in
    let offset : suc at + (n - 1) ≡ at + n = omega arith in
    tokens_from-drop (n - 1) (suc at) rest ∙ ap (λ k. tokens_from 0 k (drop (n - 1) rest)) offset ∙ ap (tokens_from 0 (at + n)) (sym left)

-- past a blank or a comment
pub read_space : (made all : List SpelledToken) (s : List ℕ) (at first : ℕ) (rest : List ℕ) (n : ℕ) → drop at s ≡ first ∷ rest → is_space (piece_kind first rest) ≡ true → n ≡ piece_length (piece_kind first rest) rest →
    made ++ tokens_from 0 at (drop at s) ≡ all → made ++ tokens_from 0 (at + n) (drop (at + n) s) ≡ all
unfolding tokens_from
read_space made all s at first rest n e space length_is before =
    let positive : 0 < n = rw length_is (piece_length-positive (piece_kind first rest) rest) in
    let step : tokens_from 0 at (drop at s) ≡ tokens_from (n - 1) (suc at) rest = rw (e, space, ← length_is) refl in
    rw (← skip s at first rest n e positive, ← step) before

-- a token is the first of what is left
pub token_step : (s : List ℕ) (at first : ℕ) (rest : List ℕ) (n : ℕ) → drop at s ≡ first ∷ rest → is_space (piece_kind first rest) ≡ false → n ≡ token_length (token_kind first rest) first rest →
    tokens_from 0 at (drop at s) ≡ (let token : SpelledToken = record { kind = token_kind first rest; bytes = take n (drop at s); start = at } in token ∷ tokens_from 0 (at + n) (drop (at + n) s))
unfolding tokens_from
token_step s at first rest n e not_space length_is =
    let positive : 0 < n = rw length_is (token_length-positive (token_kind first rest) first rest) in
    rw (← skip s at first rest n e positive, e, not_space, ← length_is) refl

-- past a token, which is appended to those before it
pub read_token : (made after : List Token) (all : List SpelledToken) (s : List ℕ) (at first : ℕ) (rest : List ℕ) (n : ℕ) (token : Token) →
    drop at s ≡ first ∷ rest → is_space (piece_kind first rest) ≡ false → n ≡ token_length (token_kind first rest) first rest →
    after ≡ made ++ token ∷ [] → token.kind ≡ token_kind first rest → token.bytes.now ≡ take n (drop at s) → token.start ≡ at →
    map spelled made ++ tokens_from 0 at (drop at s) ≡ all → map spelled after ++ tokens_from 0 (at + n) (drop (at + n) s) ≡ all
read_token made after all s at first rest n token e not_space n_is after_is kind_is bytes_is start_is before =
    let step = token_step s at first rest n e not_space n_is in
    let grown : map spelled after ≡ map spelled made ++ spelled token ∷ [] = ap (map spelled) after_is ∙ map-append spelled made (token ∷ []) in
    rw (grown, append_assoc, kind_is, bytes_is, start_is, ← step) before

-- where a token is left, there are more tokens than those so far
pub one_more : (made : List Token) (all : List SpelledToken) (s : List ℕ) (at first : ℕ) (rest : List ℕ) → drop at s ≡ first ∷ rest → is_space (piece_kind first rest) ≡ false →
    map spelled made ++ tokens_from 0 at (drop at s) ≡ all → length made + 1 ≤ length all
one_more made all s at first rest e not_space before =
    let step = token_step s at first rest _ e not_space refl in
    let whole = sym before ∙ ap (λ left. map spelled made ++ left) step in
    omega (arith, simp (length-append, length-map) at (ap length whole))

-- past the last token
pub read_end : (made all : List SpelledToken) (s : List ℕ) (at : ℕ) → length s ≤ at → made ++ tokens_from 0 at (drop at s) ≡ all → made ≡ all
unfolding tokens_from
read_end made all s at h before = let nothing : drop at s ≡ [] = drop_all at s h in sym (append-nil made) ∙ rw nothing at before
