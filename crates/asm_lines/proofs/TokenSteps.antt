-- The steps of the loop over a statement.
use Rattle.std.proofs.Common.{◌≡◌, ℕ, ◌+◌, ◌-◌, ◌≤◌, true, false, List, [], ◌∷◌, ◌++◌, take, drop, map, refl, sym, ap, ◌∙◌, arith, append_assoc}
use Rattle.std.proofs.lemmas.List.{append-nil, map-append}
use Rattle.asm_base.specs.Pieces.{Piece, is_space, ends_statement}
use Rattle.asm_base.specs.Dividing.{piece_kind, piece_length}
use Rattle.asm_base.specs.declared.pieces.PieceKind.{PieceKind}
use Rattle.asm_base.specs.declared.pieces.PieceKind.TheVariants as piece
use Rattle.asm_base.specs.declared.tokens.Token.{Token}
use Rattle.asm_lines.specs.Intervals.{own_length}
use Rattle.asm_base.specs.Tokens.{SpelledToken, spelled, token_kind, token_length}
use Rattle.asm_lexemes.specs.Lexemes.{makes_tokens}
use Rattle.asm_lines.specs.StatementTokens.{first_tokens_from, own_behind}
use Rattle.asm_lines.proofs.LineFeeds.{is_on_line}
use Rattle.asm_lines.proofs.Moves.{tokens_over_space, tokens_over_token}

-- nothing is left
pub all_read : (done left whole : List SpelledToken) → done ++ left ≡ whole → left ≡ [] → done ≡ whole
all_read done left whole before none = sym (append-nil done) ∙ ap (λ these. done ++ these) (sym none) ∙ before

-- a piece of one byte
pub feed_one : (rest : List ℕ) → 1 ≡ piece_length piece.LineFeed rest
unfolding piece_length
feed_one rest = refl

pub blank_one : (rest : List ℕ) → 1 ≡ piece_length piece.Blank rest
unfolding piece_length
blank_one rest = refl

-- how long the statement is
pub own_whole : (kept : List Piece) → own_behind 0 0 kept ≡ own_length kept
unfolding own_behind
own_whole [] = refl
own_whole (here ∷ others) = omega arith

pub own_step : (own passed next : ℕ) (kept : List Piece) (before whole : ℕ) → passed ≡ next → before ≡ own_behind own passed kept → before ≡ whole → own_behind own next kept ≡ whole
own_step own passed next kept before whole same moved known = ap (λ k. own_behind own k kept) (sym same) ∙ sym moved ∙ known

pub own_with_token : (passed next : ℕ) (kept : List Piece) (before whole : ℕ) → passed ≡ next → before ≡ own_behind passed passed kept → before ≡ whole → own_behind next next kept ≡ whole
own_with_token passed next kept before whole same moved known = ap (λ k. own_behind k k kept) (sym same) ∙ sym moved ∙ known

own_at_most : (own passed : ℕ) (kept : List Piece) → own ≤ passed → own_behind own passed kept ≤ passed + own_length kept
unfolding own_behind
own_at_most own passed [] less = omega arith
own_at_most own passed (here ∷ others) less = omega arith

-- a step of so many bytes adds no more than these
pub short_step : (own passed n : ℕ) (kept later : List Piece) → own_behind 0 0 kept ≡ own_behind own passed later → own ≤ passed → passed ≤ n → own_length kept ≤ n + own_length later
short_step own passed n kept later moved less within = omega (arith, sym (own_whole kept) ∙ moved, own_at_most own passed later less)

-- at the end of the statement nothing is added
pub short_end : (kept : List Piece) → own_behind 0 0 kept ≡ 0 → own_length kept ≡ 0
short_end kept ends = sym (own_whole kept) ∙ ends

pub semicolon_one : (rest : List ℕ) → 1 ≡ piece_length piece.Semicolon rest
unfolding piece_length
semicolon_one rest = refl

pub one_length : (first : ℕ) (rest : List ℕ) (kind : PieceKind) → piece_kind first rest ≡ kind → 1 ≡ piece_length kind rest → 1 ≡ piece_length (piece_kind first rest) rest
one_length first rest kind is one = one ∙ ap (λ k. piece_length k rest) (sym is)

pub token_on_line : (kind : PieceKind) → makes_tokens kind ≡ true → is_on_line kind ≡ true
token_on_line piece.LineFeed makes = cc
token_on_line piece.Semicolon makes = refl
token_on_line piece.Blank makes = refl
token_on_line piece.LineComment makes = refl
token_on_line piece.BlockComment makes = cc
token_on_line piece.OpenComment makes = cc
token_on_line piece.Character makes = refl
token_on_line piece.String makes = refl
token_on_line piece.OpenString makes = cc
token_on_line piece.Other makes = refl

-- a token is appended to those before it
pub token_read : (made after : List Token) (whole : List SpelledToken) (s : List ℕ) (at offset first : ℕ) (rest : List ℕ) (n : ℕ) (token : Token) →
    drop at s ≡ first ∷ rest → makes_tokens (piece_kind first rest) ≡ true → n ≡ token_length (token_kind first rest) first rest →
    after ≡ made ++ token ∷ [] → token.kind ≡ token_kind first rest → token.bytes.now ≡ take n (drop at s) → token.start ≡ offset →
    map spelled made ++ first_tokens_from 0 offset (drop at s) ≡ whole → map spelled after ++ first_tokens_from 0 (offset + n) (drop (at + n) s) ≡ whole
token_read made after whole s at offset first rest n token front makes n_is after_is kind_is bytes_is start_is before =
    let step = tokens_over_token s at offset first rest n front makes n_is in
    let grown : map spelled after ≡ map spelled made ++ spelled token ∷ [] = ap (map spelled) after_is ∙ map-append spelled made (token ∷ []) in
    rw (grown, append_assoc, kind_is, bytes_is, start_is, ← step) before

-- the same where the statement begins at an offset of its own
pub token_read_at : (made after : List Token) (whole : List SpelledToken) (s : List ℕ) (begin at first : ℕ) (rest : List ℕ) (n : ℕ) (token : Token) → begin ≤ at →
    drop at s ≡ first ∷ rest → makes_tokens (piece_kind first rest) ≡ true → n ≡ token_length (token_kind first rest) first rest →
    after ≡ made ++ token ∷ [] → token.kind ≡ token_kind first rest → token.bytes.now ≡ take n (drop at s) → token.start ≡ at - begin →
    map spelled made ++ first_tokens_from 0 (at - begin) (drop at s) ≡ whole → map spelled after ++ first_tokens_from 0 (at + n - begin) (drop (at + n) s) ≡ whole
token_read_at made after whole s begin at first rest n token begins front makes n_is after_is kind_is bytes_is start_is before =
    let offset : at + n - begin ≡ at - begin + n = omega arith in
    rw offset (token_read made after whole s at (at - begin) first rest n token front makes n_is after_is kind_is bytes_is start_is before)

pub space_read_at : (done whole : List SpelledToken) (s : List ℕ) (begin at first : ℕ) (rest : List ℕ) (n : ℕ) → begin ≤ at →
    drop at s ≡ first ∷ rest → is_space (piece_kind first rest) ≡ true → ends_statement (piece_kind first rest) ≡ false → n ≡ piece_length (piece_kind first rest) rest →
    done ++ first_tokens_from 0 (at - begin) (drop at s) ≡ whole → done ++ first_tokens_from 0 (at + n - begin) (drop (at + n) s) ≡ whole
space_read_at done whole s begin at first rest n begins front space goes_on n_is before =
    let offset : at + n - begin ≡ at - begin + n = omega arith in
    rw (offset, ← tokens_over_space s at (at - begin) first rest n front space goes_on n_is) before
