-- How many line feeds a piece has, by its class.
use Rattle.std.proofs.Common.{◌≡◌, ℕ, ◌+◌, ◌≤◌, Bool, true, false, cond, ◌&&◌, ◌==◌, List, [], ◌∷◌, ◌++◌, take, drop, min, refl, sym, ap, subst, ◌∙◌, arith, eqb-true, ◌⊎◌, inl, inr}
use Rattle.std.specs.Prelude.{count_by}
use Rattle.std.proofs.lemmas.Bool.{or_parts}
use Rattle.std.proofs.lemmas.List.Elements.{All-head, All-tail}
use Rattle.std.proofs.lemmas.List.Sums.{sum_by-append, sum_by-cons}
use Rattle.std.specs.List.{prefix_len}
use Rattle.asm_base.specs.ByteClasses.{is_feed, is_blank, begins_with, line_goes_on}
use Rattle.asm_base.specs.Pieces.{IsDivision, IsPiece, IsOnLine, IsQuoted, empty, plain, escape, is_blank_before, begins_class}
use Rattle.asm_base.specs.Dividing.{is_plain, piece_kind, piece_length, pieces_from, pieces_of}
use Rattle.asm_base.specs.declared.pieces.PieceKind.{PieceKind}
use Rattle.asm_base.specs.declared.pieces.PieceKind.TheVariants as piece
use Rattle.asm_lines.specs.LineNumbers.{line_of, last_line}
use Rattle.asm_lines.proofs.Pieces.{line_more}
use Rattle.asm_lines.proofs.PlainRuns.{line_of_run}

abbrev feeds : List ℕ → ℕ
feeds bytes = count_by is_feed bytes

-- one byte more
feeds-cons : (byte : ℕ) (rest : List ℕ) → feeds (byte ∷ rest) ≡ cond (is_feed byte) 1 0 + feeds rest
feeds-cons byte rest = sum_by-cons (λ b. cond (is_feed b) 1 0) byte rest

no_feed : (byte : ℕ) (rest : List ℕ) → is_feed byte ≡ false → feeds rest ≡ 0 → feeds (byte ∷ rest) ≡ 0
no_feed byte rest none later = feeds-cons byte rest ∙ ap (λ b. cond b 1 0 + feeds rest) none ∙ omega arith

line_feeds : (bytes : List ℕ) → IsOnLine bytes → feeds bytes ≡ 0
line_feeds [] line = refl
line_feeds (byte ∷ rest) line =
    let NoFeed = λ (b : ℕ). is_feed b ≡ false in
    no_feed byte rest (All-head NoFeed byte rest line) (line_feeds rest (All-tail NoFeed byte rest line))

quoted_feeds : (inner : List ℕ) → IsQuoted inner → feeds inner ≡ 0
quoted_feeds _ empty = refl
quoted_feeds _ (plain byte inner none no_quote no_escape quoted) = no_feed byte inner none (quoted_feeds inner quoted)
quoted_feeds _ (escape byte inner none quoted) = no_feed 92 (byte ∷ inner) refl (no_feed byte inner none (quoted_feeds inner quoted))

blank_feeds : (byte : ℕ) (rest : List ℕ) → is_blank_before byte rest ≡ true → is_feed byte ≡ false
unfolding is_blank
blank_feeds byte rest blank = by_class (is_feed byte) refl
  where
    by_class : (feed : Bool) → is_feed byte ≡ feed → feed ≡ false
    by_class true is = let no = ap (λ b. is_blank_before b rest) (sym (eqb-true byte 10 is)) ∙ blank in cc
    by_class false is = refl

no_class : (byte : ℕ) (rest : List ℕ) → begins_class byte rest ≡ false → is_feed byte ≡ false
no_class byte rest none =
    let e5 = or_parts _ (byte == 34) none in
    let e4 = or_parts _ (byte == 39 && line_goes_on rest) e5.0 in
    let e3 = or_parts _ (byte == 47 && begins_with 42 rest) e4.0 in
    let e2 = or_parts _ (byte == 35) e3.0 in
    let e1 = or_parts _ (is_blank_before byte rest) e2.0 in
    (or_parts (is_feed byte) (byte == 59) e1.0).0

-- the piece is on one line
abbrev pub is_on_line : PieceKind → Bool
is_on_line piece.LineFeed = false
is_on_line piece.BlockComment = false
is_on_line piece.OpenComment = false
is_on_line piece.OpenString = false
is_on_line _ = true

piece_feeds : (kind : PieceKind) (bytes rest : List ℕ) → IsPiece kind bytes rest → is_on_line kind ≡ true → feeds bytes ≡ 0
piece_feeds piece.LineFeed bytes rest is line = cc
piece_feeds piece.BlockComment bytes rest is line = cc
piece_feeds piece.OpenComment bytes rest is line = cc
piece_feeds piece.OpenString bytes rest is line = cc
piece_feeds piece.Semicolon bytes rest is line = ap feeds is
piece_feeds piece.Blank bytes rest is line = ap feeds is.1 ∙ no_feed is.0 ([]) (blank_feeds is.0 rest is.2) refl
piece_feeds piece.LineComment bytes rest is line = ap feeds is.1 ∙ no_feed 35 is.0 refl (line_feeds is.0 is.2)
piece_feeds piece.Character bytes rest is line = ap feeds is.1 ∙ no_feed 39 (is.0 ∷ []) refl (no_feed is.0 ([]) is.2 refl)
piece_feeds piece.String bytes rest is line =
    ap feeds is.1 ∙ no_feed 34 (is.0 ++ 34 ∷ []) refl (sum_by-append (λ b. cond (is_feed b) 1 0) is.0 (34 ∷ []) ∙ ap (λ n. n + 0) (quoted_feeds is.0 is.2))
piece_feeds piece.Other bytes rest is line = ap feeds is.1 ∙ no_feed is.0 ([]) (no_class is.0 rest is.2) refl

-- every text is its pieces
abbrev pub Divides : Type 0
Divides = (text : List ℕ) → IsDivision text (pieces_of text)

-- the bytes of the first piece
pub first_feeds : Divides → (first : ℕ) (rest : List ℕ) → is_on_line (piece_kind first rest) ≡ true → feeds (take (piece_length (piece_kind first rest) rest) (first ∷ rest)) ≡ 0
unfolding pieces_from
first_feeds divides first rest line = let here = divides (first ∷ rest) in piece_feeds (piece_kind first rest) _ here.0 here.3 line

pub feed_feeds : Divides → (first : ℕ) (rest : List ℕ) → piece_kind first rest ≡ piece.LineFeed → feeds (take 1 (first ∷ rest)) ≡ 1
unfolding pieces_from piece_length
feed_feeds divides first rest feed =
    let here = divides (first ∷ rest) in
    let Is : PieceKind → Type 0 = λ k. IsPiece k (take (piece_length k rest) (first ∷ rest)) here.0 in
    let one : take 1 (first ∷ rest) ≡ 10 ∷ [] = subst Is feed here.3 in
    ap feeds one

-- the line behind a piece on one line
line_stays : (source : List ℕ) (at n line : ℕ) → feeds (take n (drop at source)) ≡ 0 → line ≡ line_of source at → line ≡ line_of source (at + n)
unfolding line_of
line_stays source at n line none line_is =
    let stays : line ≡ min (line + 0) last_line = omega arith in
    line_more source at n line line line_is (stays ∙ ap (λ k. min (line + k) last_line) (sym none))

pub line_over_piece : Divides → (source : List ℕ) (at first : ℕ) (rest : List ℕ) (n line : ℕ) → drop at source ≡ first ∷ rest → is_on_line (piece_kind first rest) ≡ true → n ≡ piece_length (piece_kind first rest) rest → line ≡ line_of source at → line ≡ line_of source (at + n)
line_over_piece divides source at first rest n line front_is on_line n_is line_is =
    line_stays source at n line (ap (λ k. feeds (take k (drop at source))) n_is ∙ ap (λ these. feeds (take (piece_length (piece_kind first rest) rest) these)) front_is ∙ first_feeds divides first rest on_line) line_is

pub line_over_token : Divides → (source : List ℕ) (at first : ℕ) (rest : List ℕ) (n line : ℕ) → drop at source ≡ first ∷ rest → is_on_line (piece_kind first rest) ≡ true → (n ≤ prefix_len is_plain (drop at source)) ⊎ (n ≡ piece_length (piece_kind first rest) rest) → line ≡ line_of source at → line ≡ line_of source (at + n)
line_over_token divides source at first rest n line front_is on_line (inl run) line_is = line_of_run source at n line run line_is
line_over_token divides source at first rest n line front_is on_line (inr n_is) line_is = line_over_piece divides source at first rest n line front_is on_line n_is line_is

pub line_over_feed : Divides → (source : List ℕ) (at first : ℕ) (rest : List ℕ) (line there : ℕ) → drop at source ≡ first ∷ rest → piece_kind first rest ≡ piece.LineFeed → there ≡ min (line + 1) last_line → line ≡ line_of source at → there ≡ line_of source (at + 1)
line_over_feed divides source at first rest line there front_is feed there_is line_is =
    line_more source at 1 line there line_is (there_is ∙ ap (λ k. min (line + k) last_line) (sym (ap (λ these. feeds (take 1 these)) front_is ∙ feed_feeds divides first rest feed)))
