-- How reading a statement moves on: over a space, over a token, to its end.
use Rattle.std.proofs.Common.{◌≡◌, ℕ, zero, suc, ◌+◌, ◌-◌, ◌<◌, ◌≤◌, true, false, List, [], ◌∷◌, ◌++◌, length, take, drop, refl, sym, ap, subst, ◌∙◌, arith, add-zero}
use Rattle.std.specs.List.{AllByRecursion}
use Rattle.std.proofs.lemmas.List.{drop_all}
use Rattle.asm_base.specs.Pieces.{Piece, is_comment, is_space, ends_statement}
use Rattle.asm_base.specs.Dividing.{piece_kind, piece_length, first_piece}
use Rattle.asm_base.specs.declared.pieces.PieceKind.{PieceKind}
use Rattle.asm_base.specs.declared.pieces.PieceKind.TheVariants as piece
use Rattle.asm_base.specs.Tokens.{SpelledToken, token_kind, token_length}
use Rattle.asm_lines.specs.Intervals.{before_others, own_bytes, without_space_after}
use Rattle.asm_lines.specs.Scan.{pieces_at, first_interval, later_pieces}
use Rattle.asm_lines.proofs.Pieces.{one_off, none_off}
use Rattle.asm_lines.proofs.Fronts.{some_length, some_token_length, left_behind_first}
use Rattle.asm_lexemes.specs.Lexemes.{is_unclosed, makes_tokens}
use Rattle.asm_lines.specs.StatementTokens.{first_tokens_from, all_close, own_behind}
use Rattle.asm_lines.proofs.TokenPieces.{TokenPieces, MakesTokens, end_behind}

-- what holds of the rest of a statement at one offset holds at another
pub record Moves (source : List ℕ) (at next last last_next own passed own_next passed_next : ℕ) : Type 0 where
  pub later : later_pieces (pieces_at source at) ≡ later_pieces (pieces_at source next)
  pub closed : all_close (first_interval (pieces_at source at)) ≡ all_close (first_interval (pieces_at source next))
  pub end : end_behind last (without_space_after (first_interval (pieces_at source at))) ≡ end_behind last_next (without_space_after (first_interval (pieces_at source next)))
  pub owns : own_behind own passed (without_space_after (first_interval (pieces_at source at))) ≡ own_behind own_next passed_next (without_space_after (first_interval (pieces_at source next)))

-- a space that closes
end_of_space : (here : Piece) (kept : List Piece) (last : ℕ) → is_space here.kind ≡ true → end_behind last (before_others here kept) ≡ end_behind last kept
unfolding end_behind
end_of_space here [] last space = rw space refl
end_of_space here (next ∷ others) last space = refl

own_of_space : (here : Piece) (kept : List Piece) (own passed : ℕ) → is_space here.kind ≡ true → own_behind own passed (before_others here kept) ≡ own_behind own (passed + own_bytes here) kept
unfolding own_behind
own_of_space here [] own passed space = rw space refl
own_of_space here (next ∷ others) own passed space = omega arith

pub over_space : (here : Piece) (source : List ℕ) (at next last own passed : ℕ) → pieces_at source at ≡ here ∷ pieces_at source next → is_space here.kind ≡ true → ends_statement here.kind ≡ false → is_unclosed here.kind ≡ false
    → Moves source at next last last own passed own (passed + own_bytes here)
unfolding all_close
over_space here source at next last own passed off space goes_on closes = record {
  later = rw (off, goes_on) refl;
  closed = rw (off, goes_on, closes) refl;
  end = rw (off, goes_on) (end_of_space here (without_space_after (first_interval (pieces_at source next))) last space);
  owns = rw (off, goes_on) (own_of_space here (without_space_after (first_interval (pieces_at source next))) own passed space);
}

-- tokens
pub token_goes_on : (kind : PieceKind) → makes_tokens kind ≡ true → ends_statement kind ≡ false
token_goes_on piece.Character makes = refl
token_goes_on piece.String makes = refl
token_goes_on piece.Other makes = refl
token_goes_on piece.LineFeed makes = cc
token_goes_on piece.Semicolon makes = cc
token_goes_on piece.Blank makes = refl
token_goes_on piece.LineComment makes = refl
token_goes_on piece.BlockComment makes = refl
token_goes_on piece.OpenComment makes = refl
token_goes_on piece.OpenString makes = refl

pub token_closes : (kind : PieceKind) → makes_tokens kind ≡ true → is_unclosed kind ≡ false
token_closes piece.Character makes = refl
token_closes piece.String makes = refl
token_closes piece.Other makes = refl
token_closes piece.LineFeed makes = refl
token_closes piece.Semicolon makes = refl
token_closes piece.Blank makes = refl
token_closes piece.LineComment makes = refl
token_closes piece.BlockComment makes = refl
token_closes piece.OpenComment makes = cc
token_closes piece.OpenString makes = cc

pub token_no_space : (kind : PieceKind) → makes_tokens kind ≡ true → is_space kind ≡ false
token_no_space piece.Character makes = refl
token_no_space piece.String makes = refl
token_no_space piece.Other makes = refl
token_no_space piece.LineFeed makes = refl
token_no_space piece.Semicolon makes = refl
token_no_space piece.Blank makes = cc
token_no_space piece.LineComment makes = cc
token_no_space piece.BlockComment makes = cc
token_no_space piece.OpenComment makes = cc
token_no_space piece.OpenString makes = refl

later_behind_tokens : (parts rest : List Piece) → AllByRecursion MakesTokens parts → later_pieces (parts ++ rest) ≡ later_pieces rest
later_behind_tokens [] rest all = refl
later_behind_tokens (here ∷ parts) rest all = rw (token_goes_on here.kind all.0) (later_behind_tokens parts rest all.1)

pub first_with_tokens : (parts rest : List Piece) → AllByRecursion MakesTokens parts → first_interval (parts ++ rest) ≡ parts ++ first_interval rest
first_with_tokens [] rest all = refl
first_with_tokens (here ∷ parts) rest all = rw (token_goes_on here.kind all.0) (ap (λ these. here ∷ these) (first_with_tokens parts rest all.1))

close_with_tokens : (parts rest : List Piece) → AllByRecursion MakesTokens parts → all_close (parts ++ rest) ≡ all_close rest
unfolding all_close
close_with_tokens [] rest all = refl
close_with_tokens (here ∷ parts) rest all = rw (token_closes here.kind all.0) (close_with_tokens parts rest all.1)

pub kept_first : (here : Piece) (kept : List Piece) → is_space here.kind ≡ false → before_others here kept ≡ here ∷ kept
kept_first here [] makes = rw makes refl
kept_first here (next ∷ others) makes = refl

pub kept_with_tokens : (parts rest : List Piece) → AllByRecursion MakesTokens parts → without_space_after (parts ++ rest) ≡ parts ++ without_space_after rest
kept_with_tokens [] rest all = refl
kept_with_tokens (here ∷ parts) rest all = ap (before_others here) (kept_with_tokens parts rest all.1) ∙ kept_first here (parts ++ without_space_after rest) (token_no_space here.kind all.0)

-- a token ends where the last of its pieces does, whatever the end was before
any_last : (at last : ℕ) (here : Piece) (parts kept : List Piece) → end_behind last ((here ∷ parts) ++ kept) ≡ end_behind at ((here ∷ parts) ++ kept)
unfolding end_behind
any_last at last here parts kept = refl

no_pieces : (source : List ℕ) (at n last : ℕ) (parts kept : List Piece) → 0 < n → ((these : List Piece) → end_behind at (parts ++ these) ≡ end_behind (at + n) these) → end_behind last (parts ++ kept) ≡ end_behind (at + n) kept
unfolding end_behind
no_pieces source at n last [] kept some ends = let same : at ≡ at + n = ends ([]) in absurd (omega arith)
no_pieces source at n last (here ∷ parts) kept some ends = ends kept

any_own : (n own passed : ℕ) (parts kept : List Piece) → 0 < n → ((these : List Piece) → own_behind passed passed (parts ++ these) ≡ own_behind (passed + n) (passed + n) these) → own_behind own passed (parts ++ kept) ≡ own_behind (passed + n) (passed + n) kept
unfolding own_behind
any_own n own passed [] kept some owns = let same : passed ≡ passed + n = owns ([]) in absurd (omega arith)
any_own n own passed (here ∷ parts) kept some owns = owns kept

pub over_token : (source : List ℕ) (at n last own passed : ℕ) → 0 < n → TokenPieces source at n → Moves source at (at + n) last (at + n) own passed (passed + n) (passed + n)
over_token source at n last own passed some parts =
    let rest = pieces_at source (at + n) in
    let first = ap first_interval parts.stands ∙ first_with_tokens parts.pieces rest parts.make_tokens in
    let kept = ap without_space_after first ∙ kept_with_tokens parts.pieces (first_interval rest) parts.make_tokens in
    record {
      later = ap later_pieces parts.stands ∙ later_behind_tokens parts.pieces rest parts.make_tokens;
      closed = ap all_close first ∙ close_with_tokens parts.pieces (first_interval rest) parts.make_tokens;
      end = ap (end_behind last) kept ∙ no_pieces source at n last parts.pieces (without_space_after (first_interval rest)) some parts.ends;
      owns = ap (own_behind own passed) kept ∙ any_own n own passed parts.pieces (without_space_after (first_interval rest)) some (parts.owns passed);
    }

-- tokens
first_drop : (left_out offset : ℕ) (bytes : List ℕ) → first_tokens_from left_out offset bytes ≡ first_tokens_from 0 (offset + left_out) (drop left_out bytes)
unfolding first_tokens_from
first_drop zero offset bytes = rw add-zero
first_drop (suc n) offset [] = refl
first_drop (suc n) offset (byte ∷ rest) =
    let e : suc offset + n ≡ offset + suc n = omega arith in
    first_drop n (suc offset) rest ∙ ap (λ k. first_tokens_from 0 k (drop n rest)) e

first_skip : (s : List ℕ) (at offset first : ℕ) (rest : List ℕ) (n : ℕ) → drop at s ≡ first ∷ rest → 0 < n → first_tokens_from (n - 1) (suc offset) rest ≡ first_tokens_from 0 (offset + n) (drop (at + n) s)
first_skip s at offset first rest n e positive =
    let whole : suc (n - 1) ≡ n = omega arith in
    let left : drop (at + n) s ≡ drop (n - 1) rest = ap (λ k. drop (at + k) s) (sym whole) ∙ left_behind_first s at first rest (n - 1) e in
    let next : suc offset + (n - 1) ≡ offset + n = omega arith in
    first_drop (n - 1) (suc offset) rest ∙ ap (λ k. first_tokens_from 0 k (drop (n - 1) rest)) next ∙ ap (first_tokens_from 0 (offset + n)) (sym left)

pub tokens_over_space : (s : List ℕ) (at offset first : ℕ) (rest : List ℕ) (n : ℕ) → drop at s ≡ first ∷ rest → is_space (piece_kind first rest) ≡ true → ends_statement (piece_kind first rest) ≡ false → n ≡ piece_length (piece_kind first rest) rest
    → first_tokens_from 0 offset (drop at s) ≡ first_tokens_from 0 (offset + n) (drop (at + n) s)
unfolding first_tokens_from
tokens_over_space s at offset first rest n front space goes_on n_is =
    let positive : 0 < n = rw n_is (some_length (piece_kind first rest) rest) in
    rw (← first_skip s at offset first rest n front positive, front, goes_on, space, ← n_is) refl

pub tokens_over_token : (s : List ℕ) (at offset first : ℕ) (rest : List ℕ) (n : ℕ) → drop at s ≡ first ∷ rest → makes_tokens (piece_kind first rest) ≡ true → n ≡ token_length (token_kind first rest) first rest
    → first_tokens_from 0 offset (drop at s) ≡ (let token : SpelledToken = record { kind = token_kind first rest; bytes = take n (drop at s); start = offset } in token ∷ first_tokens_from 0 (offset + n) (drop (at + n) s))
unfolding first_tokens_from
tokens_over_token s at offset first rest n front makes n_is =
    let positive : 0 < n = rw n_is (some_token_length (token_kind first rest) first rest) in
    rw (← first_skip s at offset first rest n front positive, front, token_goes_on (piece_kind first rest) makes, token_no_space (piece_kind first rest) makes, ← n_is) refl

pub no_tokens : (s : List ℕ) (at offset first : ℕ) (rest : List ℕ) → drop at s ≡ first ∷ rest → ends_statement (piece_kind first rest) ≡ true → first_tokens_from 0 offset (drop at s) ≡ []
unfolding first_tokens_from
no_tokens s at offset first rest front ends = rw (front, ends) refl

pub no_tokens_left : (s : List ℕ) (at offset : ℕ) → length s ≤ at → first_tokens_from 0 offset (drop at s) ≡ []
unfolding first_tokens_from
no_tokens_left s at offset past = rw (drop_all at s past) refl

-- the statement ends here
pub record Stops (source : List ℕ) (at next : ℕ) : Type 0 where
  pub later : later_pieces (pieces_at source at) ≡ pieces_at source next
  pub closed : all_close (first_interval (pieces_at source at)) ≡ true
  pub end : (last : ℕ) → end_behind last (without_space_after (first_interval (pieces_at source at))) ≡ last
  pub owns : (own passed : ℕ) → own_behind own passed (without_space_after (first_interval (pieces_at source at))) ≡ own

pub stops_at : (source : List ℕ) (at first : ℕ) (rest : List ℕ) → drop at source ≡ first ∷ rest → ends_statement (piece_kind first rest) ≡ true → 1 ≡ piece_length (piece_kind first rest) rest → Stops source at (at + 1)
unfolding all_close end_behind own_behind
stops_at source at first rest front ends one =
    let off = one_off source at first rest 1 front one (omega arith) in
    record { later = rw (off, ends) refl; closed = rw (off, ends) refl; end = λ last. rw (off, ends) refl; owns = λ own passed. rw (off, ends) refl }

pub stops_behind : (source : List ℕ) (at : ℕ) → length source ≤ at → Stops source at at
unfolding all_close end_behind own_behind
stops_behind source at past =
    let none = none_off source at past in
    record { later = rw none refl; closed = rw none refl; end = λ last. rw none refl; owns = λ own passed. rw none refl }

-- a piece that does not close
unclosed_goes_on : (kind : PieceKind) → is_unclosed kind ≡ true → ends_statement kind ≡ false
unclosed_goes_on piece.LineFeed unclosed = cc
unclosed_goes_on piece.Semicolon unclosed = cc
unclosed_goes_on piece.Blank unclosed = refl
unclosed_goes_on piece.LineComment unclosed = refl
unclosed_goes_on piece.BlockComment unclosed = refl
unclosed_goes_on piece.OpenComment unclosed = refl
unclosed_goes_on piece.Character unclosed = refl
unclosed_goes_on piece.String unclosed = refl
unclosed_goes_on piece.OpenString unclosed = refl
unclosed_goes_on piece.Other unclosed = refl

pub never_closes : (source : List ℕ) (at first : ℕ) (rest : List ℕ) → drop at source ≡ first ∷ rest → is_unclosed (piece_kind first rest) ≡ true → all_close (first_interval (pieces_at source at)) ≡ false
unfolding all_close
never_closes source at first rest front unclosed =
    let off = one_off source at first rest (piece_length (piece_kind first rest) rest) front refl (some_length (piece_kind first rest) rest) in
    rw (off, unclosed_goes_on (piece_kind first rest) unclosed, unclosed) refl

-- spaces by their class
space_own : (source : List ℕ) (at first : ℕ) (rest : List ℕ) (n last own passed more : ℕ) (kind : PieceKind) → drop at source ≡ first ∷ rest → piece_kind first rest ≡ kind → is_space kind ≡ true → ends_statement kind ≡ false → is_unclosed kind ≡ false
    → n ≡ piece_length (piece_kind first rest) rest → 0 < n → own_bytes (first_piece at first rest) ≡ more → Moves source at (at + n) last last own passed own (passed + more)
space_own source at first rest n last own passed more kind front kind_is space goes_on closes n_is some own_is =
    let off = one_off source at first rest n front n_is some in
    let To : ℕ → Type 0 = λ k. Moves source at (at + n) last last own passed own (passed + k) in
    subst To own_is (over_space (first_piece at first rest) source at (at + n) last own passed off (ap is_space kind_is ∙ space) (ap ends_statement kind_is ∙ goes_on) (ap is_unclosed kind_is ∙ closes))

pub over_comment : (source : List ℕ) (at first : ℕ) (rest : List ℕ) (n last own passed : ℕ) (kind : PieceKind) → drop at source ≡ first ∷ rest → piece_kind first rest ≡ kind → is_space kind ≡ true → ends_statement kind ≡ false → is_unclosed kind ≡ false → is_comment kind ≡ true
    → n ≡ piece_length (piece_kind first rest) rest → 0 < n → Moves source at (at + n) last last own passed own passed
over_comment source at first rest n last own passed kind front kind_is space goes_on closes comment n_is some =
    let none : own_bytes (first_piece at first rest) ≡ 0 = rw (kind_is, comment) refl in
    let same : passed + 0 ≡ passed = omega arith in
    let To : ℕ → Type 0 = λ k. Moves source at (at + n) last last own passed own k in
    subst To same (space_own source at first rest n last own passed 0 kind front kind_is space goes_on closes n_is some none)

pub over_blank : (source : List ℕ) (at first : ℕ) (rest : List ℕ) (last own passed : ℕ) → drop at source ≡ first ∷ rest → piece_kind first rest ≡ piece.Blank → Moves source at (at + 1) last last own passed own (passed + 1)
unfolding piece_length
over_blank source at first rest last own passed front kind_is =
    let one : own_bytes (first_piece at first rest) ≡ 1 = rw kind_is refl in
    space_own source at first rest 1 last own passed 1 piece.Blank front kind_is refl refl refl (rw kind_is refl) (omega arith) one
