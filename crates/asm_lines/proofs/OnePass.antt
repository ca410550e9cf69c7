-- The tokens of the first statement of a text are those of its bytes: one pass finds what two did.
use Rattle.std.proofs.Common.{◌≡◌, ℕ, zero, suc, ◌+◌, ◌-◌, ◌<◌, ◌≤◌, Bool, true, false, not, cond, ◌&&◌, List, [], ◌∷◌, length, take, drop, refl, sym, ap, subst, ◌∙◌, arith, length-drop}
use Rattle.std.specs.List.{AllByRecursion}
use Rattle.std.proofs.lemmas.List.{drop-take, length-take}
use Rattle.asm_base.specs.Pieces.{Piece, is_space, ends_statement}
use Rattle.asm_base.specs.Dividing.{piece_kind, piece_length, first_piece, pieces_from}
use Rattle.asm_base.specs.declared.pieces.PieceKind.{PieceKind}
use Rattle.asm_base.specs.declared.pieces.PieceKind.TheVariants as piece
use Rattle.asm_base.specs.Tokens.{SpelledToken, first_token, token_kind, token_length, tokens_from, tokens_of}
use Rattle.asm_lines.specs.Intervals.{before_others, without_space_after}
use Rattle.asm_lines.specs.LineNumbers.{end_of_pieces, end_of_piece, bytes_between}
use Rattle.asm_lines.specs.Scan.{pieces_at, first_interval}
use Rattle.asm_lines.proofs.Pieces.{one_off}
use Rattle.asm_lines.proofs.Order.{in_first}
use Rattle.asm_lexemes.specs.Lexemes.{is_unclosed, makes_tokens}
use Rattle.asm_lines.specs.StatementTokens.{first_tokens_from, all_close}
use Rattle.asm_lines.proofs.TokenPieces.{pieces_of_token, end_behind}
use Rattle.asm_lines.proofs.Fronts.{some_length, some_token_length, left_behind_first, tokens_left}
use Rattle.asm_lines.proofs.FirstPieces.{OneDivision}
use Rattle.asm_lines.proofs.Cuts.{local_piece, local_token, token_within}
use Rattle.asm_lines.proofs.Moves.{over_space, over_token, tokens_over_space, tokens_over_token, no_tokens, no_tokens_left, stops_at, stops_behind, token_no_space, token_closes}

-- each piece from an offset on ends behind it
each_ends : (left_out start : ℕ) (bytes : List ℕ) → AllByRecursion (λ here. start < end_of_piece here) (pieces_from left_out start bytes)
unfolding pieces_from
each_ends left_out start [] = tt
each_ends (suc n) start (byte ∷ rest) = weaker (pieces_from n (suc start) rest) (each_ends n (suc start) rest)
  where
    weaker : (pieces : List Piece) → AllByRecursion (λ here. suc start < end_of_piece here) pieces → AllByRecursion (λ here. start < end_of_piece here) pieces
    weaker [] all = tt
    weaker (here ∷ pieces) all = (omega (arith, all.0), weaker pieces all.1)
each_ends zero start (byte ∷ rest) =
    let n = piece_length (piece_kind byte rest) rest in
    let some : start < start + length (take n (byte ∷ rest)) = omega (arith, length-take n (byte ∷ rest), some_length (piece_kind byte rest) rest) in
    (some, weaker (pieces_from (n - 1) (suc start) rest) (each_ends (n - 1) (suc start) rest))
  where
    weaker : (pieces : List Piece) → AllByRecursion (λ here. suc start < end_of_piece here) pieces → AllByRecursion (λ here. start < end_of_piece here) pieces
    weaker [] all = tt
    weaker (here ∷ pieces) all = (omega (arith, all.0), weaker pieces all.1)

in_before_others : (P : Piece → Type 0) (here : Piece) (others : List Piece) → P here → AllByRecursion P others → AllByRecursion P (before_others here others)
in_before_others P here [] one all = elim (is_space here.kind) as (λ space. AllByRecursion P (cond space [] (here ∷ []))) [ true ↦ tt | false ↦ (one, tt) ]
in_before_others P here (next ∷ others) one all = (one, all)

in_kept : (P : Piece → Type 0) (pieces : List Piece) → AllByRecursion P pieces → AllByRecursion P (without_space_after pieces)
in_kept P [] all = tt
in_kept P (here ∷ pieces) all = in_before_others P here (without_space_after pieces) all.0 (in_kept P pieces all.1)

last_ends : (at : ℕ) (here : Piece) (others : List Piece) → AllByRecursion (λ p. at < end_of_piece p) (here ∷ others) → at < end_of_pieces here others
last_ends at here [] all = all.0
last_ends at here (next ∷ others) all = last_ends at next others all.1

-- what is kept of the statement from an offset on, and where it ends
abbrev pub kept_at : List ℕ → ℕ → List Piece
kept_at source at = without_space_after (first_interval (pieces_at source at))

abbrev pub reach : List ℕ → ℕ → ℕ
reach source at = end_behind at (kept_at source at)

-- nothing is kept, or it ends behind the offset
data Kept (source : List ℕ) (at : ℕ) : Type 0 where
  nothing : kept_at source at ≡ [] → reach source at ≡ at → Kept source at
  reaches : ((last : ℕ) → end_behind last (kept_at source at) ≡ reach source at) → at < reach source at → Kept source at

kept_by : (at : ℕ) (kept : List Piece) → AllByRecursion (λ p. at < end_of_piece p) kept → (source : List ℕ) → kept ≡ kept_at source at → Kept source at
unfolding end_behind
kept_by at [] all source is = nothing (sym is) (ap (end_behind at) (sym is))
kept_by at (here ∷ others) all source is =
    reaches (λ last. ap (end_behind last) (sym is) ∙ ap (end_behind at) is) (subst (λ these. at < end_behind at these) is (last_ends at here others all))

is_kept : (source : List ℕ) (at : ℕ) → Kept source at
is_kept source at =
    kept_by at (kept_at source at) (in_kept (λ p. at < end_of_piece p) (first_interval (pieces_at source at)) (in_first (λ p. at < end_of_piece p) (pieces_at source at) (each_ends 0 at (drop at source)))) source refl

-- the tokens of what is kept are those of the statement
abbrev Same : List ℕ → ℕ → ℕ → Type 0
Same source at offset = tokens_from 0 offset (take (reach source at - at) (drop at source)) ≡ first_tokens_from 0 offset (drop at source)

-- the bytes that are left out are those of what was read
rest_tokens : (source : List ℕ) (at first : ℕ) (rest : List ℕ) (n k offset : ℕ) → drop at source ≡ first ∷ rest → 0 < n → tokens_from (n - 1) (suc offset) (take (n - 1 + k) rest) ≡ tokens_from 0 (offset + n) (take k (drop (at + n) source))
rest_tokens source at first rest n k offset front some =
    let whole : suc (n - 1) ≡ n = omega arith in
    let next : suc offset + (n - 1) ≡ offset + n = omega arith in
    let left : drop (n - 1) rest ≡ drop (at + n) source = sym (left_behind_first source at first rest (n - 1) front) ∙ ap (λ m. drop (at + m) source) whole in
    tokens_left (n - 1) (suc offset) (take (n - 1 + k) rest) ∙ ap (λ m. tokens_from 0 m (drop (n - 1) (take (n - 1 + k) rest))) next
    ∙ ap (tokens_from 0 (offset + n)) (drop-take (n - 1) k rest ∙ ap (take k) left)

front_cut : (first : ℕ) (rest : List ℕ) (n k : ℕ) → 0 < n → take (n + k) (first ∷ rest) ≡ first ∷ take (n - 1 + k) rest
front_cut first rest n k some = let count : n + k ≡ suc (n - 1 + k) = omega arith in rw count refl

take_front : (n k : ℕ) (bytes : List ℕ) → take n (take (n + k) bytes) ≡ take n bytes
take_front zero k bytes = refl
take_front (suc n) k [] = let count : suc n + k ≡ suc (n + k) = omega arith in rw count refl
take_front (suc n) k (byte ∷ rest) = let count : suc n + k ≡ suc (n + k) = omega arith in rw count (ap (λ these. byte ∷ these) (take_front n k rest))

space_tokens : OneDivision → (first : ℕ) (rest : List ℕ) (k offset : ℕ) → is_unclosed (piece_kind first rest) ≡ false → is_space (piece_kind first rest) ≡ true → 0 < k
    → tokens_from 0 offset (take (piece_length (piece_kind first rest) rest + k) (first ∷ rest)) ≡ tokens_from (piece_length (piece_kind first rest) rest - 1) (suc offset) (take (piece_length (piece_kind first rest) rest - 1 + k) rest)
unfolding tokens_from
space_tokens law first rest k offset closes space some =
    let local = local_piece law first rest k closes (λ is. some) in
    let cut = take (piece_length (piece_kind first rest) rest - 1 + k) rest in
    let blank : is_space (piece_kind first cut) ≡ true = ap is_space local.0 ∙ space in
    let long : piece_length (piece_kind first cut) cut ≡ piece_length (piece_kind first rest) rest = ap (λ t. piece_length t cut) local.0 ∙ local.1 in
    ap (tokens_from 0 offset) (front_cut first rest _ k (some_length (piece_kind first rest) rest)) ∙ rw blank (ap (λ m. tokens_from (m - 1) (suc offset) cut) long)

first_token_read : OneDivision → (first : ℕ) (rest : List ℕ) (k offset : ℕ) → makes_tokens (piece_kind first rest) ≡ true
    → tokens_from 0 offset (take (token_length (token_kind first rest) first rest + k) (first ∷ rest)) ≡ first_token offset first rest ∷ tokens_from (token_length (token_kind first rest) first rest - 1) (suc offset) (take (token_length (token_kind first rest) first rest - 1 + k) rest)
unfolding tokens_from
first_token_read law first rest k offset makes =
    let n = token_length (token_kind first rest) first rest in
    let cut = take (n - 1 + k) rest in
    let local = local_token law first rest k makes (token_closes (piece_kind first rest) makes) (token_no_space (piece_kind first rest) makes) in
    let some = some_token_length (token_kind first rest) first rest in
    let whole = front_cut first rest n k some in
    let bytes : take n (first ∷ cut) ≡ take n (first ∷ rest) = ap (take n) (sym whole) ∙ take_front n k (first ∷ rest) in
    ap (tokens_from 0 offset) whole ∙ rw (token_no_space (piece_kind first cut) local.piece, local.length, local.kind, bytes) refl

end_none : (at : ℕ) → end_behind at ([]) ≡ at
unfolding end_behind
end_none at = refl

none_taken : (source : List ℕ) (at offset : ℕ) → reach source at ≡ at → tokens_from 0 offset (take (reach source at - at) (drop at source)) ≡ []
unfolding tokens_from
none_taken source at offset here = let count : reach source at - at ≡ 0 = omega arith in ap (λ n. tokens_from 0 offset (take n (drop at source))) count

-- a space is passed
pass_space : OneDivision → (source : List ℕ) (at offset first : ℕ) (rest : List ℕ) (n : ℕ) → drop at source ≡ first ∷ rest → is_space (piece_kind first rest) ≡ true → ends_statement (piece_kind first rest) ≡ false → is_unclosed (piece_kind first rest) ≡ false
    → n ≡ piece_length (piece_kind first rest) rest → ((last : ℕ) → end_behind last (kept_at source at) ≡ end_behind last (kept_at source (at + n))) → Same source (at + n) (offset + n) → Same source at offset
unfolding tokens_from
pass_space law source at offset first rest n front space goes_on closes n_is ends later = by_kept (is_kept source at) (is_kept source (at + n))
  where
    positive : 0 < n
    positive = rw n_is (some_length (piece_kind first rest) rest)

    over : first_tokens_from 0 offset (drop at source) ≡ first_tokens_from 0 (offset + n) (drop (at + n) source)
    over = tokens_over_space source at offset first rest n front space goes_on n_is

    by_kept : Kept source at → Kept source (at + n) → Same source at offset
    by_kept (nothing none here) next =
        let there : reach source (at + n) ≡ at + n = sym (ends (at + n)) ∙ ap (end_behind (at + n)) none ∙ end_none (at + n) in
        none_taken source at offset here ∙ sym (none_taken source (at + n) (offset + n) there) ∙ later ∙ sym over
    by_kept (reaches any behind) (nothing none there) =
        let here : reach source at ≡ at = ends at ∙ ap (end_behind at) none ∙ end_none at in
        absurd (omega arith)
    by_kept (reaches any behind) (reaches more further) =
        let same : reach source (at + n) ≡ reach source at = sym (ends (at + n)) ∙ any (at + n) in
        let k = reach source (at + n) - (at + n) in
        let count : reach source at - at ≡ n + k = omega arith in
        let positive_k : 0 < k = omega arith in
        ap (λ m. tokens_from 0 offset (take m (drop at source))) count ∙ ap (λ these. tokens_from 0 offset (take (n + k) these)) front
        ∙ ap (λ m. tokens_from 0 offset (take (m + k) (first ∷ rest))) n_is ∙ space_tokens law first rest k offset closes space positive_k
        ∙ ap (λ m. tokens_from (m - 1) (suc offset) (take (m - 1 + k) rest)) (sym n_is) ∙ rest_tokens source at first rest n k offset front positive ∙ later ∙ sym over

-- a token is passed
pass_token : OneDivision → (source : List ℕ) (at offset first : ℕ) (rest : List ℕ) (n : ℕ) → drop at source ≡ first ∷ rest → makes_tokens (piece_kind first rest) ≡ true → n ≡ token_length (token_kind first rest) first rest
    → reach source at ≡ reach source (at + n) → Same source (at + n) (offset + n) → Same source at offset
pass_token law source at offset first rest n front makes n_is same later =
    let positive : 0 < n = rw n_is (some_token_length (token_kind first rest) first rest) in
    let over = tokens_over_token source at offset first rest n front makes n_is in
    let k = reach source (at + n) - (at + n) in
    let behind : at + n ≤ reach source (at + n) = no_earlier (is_kept source (at + n)) in
    let count : reach source at - at ≡ n + k = omega arith in
    let bytes : take (token_length (token_kind first rest) first rest) (first ∷ rest) ≡ take n (drop at source) = ap (λ m. take m (first ∷ rest)) (sym n_is) ∙ ap (take n) (sym front) in
    ap (λ m. tokens_from 0 offset (take m (drop at source))) count ∙ ap (λ these. tokens_from 0 offset (take (n + k) these)) front
    ∙ ap (λ m. tokens_from 0 offset (take (m + k) (first ∷ rest))) n_is ∙ first_token_read law first rest k offset makes
    ∙ ap (λ these. first_token offset first rest ∷ these) (ap (λ m. tokens_from (m - 1) (suc offset) (take (m - 1 + k) rest)) (sym n_is) ∙ rest_tokens source at first rest n k offset front positive ∙ later)
    ∙ ap (λ b. (let token : SpelledToken = record { kind = token_kind first rest; bytes = b; start = offset } in token ∷ first_tokens_from 0 (offset + n) (drop (at + n) source))) bytes ∙ sym over
  where
    no_earlier : Kept source (at + n) → at + n ≤ reach source (at + n)
    no_earlier (nothing none there) = omega arith
    no_earlier (reaches any behind) = omega arith

-- what is no end, no space and closes is of a token
makes_tokens_by : (kind : PieceKind) → ends_statement kind ≡ false → is_space kind ≡ false → is_unclosed kind ≡ false → makes_tokens kind ≡ true
makes_tokens_by piece.LineFeed goes_on no_space closes = cc
makes_tokens_by piece.Semicolon goes_on no_space closes = cc
makes_tokens_by piece.Blank goes_on no_space closes = cc
makes_tokens_by piece.LineComment goes_on no_space closes = cc
makes_tokens_by piece.BlockComment goes_on no_space closes = cc
makes_tokens_by piece.OpenComment goes_on no_space closes = cc
makes_tokens_by piece.Character goes_on no_space closes = refl
makes_tokens_by piece.String goes_on no_space closes = refl
makes_tokens_by piece.OpenString goes_on no_space closes = cc
makes_tokens_by piece.Other goes_on no_space closes = refl

first_closes : (unclosed all : Bool) → (not unclosed && all) ≡ true → unclosed ≡ false
first_closes true all e = cc
first_closes false all e = refl

-- what stands at an offset of a statement that closes
closes_at : (source : List ℕ) (at first : ℕ) (rest : List ℕ) → drop at source ≡ first ∷ rest → ends_statement (piece_kind first rest) ≡ false → all_close (first_interval (pieces_at source at)) ≡ true → is_unclosed (piece_kind first rest) ≡ false
unfolding all_close
closes_at source at first rest front goes_on closed =
    let off = one_off source at first rest (piece_length (piece_kind first rest) rest) front refl (some_length (piece_kind first rest) rest) in
    let all : all_close (first_interval (first_piece at first rest ∷ pieces_at source (at + piece_length (piece_kind first rest) rest))) ≡ true = ap (λ these. all_close (first_interval these)) (sym off) ∙ closed in
    first_closes (is_unclosed (piece_kind first rest)) _ (rw goes_on at all)

one_byte : (kind : PieceKind) (rest : List ℕ) → ends_statement kind ≡ true → 1 ≡ piece_length kind rest
unfolding piece_length
one_byte piece.LineFeed rest ends = refl
one_byte piece.Semicolon rest ends = refl
one_byte piece.Blank rest ends = refl
one_byte piece.LineComment rest ends = cc
one_byte piece.BlockComment rest ends = cc
one_byte piece.OpenComment rest ends = cc
one_byte piece.Character rest ends = cc
one_byte piece.String rest ends = cc
one_byte piece.OpenString rest ends = cc
one_byte piece.Other rest ends = refl

-- nothing is left
past_end : (source : List ℕ) (at offset : ℕ) → length source ≤ at → Same source at offset
past_end source at offset past =
    let stop = stops_behind source at past in
    none_taken source at offset (stop.end at) ∙ sym (no_tokens_left source at offset past)

same_from : OneDivision → (fuel : ℕ) (source : List ℕ) (at offset : ℕ) → length source ≤ at + fuel → all_close (first_interval (pieces_at source at)) ≡ true → Same source at offset
same_from law zero source at offset enough closed = past_end source at offset (omega arith)
same_from law (suc fuel) source at offset enough closed = by_front (λ n some closed_there. same_from law fuel source (at + n) (offset + n) (omega arith) closed_there) (drop at source) refl
  where
    Later : Type 0
    Later = (n : ℕ) → 0 < n → all_close (first_interval (pieces_at source (at + n))) ≡ true → Same source (at + n) (offset + n)

    by_kind : Later → (first : ℕ) (rest : List ℕ) → drop at source ≡ first ∷ rest → (ends space : Bool) → ends_statement (piece_kind first rest) ≡ ends → is_space (piece_kind first rest) ≡ space → Same source at offset
    by_kind later first rest front true space ends_is space_is =
        let stop = stops_at source at first rest front ends_is (one_byte (piece_kind first rest) rest ends_is) in
        none_taken source at offset (stop.end at) ∙ sym (no_tokens source at offset first rest front ends_is)
    by_kind later first rest front false true ends_is space_is =
        let n = piece_length (piece_kind first rest) rest in
        let positive : 0 < n = some_length (piece_kind first rest) rest in
        let closes = closes_at source at first rest front ends_is closed in
        let off = one_off source at first rest n front refl positive in
        let move = λ (last : ℕ). over_space (first_piece at first rest) source at (at + n) last 0 0 off space_is ends_is closes in
        pass_space law source at offset first rest n front space_is ends_is closes refl (λ last. (move last).end) (later n positive (sym (move at).closed ∙ closed))
    by_kind later first rest front false false ends_is space_is =
        let n = token_length (token_kind first rest) first rest in
        let positive : 0 < n = some_token_length (token_kind first rest) first rest in
        let closes = closes_at source at first rest front ends_is closed in
        let makes = makes_tokens_by (piece_kind first rest) ends_is space_is closes in
        let parts = pieces_of_token source at first rest n front makes refl positive (token_within law first rest makes) in
        let move = over_token source at n at 0 0 positive parts in
        pass_token law source at offset first rest n front makes refl move.end (later n positive (sym move.closed ∙ closed))

    by_front : Later → (text : List ℕ) → drop at source ≡ text → Same source at offset
    by_front later [] front = past_end source at offset (omega (arith, length-drop at source, ap length front))
    by_front later (first ∷ rest) front = by_kind later first rest front (ends_statement (piece_kind first rest)) (is_space (piece_kind first rest)) refl refl

-- the tokens of the statement that begins at an offset, in one pass, are the tokens of its bytes
pub one_pass : OneDivision → (source : List ℕ) (begin : ℕ) → all_close (first_interval (pieces_at source begin)) ≡ true → tokens_of (bytes_between source begin (reach source begin)) ≡ first_tokens_from 0 0 (drop begin source)
one_pass law source begin closed = same_from law (length source) source begin 0 (omega arith) closed
