-- Between statements stands no statement and no fault; what does not close is one.
use Rattle.std.proofs.Common.{◌≡◌, ℕ, ◌+◌, ◌<◌, ◌≤◌, Bool, true, false, not, cond, ◌&&◌, List, [], ◌∷◌, length, drop, map, Option, Some, None, refl, sym, ap, subst, ◌∙◌, arith, ◌⊎◌, inl, inr, nat_lt}
use Rattle.std.specs.List.{filter_map, cons_option}
use Rattle.std.specs.Option.{option_or}
use Rattle.std.proofs.lemmas.Bool.{le-ltb, lt-ltb}
use Rattle.asm_base.specs.Pieces.{Piece, is_space, ends_statement}
use Rattle.asm_base.specs.Dividing.{piece_kind, piece_length, first_piece}
use Rattle.asm_base.specs.declared.pieces.PieceKind.{PieceKind}
use Rattle.asm_base.specs.declared.pieces.PieceKind.TheVariants as piece
use Rattle.asm_base.specs.declared.tokens.Token.{Token}
use Rattle.asm_base.specs.Tokens.{spelled, tokens_of}
use Rattle.asm_lines.specs.declared.faults.Found.{Found}
use Rattle.asm_lines.specs.declared.faults.LineCause.TheVariants.{StatementTooLong}
use Rattle.asm_lines.specs.Intervals.{intervals_of, own_length, trimmed, without_space_after}
use Rattle.asm_lines.specs.LineNumbers.{line_of, bytes_between}
use Rattle.asm_lines.specs.Faults.{earlier, first_long, first_open, found_at, long_found, longest_statement, open_by, open_found}
use Rattle.asm_lines.specs.Statements.{StatementAt, statement_in, statement_of}
use Rattle.asm_lines.specs.Scan.{pieces_at, first_interval, later_pieces, interval_found}
use Rattle.asm_lines.proofs.Pieces.{one_off, none_off}
use Rattle.asm_lines.proofs.Steps.{statements_more, open_more, long_more, open_step, long_step}
use Rattle.asm_lines.specs.declared.cursors.Point.{Point}
use Rattle.asm_lines.specs.StatementTokens.{IsReadWhole, all_close, own_length_at}
use Rattle.asm_lexemes.specs.Lexemes.{is_unclosed}
use Rattle.asm_lines.specs.NextStatements.{TokenStatement, in_tokens, statements_left, found_left, IsNext, IsEnd}
use Rattle.asm_lines.specs.Skips.{BeginsToken, IsSkipped, Reaches}
use Rattle.asm_lines.proofs.TokenPieces.{end_behind}
use Rattle.asm_lines.proofs.Fronts.{some_length}
use Rattle.asm_lines.proofs.FirstPieces.{OneDivision}
use Rattle.asm_lines.proofs.Moves.{kept_first, token_goes_on, token_no_space}
use Rattle.asm_lines.proofs.OnePass.{kept_at, reach, one_pass}

-- a piece that closes is no fault, and one that does not is
closed_none : (source : List ℕ) (kind : PieceKind) (start : ℕ) → is_unclosed kind ≡ false → open_by source kind start ≡ None
closed_none source piece.LineFeed start closes = refl
closed_none source piece.Semicolon start closes = refl
closed_none source piece.Blank start closes = refl
closed_none source piece.LineComment start closes = refl
closed_none source piece.BlockComment start closes = refl
closed_none source piece.OpenComment start closes = cc
closed_none source piece.Character start closes = refl
closed_none source piece.String start closes = refl
closed_none source piece.OpenString start closes = cc
closed_none source piece.Other start closes = refl

abbrev pub IsSome : Option Found → Type 0
IsSome found = (one : Found) × (found ≡ Some one)

open_some : (source : List ℕ) (kind : PieceKind) (start : ℕ) → is_unclosed kind ≡ true → IsSome (open_by source kind start)
open_some source piece.LineFeed start unclosed = cc
open_some source piece.Semicolon start unclosed = cc
open_some source piece.Blank start unclosed = cc
open_some source piece.LineComment start unclosed = cc
open_some source piece.BlockComment start unclosed = cc
open_some source piece.OpenComment start unclosed = (_, refl)
open_some source piece.Character start unclosed = cc
open_some source piece.String start unclosed = cc
open_some source piece.OpenString start unclosed = (_, refl)
open_some source piece.Other start unclosed = cc

some_or : (one other : Option Found) → IsSome one → IsSome (option_or one other)
some_or None other is = let e = is.1 in cc
some_or (Some found) other is = (found, refl)

pub one_earlier : (one other : Option Found) → IsSome one → IsSome (earlier one other)
one_earlier None other is = let e = is.1 in cc
one_earlier (Some found) None is = (found, refl)
one_earlier (Some found) (Some other) is = (_, refl)

pub other_earlier : (one other : Option Found) → IsSome other → IsSome (earlier one other)
other_earlier None other is = is
other_earlier (Some found) None is = (found, refl)
other_earlier (Some found) (Some other) is = (_, refl)

-- what is passed: an end of a statement, or a space that closes
pub record Passes (here : Piece) : Type 0 where
  pub closes : is_unclosed here.kind ≡ false
  pub which : (ends_statement here.kind ≡ true) ⊎ ((ends_statement here.kind ≡ false) × (is_space here.kind ≡ true))

-- the same statement, from its pieces behind a space
without_first : (here : Piece) (pieces : List Piece) → is_space here.kind ≡ true → trimmed (here ∷ pieces) ≡ trimmed pieces
unfolding trimmed
without_first here pieces space = rw space refl

statements_over : (file : ℕ) (source : List ℕ) (here : Piece) (pieces : List Piece) → Passes here → filter_map (statement_in file source) (intervals_of (here ∷ pieces)) ≡ filter_map (statement_in file source) (intervals_of pieces)
unfolding trimmed
statements_over file source here pieces passes = by_class passes.which
  where
    by_class : (ends_statement here.kind ≡ true) ⊎ ((ends_statement here.kind ≡ false) × (is_space here.kind ≡ true)) → filter_map (statement_in file source) (intervals_of (here ∷ pieces)) ≡ filter_map (statement_in file source) (intervals_of pieces)
    by_class (inl ends) = rw ends refl
    by_class (inr both) =
        let goes_on = both.0 in
        statements_more file source (here ∷ pieces)
        ∙ ap (λ end. cons_option (statement_in file source (cond end [] (here ∷ first_interval pieces))) (filter_map (statement_in file source) (intervals_of (cond end pieces (later_pieces pieces))))) goes_on
        ∙ ap (λ these. cons_option (statement_of file source these) (filter_map (statement_in file source) (intervals_of (later_pieces pieces)))) (without_first here (first_interval pieces) both.1)
        ∙ sym (statements_more file source pieces)

long_over : (source : List ℕ) (here : Piece) (pieces : List Piece) → Passes here → first_long source (intervals_of (here ∷ pieces)) ≡ first_long source (intervals_of pieces)
unfolding trimmed
long_over source here pieces passes = by_class passes.which
  where
    by_class : (ends_statement here.kind ≡ true) ⊎ ((ends_statement here.kind ≡ false) × (is_space here.kind ≡ true)) → first_long source (intervals_of (here ∷ pieces)) ≡ first_long source (intervals_of pieces)
    by_class (inl ends) = rw ends refl
    by_class (inr both) =
        let goes_on = both.0 in
        long_more source (here ∷ pieces)
        ∙ ap (λ end. option_or (long_found source (trimmed (cond end [] (here ∷ first_interval pieces)))) (first_long source (intervals_of (cond end pieces (later_pieces pieces))))) goes_on
        ∙ ap (λ these. option_or (long_found source these) (first_long source (intervals_of (later_pieces pieces)))) (without_first here (first_interval pieces) both.1)
        ∙ sym (long_more source pieces)

pub skip_over : (source : List ℕ) (from at next line line_next : ℕ) (here : Piece) → pieces_at source at ≡ here ∷ pieces_at source next → Passes here → line_next ≡ line_of source next → next ≤ length source → at ≤ next
    → (let place : Point = record { at = at; line = line } in IsSkipped source from place) → (let place : Point = record { at = next; line = line_next } in IsSkipped source from place)
unfolding statements_left found_left
skip_over source from at next line line_next here off passes line_is within later before = record {
  statements = λ file. sym (ap (λ these. filter_map (statement_in file source) (intervals_of these)) off ∙ statements_over file source here (pieces_at source next) passes) ∙ before.statements file;
  faults = sym (ap (λ these. earlier (first_open source these) (first_long source (intervals_of these))) off
      ∙ ap (λ one. earlier (option_or one (first_open source (pieces_at source next))) (first_long source (intervals_of (here ∷ pieces_at source next)))) (closed_none source here.kind here.start passes.closes)
      ∙ ap (earlier (first_open source (pieces_at source next))) (long_over source here (pieces_at source next) passes)) ∙ before.faults;
  line = line_is;
  within = within;
  later = omega (arith, before.later);
}

pub skip_unclosed : (source : List ℕ) (from at first line : ℕ) (rest : List ℕ) → drop at source ≡ first ∷ rest → is_unclosed (piece_kind first rest) ≡ true → (let place : Point = record { at = at; line = line } in IsSkipped source from place) → IsSome (found_left source from)
unfolding found_left
skip_unclosed source from at first line rest front unclosed before =
    let off = one_off source at first rest (piece_length (piece_kind first rest) rest) front refl (some_length (piece_kind first rest) rest) in
    let here = first_piece at first rest in
    let next = pieces_at source (at + piece_length (piece_kind first rest) rest) in
    let some = one_earlier (first_open source (here ∷ next)) (first_long source (intervals_of (here ∷ next))) (some_or (open_found source here) (first_open source next) (open_some source (piece_kind first rest) at unclosed)) in
    let same = ap (λ these. earlier (first_open source these) (first_long source (intervals_of these))) off in
    (some.0, sym before.faults ∙ same ∙ some.1)

-- the statement that begins with a token
token_kept : (source : List ℕ) (begin : ℕ) → BeginsToken source begin → trimmed (first_interval (pieces_at source begin)) ≡ kept_at source begin
unfolding trimmed
token_kept source begin token =
    let n = piece_length (piece_kind token.first token.rest) token.rest in
    let off = one_off source begin token.first token.rest n token.front refl (some_length (piece_kind token.first token.rest) token.rest) in
    let goes_on = token_goes_on (piece_kind token.first token.rest) token.makes in
    let no_space = token_no_space (piece_kind token.first token.rest) token.makes in
    rw (off, goes_on, no_space) refl

record KeptToken (source : List ℕ) (begin : ℕ) : Type 0 where
  first : Piece
  others : List Piece
  kept : kept_at source begin ≡ first ∷ others
  start : first.start ≡ begin

kept_begins : (source : List ℕ) (begin : ℕ) → BeginsToken source begin → KeptToken source begin
kept_begins source begin token =
    let n = piece_length (piece_kind token.first token.rest) token.rest in
    let off = one_off source begin token.first token.rest n token.front refl (some_length (piece_kind token.first token.rest) token.rest) in
    let goes_on = token_goes_on (piece_kind token.first token.rest) token.makes in
    let no_space = token_no_space (piece_kind token.first token.rest) token.makes in
    let here = first_piece begin token.first token.rest in
    record {
      first = here;
      others = without_space_after (first_interval (pieces_at source (begin + n)));
      kept = rw (off, goes_on) (kept_first here (without_space_after (first_interval (pieces_at source (begin + n)))) no_space);
      start = refl;
    }

statement_kept : (file : ℕ) (source : List ℕ) (begin : ℕ) (first : Piece) (others : List Piece) → kept_at source begin ≡ first ∷ others → first.start ≡ begin
    → (let statement : StatementAt = record { file = file; line = line_of source begin; bytes = bytes_between source begin (reach source begin) } in statement_of file source (kept_at source begin) ≡ Some statement)
unfolding end_behind
statement_kept file source begin first others kept start = rw (kept, start) refl

statement_there : (file : ℕ) (source : List ℕ) (begin : ℕ) → BeginsToken source begin
    → (let statement : StatementAt = record { file = file; line = line_of source begin; bytes = bytes_between source begin (reach source begin) } in statement_in file source (first_interval (pieces_at source begin)) ≡ Some statement)
statement_there file source begin token =
    let there = kept_begins source begin token in
    ap (statement_of file source) (token_kept source begin token) ∙ statement_kept file source begin there.first there.others there.kept there.start

-- no fault in a statement that closes and is no longer than the limit
none_open : (source : List ℕ) (pieces : List Piece) → all_close pieces ≡ true → first_open source pieces ≡ None
unfolding all_close
none_open source [] closed = refl
none_open source (here ∷ pieces) closed = by_class (is_unclosed here.kind) refl closed (none_open source pieces)
  where
    by_class : (unclosed : Bool) → is_unclosed here.kind ≡ unclosed → (not unclosed && all_close pieces) ≡ true → (all_close pieces ≡ true → first_open source pieces ≡ None) → first_open source (here ∷ pieces) ≡ None
    by_class true is all later = cc
    by_class false is all later = ap (λ one. option_or one (first_open source pieces)) (closed_none source here.kind here.start is) ∙ later all

some_open : (source : List ℕ) (pieces : List Piece) → all_close pieces ≡ false → IsSome (first_open source pieces)
unfolding all_close
some_open source [] closed = cc
some_open source (here ∷ pieces) closed = by_class (is_unclosed here.kind) refl closed (some_open source pieces)
  where
    by_class : (unclosed : Bool) → is_unclosed here.kind ≡ unclosed → (not unclosed && all_close pieces) ≡ false → (all_close pieces ≡ false → IsSome (first_open source pieces)) → IsSome (first_open source (here ∷ pieces))
    by_class true is all later = some_or (open_found source here) (first_open source pieces) (open_some source here.kind here.start is)
    by_class false is all later =
        let none = closed_none source here.kind here.start is in
        let rest = later all in
        (rest.0, ap (λ one. option_or one (first_open source pieces)) none ∙ rest.1)

none_long : (source : List ℕ) (kept : List Piece) → own_length kept ≤ 65536 → long_found source kept ≡ None
none_long source [] fits = refl
none_long source (first ∷ others) fits = let short = le-ltb longest_statement (own_length (first ∷ others)) fits in rw short refl

some_long : (source : List ℕ) (first : Piece) (others kept : List Piece) → kept ≡ first ∷ others → 65536 < own_length kept → IsSome (long_found source kept)
some_long source first others kept is long =
    let more : nat_lt longest_statement (own_length (first ∷ others)) ≡ true = lt-ltb longest_statement (own_length (first ∷ others)) (subst (λ these. 65536 < own_length these) is long) in
    (found_at first.start (StatementTooLong (line_of source first.start)), ap (long_found source) is ∙ ap (λ b. cond b (Some (found_at first.start (StatementTooLong (line_of source first.start)))) None) more)

-- behind the next statement stand the same faults, where it has none
pub same_faults : (source : List ℕ) (from : ℕ) (place : Point) (next : ℕ) → Reaches source from place → place.at < length source → pieces_at source next ≡ later_pieces (pieces_at source place.at) → all_close (first_interval (pieces_at source place.at)) ≡ true
    → own_length_at source place.at ≤ 65536 → found_left source from ≡ found_left source next
unfolding found_left
same_faults source from place next reached inside later closed fits = by_token reached.begins
  where
    by_token : (length source ≤ place.at) ⊎ BeginsToken source place.at → found_left source from ≡ found_left source next
    by_token (inl past) = absurd (omega arith)
    by_token (inr token) =
        let begin = place.at in
        let none_found : interval_found source (first_interval (pieces_at source begin)) ≡ None =
        ap (λ one. earlier one (long_found source (trimmed (first_interval (pieces_at source begin))))) (none_open source (first_interval (pieces_at source begin)) closed)
        ∙ ap (long_found source) (token_kept source begin token) ∙ none_long source (kept_at source begin) fits in
        sym reached.skipped.faults ∙ ap (λ one. earlier one (first_long source (intervals_of (pieces_at source begin)))) (sym (open_step source begin next (first_open source (pieces_at source begin)) later none_found refl))
        ∙ ap (earlier (first_open source (pieces_at source next))) (sym (long_step source begin next (first_long source (intervals_of (pieces_at source begin))) later none_found refl))

-- what is read is the next statement
pub next_whole : OneDivision → (source : List ℕ) (from : ℕ) (place : Point) (read : List Token) (next there : ℕ) → Reaches source from place → place.at < length source → IsReadWhole source place.at read next there → own_length_at source place.at ≤ 65536 → IsNext source from read place.line next there
unfolding statements_left
next_whole law source from place read next there reached inside known fits = by_token reached.begins
  where
    by_token : (length source ≤ place.at) ⊎ BeginsToken source place.at → IsNext source from read place.line next there
    by_token (inl past) = absurd (omega arith)
    by_token (inr token) =
        let begin = place.at in
        let whole : tokens_of (bytes_between source begin (reach source begin)) ≡ map spelled read = one_pass law source begin known.closed ∙ sym known.tokens in
        record {
          statements = λ file.
              let statement : StatementAt = record { file = file; line = line_of source begin; bytes = bytes_between source begin (reach source begin) } in
              let left = filter_map (statement_in file source) (intervals_of (pieces_at source next)) in
              ap (map in_tokens) (sym (reached.skipped.statements file) ∙ statements_more file source (pieces_at source begin)
              ∙ ap (λ one. cons_option one (filter_map (statement_in file source) (intervals_of (later_pieces (pieces_at source begin))))) (statement_there file source begin token)
              ∙ ap (λ these. statement ∷ filter_map (statement_in file source) (intervals_of these)) (sym known.later))
              ∙ ap (λ tokens. (let one : TokenStatement = record { file = file; line = line_of source begin; tokens = tokens } in one ∷ map in_tokens left)) whole
              ∙ ap (λ line. (let one : TokenStatement = record { file = file; line = line; tokens = map spelled read } in one ∷ map in_tokens left)) (sym reached.skipped.line);
          faults = same_faults source from place next reached inside known.later known.closed fits;
          there = known.line;
          within = known.within;
          more = omega (arith, known.more, reached.skipped.later);
        }

-- the end
pub next_end : (source : List ℕ) (from : ℕ) (place : Point) → Reaches source from place → length source ≤ place.at → IsEnd source from
unfolding statements_left found_left trimmed
next_end source from place reached past =
    let none = none_off source place.at past in
    record {
      statements = λ file. sym (reached.skipped.statements file) ∙ ap (λ these. filter_map (statement_in file source) (intervals_of these)) none;
      faults = sym reached.skipped.faults ∙ ap (λ these. earlier (first_open source these) (first_long source (intervals_of these))) none;
    }

-- a statement that does not close
pub next_unclosed : (source : List ℕ) (from : ℕ) (place : Point) → Reaches source from place → all_close (first_interval (pieces_at source place.at)) ≡ false → IsSome (found_left source from)
unfolding found_left
next_unclosed source from place reached unclosed =
    let pieces = pieces_at source place.at in
    let first = some_or (first_open source (first_interval pieces)) (first_open source (later_pieces pieces)) (some_open source (first_interval pieces) unclosed) in
    let whole : IsSome (first_open source pieces) = (first.0, open_more source pieces ∙ first.1) in
    let some = one_earlier (first_open source pieces) (first_long source (intervals_of pieces)) whole in
    (some.0, sym reached.skipped.faults ∙ some.1)

-- a statement that is too long
pub next_long : (source : List ℕ) (from : ℕ) (place : Point) → Reaches source from place → place.at < length source → 65536 < own_length_at source place.at → IsSome (found_left source from)
unfolding found_left
next_long source from place reached inside long = by_token reached.begins
  where
    by_token : (length source ≤ place.at) ⊎ BeginsToken source place.at → IsSome (found_left source from)
    by_token (inl past) = absurd (omega arith)
    by_token (inr token) =
        let pieces = pieces_at source place.at in
        let kept = kept_begins source place.at token in
        let here = some_long source kept.first kept.others (kept_at source place.at) kept.kept long in
        let first = some_or (long_found source (trimmed (first_interval pieces))) (first_long source (intervals_of (later_pieces pieces))) (here.0, ap (long_found source) (token_kept source place.at token) ∙ here.1) in
        let whole : IsSome (first_long source (intervals_of pieces)) = (first.0, long_more source pieces ∙ first.1) in
        let some = other_earlier (first_open source pieces) (first_long source (intervals_of pieces)) whole in
        (some.0, sym reached.skipped.faults ∙ some.1)
