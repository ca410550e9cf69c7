-- Each statement is a run of whole pieces of its source.
use Rattle.std.proofs.Common.{◌≡◌, ℕ, ◌+◌, ◌-◌, ◌≤◌, Bool, true, false, cond, List, [], ◌∷◌, ◌++◌, length, take, drop, All, Option, Some, None, IfOk, refl, sym, ap, subst, ◌∙◌, arith, append_assoc, length-append, nat_lt}
use Rattle.std.specs.List.{AllByRecursion, cons_option, filter_map, flat_map, onto_first}
use Rattle.std.specs.Option.{option_or}
use Rattle.std.proofs.lemmas.Bool.{ltb-false}
use Rattle.std.proofs.lemmas.List.{append-nil, drop-drop}
use Rattle.std.proofs.lemmas.List.Elements.{All-from_recursion}
use Rattle.std.proofs.lemmas.List.Prefix.{front_rest}
use Rattle.std.proofs.Math.Seq.{take-append_seam}
use Rattle.asm_base.specs.Pieces.{Piece, IsDivision, IsDivisionFrom, ends_statement, is_space}
use Rattle.asm_base.specs.Dividing.{pieces_of}
use Rattle.asm_lines.specs.declared.faults.Found.{Found}
use Rattle.asm_lines.specs.declared.faults.LineCause.TheVariants.{StatementTooLong}
use Rattle.asm_lines.specs.LineNumbers.{end_of_pieces, line_of, bytes_between}
use Rattle.asm_lines.specs.Intervals.{before_others, intervals_of, own_length, trimmed, without_space_after, without_space_before}
use Rattle.asm_lines.specs.Faults.{earlier, first_long, first_open, found_at, long_found, longest_statement, nul_found, source_found}
use Rattle.asm_lines.specs.Statements.{StatementAt, statement_in, statement_of, statements_in, statements_of}
use Rattle.asm_lines.specs.Laws.{IsRun, last_of}
use Rattle.asm_lines.proofs.RunLaws.{if_none_found}
use Rattle.asm_lines.proofs.Order.{in_trimmed, neither_found}

-- the run stands somewhere in the pieces
pub record IsIn (pieces run : List Piece) : Type 0 where
  pub before : List Piece
  pub after : List Piece
  pub stands : pieces ≡ before ++ run ++ after

-- the pieces begin with the run
pub record IsFront (pieces run : List Piece) : Type 0 where
  pub after : List Piece
  pub stands : pieces ≡ run ++ after

in_more : (piece : Piece) (pieces run : List Piece) → IsIn pieces run → IsIn (piece ∷ pieces) run
in_more piece pieces run inside = record { before = piece ∷ inside.before; after = inside.after; stands = ap (λ these. piece ∷ these) inside.stands }

in_by_front : (pieces run : List Piece) → IsFront pieces run → IsIn pieces run
in_by_front pieces run front = record { before = []; after = front.after; stands = front.stands }

in_part : (pieces run kept : List Piece) → IsIn pieces run → IsIn run kept → IsIn pieces kept
in_part pieces run kept outer inner = record {
  before = outer.before ++ inner.before;
  after = inner.after ++ outer.after;
  stands = outer.stands ∙ ap (λ these. outer.before ++ these ++ outer.after) inner.stands ∙ simp append_assoc;
}

front_in : (pieces run kept : List Piece) → IsIn pieces run → IsFront run kept → IsIn pieces kept
front_in pieces run kept outer inner = in_part pieces run kept outer (in_by_front run kept inner)

-- the first interval stands in front of the pieces, and the others behind it
abbrev AreIn : List Piece → List (List Piece) → Type 0
AreIn pieces [] = Unit {0}
AreIn pieces (interval ∷ later) = IsFront pieces interval × AllByRecursion (IsIn pieces) later

all_in_more : (piece : Piece) (pieces : List Piece) (intervals : List (List Piece)) → AllByRecursion (IsIn pieces) intervals → AllByRecursion (IsIn (piece ∷ pieces)) intervals
all_in_more piece pieces [] inside = tt
all_in_more piece pieces (interval ∷ later) inside = (in_more piece pieces interval inside.0, all_in_more piece pieces later inside.1)

all_are_in : (pieces : List Piece) (intervals : List (List Piece)) → AreIn pieces intervals → AllByRecursion (IsIn pieces) intervals
all_are_in pieces [] inside = tt
all_are_in pieces (interval ∷ later) inside = (in_by_front pieces interval inside.0, inside.1)

onto_are_in : (piece : Piece) (pieces : List Piece) (intervals : List (List Piece)) → AreIn pieces intervals → AreIn (piece ∷ pieces) (onto_first piece intervals)
onto_are_in piece pieces [] inside = (record { after = pieces; stands = refl }, tt)
onto_are_in piece pieces (interval ∷ later) inside =
    (record { after = inside.0.after; stands = ap (λ these. piece ∷ these) inside.0.stands }, all_in_more piece pieces later inside.1)

are_in : (pieces : List Piece) → AreIn pieces (intervals_of pieces)
are_in [] = (record { after = []; stands = refl }, tt)
are_in (piece ∷ pieces) =
    elim (ends_statement piece.kind) as (λ end. AreIn (piece ∷ pieces) (cond end ([] ∷ intervals_of pieces) (onto_first piece (intervals_of pieces)))) [
      | true ↦ (record { after = piece ∷ pieces; stands = refl }, all_in_more piece pieces (intervals_of pieces) (all_are_in pieces (intervals_of pieces) (are_in pieces)))
      | false ↦ onto_are_in piece pieces (intervals_of pieces) (are_in pieces)
    ]

-- no piece of an interval ends a statement
abbrev IsWhole : List Piece → Type 0
IsWhole run = AllByRecursion (λ piece. ends_statement piece.kind ≡ false) run

onto_whole : (piece : Piece) (intervals : List (List Piece)) → ends_statement piece.kind ≡ false → AllByRecursion IsWhole intervals → AllByRecursion IsWhole (onto_first piece intervals)
onto_whole piece [] goes_on whole = ((goes_on, tt), tt)
onto_whole piece (interval ∷ later) goes_on whole = ((goes_on, whole.0), whole.1)

are_whole : (pieces : List Piece) → AllByRecursion IsWhole (intervals_of pieces)
are_whole [] = (tt, tt)
are_whole (piece ∷ pieces) = by_class (ends_statement piece.kind) refl (are_whole pieces)
  where
    by_class : (end : Bool) → ends_statement piece.kind ≡ end → AllByRecursion IsWhole (intervals_of pieces) → AllByRecursion IsWhole (cond end ([] ∷ intervals_of pieces) (onto_first piece (intervals_of pieces)))
    by_class true e whole = (tt, whole)
    by_class false e whole = onto_whole piece (intervals_of pieces) e whole

-- neither the first nor the last is a blank or a comment
abbrev BeginsWell : List Piece → Type 0
BeginsWell [] = Unit {0}
BeginsWell (first ∷ others) = is_space first.kind ≡ false

abbrev EndsWell : List Piece → Type 0
EndsWell [] = Unit {0}
EndsWell (first ∷ others) = is_space (last_of first others).kind ≡ false

begins_before : (pieces : List Piece) → BeginsWell (without_space_before pieces)
begins_before [] = tt
begins_before (piece ∷ pieces) = by_class (is_space piece.kind) refl (begins_before pieces)
  where
    by_class : (space : Bool) → is_space piece.kind ≡ space → BeginsWell (without_space_before pieces) → BeginsWell (cond space (without_space_before pieces) (piece ∷ pieces))
    by_class true e later = later
    by_class false e later = e

begins_with_others : (piece : Piece) (others : List Piece) → is_space piece.kind ≡ false → BeginsWell (before_others piece others)
begins_with_others piece [] word = rw word word
begins_with_others piece (next ∷ others) word = word

begins_after : (pieces : List Piece) → BeginsWell pieces → BeginsWell (without_space_after pieces)
begins_after [] begins = tt
begins_after (piece ∷ pieces) begins = begins_with_others piece (without_space_after pieces) begins

ends_with_others : (piece : Piece) (others : List Piece) → EndsWell others → EndsWell (before_others piece others)
ends_with_others piece [] ends = by_class (is_space piece.kind) refl
  where
    by_class : (space : Bool) → is_space piece.kind ≡ space → EndsWell (cond space [] (piece ∷ []))
    by_class true e = tt
    by_class false e = e
ends_with_others piece (next ∷ others) ends = ends

ends_after : (pieces : List Piece) → EndsWell (without_space_after pieces)
ends_after [] = tt
ends_after (piece ∷ pieces) = ends_with_others piece (without_space_after pieces) (ends_after pieces)

trimmed_begins : (interval : List Piece) → BeginsWell (trimmed interval)
unfolding trimmed
trimmed_begins interval = begins_after (without_space_before interval) (begins_before interval)

trimmed_ends : (interval : List Piece) → EndsWell (trimmed interval)
unfolding trimmed
trimmed_ends interval = ends_after (without_space_before interval)

-- what is trimmed stands in its interval
before_in : (pieces : List Piece) → IsIn pieces (without_space_before pieces)
before_in [] = record { before = []; after = []; stands = refl }
before_in (piece ∷ pieces) =
    elim (is_space piece.kind) as (λ space. IsIn (piece ∷ pieces) (cond space (without_space_before pieces) (piece ∷ pieces))) [
      | true ↦ in_more piece pieces (without_space_before pieces) (before_in pieces)
      | false ↦ record { before = []; after = []; stands = sym (append-nil (piece ∷ pieces)) }
    ]

front_with_others : (piece : Piece) (pieces others : List Piece) → IsFront pieces others → IsFront (piece ∷ pieces) (before_others piece others)
front_with_others piece pieces [] front =
    elim (is_space piece.kind) as (λ space. IsFront (piece ∷ pieces) (cond space [] (piece ∷ []))) [
      | true ↦ record { after = piece ∷ pieces; stands = refl }
      | false ↦ record { after = pieces; stands = refl }
    ]
front_with_others piece pieces (next ∷ others) front = record { after = front.after; stands = ap (λ these. piece ∷ these) front.stands }

after_front : (pieces : List Piece) → IsFront pieces (without_space_after pieces)
after_front [] = record { after = []; stands = refl }
after_front (piece ∷ pieces) = front_with_others piece pieces (without_space_after pieces) (after_front pieces)

trimmed_in : (interval : List Piece) → IsIn interval (trimmed interval)
unfolding trimmed
trimmed_in interval = front_in interval (without_space_before interval) (without_space_after (without_space_before interval)) (before_in interval) (after_front (without_space_before interval))

-- behind some pieces of a text the others are what is left of it
pub record IsLeft (whole : List ℕ) (pieces : List Piece) : Type 0 where
  pub start : ℕ
  pub divides : IsDivisionFrom start (drop start whole) pieces

left_behind : (whole : List ℕ) (start : ℕ) (before pieces : List Piece) → IsDivisionFrom start (drop start whole) (before ++ pieces) → IsLeft whole pieces
left_behind whole start [] pieces division = record { start = start; divides = division }
left_behind whole start (piece ∷ before) pieces (rest, text_is, start_is, piece_is, later) =
    let next = start + length piece.bytes in
    let rest_is : rest ≡ drop next whole = sym (front_rest (drop start whole) piece.bytes rest text_is) ∙ drop-drop (length piece.bytes) start whole in
    let Divides : List ℕ → Type 0 = λ these. IsDivisionFrom next these (before ++ pieces) in
    left_behind whole next before pieces (subst Divides rest_is later)

-- the bytes of a run stand in front of the text, up to where its last piece ends
pub record Spells (start : ℕ) (text : List ℕ) (first : Piece) (others : List Piece) : Type 0 where
  pub rest : List ℕ
  pub begins : first.start ≡ start
  pub stands : text ≡ flat_map (λ piece. piece.bytes) (first ∷ others) ++ rest
  pub ends : end_of_pieces first others ≡ start + length (flat_map (λ piece. piece.bytes) (first ∷ others))

spells : (start : ℕ) (text : List ℕ) (first : Piece) (others after : List Piece) → IsDivisionFrom start text (first ∷ (others ++ after)) → Spells start text first others
spells start text first [] after (rest, text_is, start_is, piece_is, later) = record {
  rest = rest;
  begins = start_is;
  stands = text_is ∙ ap (λ these. these ++ rest) (sym (append-nil first.bytes));
  ends = omega (arith, length-append first.bytes ([]));
}
spells start text first (next ∷ others) after (rest, text_is, start_is, piece_is, later) =
    let more = spells (start + length first.bytes) rest next others after later in
    let bytes = flat_map (λ piece. piece.bytes) (next ∷ others) in
    record {
      rest = more.rest;
      begins = start_is;
      stands = text_is ∙ ap (λ these. first.bytes ++ these) more.stands ∙ sym (append_assoc first.bytes bytes more.rest);
      ends = omega (arith, more.ends, length-append first.bytes bytes);
    }

part_spells : (source : List ℕ) (start : ℕ) (first : Piece) (others : List Piece) → Spells start (drop start source) first others → bytes_between source first.start (end_of_pieces first others) ≡ flat_map (λ piece. piece.bytes) (first ∷ others)
part_spells source start first others spelled =
    let bytes = flat_map (λ piece. piece.bytes) (first ∷ others) in
    let long : end_of_pieces first others - first.start ≡ length bytes = omega (arith, spelled.begins, spelled.ends) in
    ap (λ n. take n (drop first.start source)) long ∙ ap (λ k. take (length bytes) (drop k source)) spelled.begins ∙ ap (take (length bytes)) spelled.stands ∙ take-append_seam bytes spelled.rest

drop_none : (source : List ℕ) → source ≡ drop 0 source
drop_none [] = refl
drop_none (byte ∷ rest) = refl

run_spells : (source : List ℕ) (before : List Piece) (first : Piece) (others after : List Piece) → IsDivision source (pieces_of source) → pieces_of source ≡ before ++ (first ∷ others) ++ after
    → bytes_between source first.start (end_of_pieces first others) ≡ flat_map (λ piece. piece.bytes) (first ∷ others)
run_spells source before first others after division stands =
    let Front : List ℕ → Type 0 = λ these. IsDivisionFrom 0 these (pieces_of source) in
    let Divides : List Piece → Type 0 = λ these. IsDivisionFrom 0 (drop 0 source) these in
    let left = left_behind source 0 before ((first ∷ others) ++ after) (subst Divides (stands ∙ append_assoc before (first ∷ others) after) (subst Front (drop_none source) division)) in
    part_spells source left.start first others (spells left.start (drop left.start source) first others after left.divides)

-- where none is found too long it fits
fits_in : (source : List ℕ) (first : Piece) (others : List Piece) → long_found source (first ∷ others) ≡ None → own_length (first ∷ others) ≤ longest_statement
fits_in source first others none = by_test (nat_lt longest_statement (own_length (first ∷ others))) refl none
  where
    by_test : (long : Bool) → nat_lt longest_statement (own_length (first ∷ others)) ≡ long
        → cond long (Some (found_at first.start (StatementTooLong (line_of source first.start)))) None ≡ None → own_length (first ∷ others) ≤ longest_statement
    by_test true is some = cc
    by_test false is nothing = ltb-false longest_statement (own_length (first ∷ others)) is

none_of : (one other : Option Found) → option_or one other ≡ None → (one ≡ None) × (other ≡ None)
none_of None other none = (refl, none)
none_of (Some found) other none = cc

-- the statement of pieces that are such a run
one_run : (file : ℕ) (source : List ℕ) (kept : List Piece) (statements : List StatementAt) → IsDivision source (pieces_of source) → IsIn (pieces_of source) kept → IsWhole kept → BeginsWell kept → EndsWell kept → long_found source kept ≡ None
    → AllByRecursion (IsRun source) statements → AllByRecursion (IsRun source) (cons_option (statement_of file source kept) statements)
one_run file source [] statements division inside whole begins ends none later = later
one_run file source (first ∷ others) statements division inside whole begins ends none later = (
  record {
    before = inside.before;
    first = first;
    others = others;
    after = inside.after;
    stands = inside.stands;
    spells = run_spells source inside.before first others inside.after division inside.stands;
    line = refl;
    whole = All-from_recursion (λ piece. ends_statement piece.kind ≡ false) (first ∷ others) whole;
    begins = begins;
    ends = ends;
    fits = fits_in source first others none;
  },
  later,
)

all_runs : (file : ℕ) (source : List ℕ) (intervals : List (List Piece)) → IsDivision source (pieces_of source) → AllByRecursion (IsIn (pieces_of source)) intervals → AllByRecursion IsWhole intervals → first_long source intervals ≡ None
    → AllByRecursion (IsRun source) (filter_map (statement_in file source) intervals)
all_runs file source [] division inside whole none = tt
all_runs file source (interval ∷ later) division inside whole none =
    let fits = none_of (long_found source (trimmed interval)) (first_long source later) none in
    one_run file source (trimmed interval) (filter_map (statement_in file source) later) division (in_part (pieces_of source) interval (trimmed interval) inside.0 (trimmed_in interval))
    (in_trimmed (λ piece. ends_statement piece.kind ≡ false) interval whole.0) (trimmed_begins interval) (trimmed_ends interval) fits.0 (all_runs file source later division inside.1 whole.1 fits.1)

none_long : (source : List ℕ) (pieces : List Piece) → source_found source pieces ≡ None → first_long source (intervals_of pieces) ≡ None
unfolding source_found
none_long source pieces none =
    let long = first_long source (intervals_of pieces) in
    (neither_found (first_open source pieces) long (neither_found (nul_found source) (earlier (first_open source pieces) long) none).1).1

pub are_runs : ((text : List ℕ) → IsDivision text (pieces_of text)) → (file : ℕ) (source : List ℕ) → IfOk (statements_of file source) (All (IsRun source))
unfolding statements_of statements_in
are_runs division file source =
    let pieces = pieces_of source in
    let statements = filter_map (statement_in file source) (intervals_of pieces) in
    if_none_found (All (IsRun source)) (source_found source pieces) statements
    (λ none. All-from_recursion (IsRun source) statements (all_runs file source (intervals_of pieces) (division source) (all_are_in pieces (intervals_of pieces) (are_in pieces)) (are_whole pieces) (none_long source pieces none)))
