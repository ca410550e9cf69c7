-- The statements and the first fault of a source, from those of its first interval and those of what is left.
use Rattle.std.proofs.Common.{◌≡◌, ℕ, ◌≤◌, Bool, true, false, cond, List, [], ◌∷◌, ◌++◌, length, drop, Option, Some, None, Result, Ok, Err, refl, sym, ap, subst, ◌∙◌, append_assoc, ◌⊎◌, inl, inr}
use Rattle.std.specs.List.{filter_map, cons_option, onto_first}
use Rattle.std.specs.Option.{option_or, option_to_list}
use Rattle.std.proofs.lemmas.List.{append-nil}
use Rattle.std.proofs.Common.{◌<◌, arith, ltb}
use Rattle.std.proofs.lemmas.Bool.{le-ltb, lt-ltb}
use Rattle.std.specs.List.{AllByRecursion}
use Rattle.asm_base.specs.Pieces.{Piece, IsDivision, ends_statement}
use Rattle.asm_base.specs.Dividing.{pieces_of}
use Rattle.asm_base.specs.declared.refusals.Refusal.{Refusal}
use Rattle.asm_base.specs.Refusals.{Returns}
use Rattle.asm_lines.specs.declared.faults.LineCause.{LineCause}
use Rattle.asm_lines.specs.declared.faults.Found.{Found}
use Rattle.asm_lines.specs.Intervals.{intervals_of, trimmed}
use Rattle.asm_base.specs.declared.pieces.PieceKind.{PieceKind}
use Rattle.asm_base.specs.declared.pieces.PieceKind.TheVariants.{LineFeed, Semicolon, Blank, LineComment, BlockComment, OpenComment, Character, String, OpenString, Other}
use Rattle.asm_lines.specs.Faults.{earlier, first_long, first_open, long_found, nul_found, open_by, open_found, source_found}
use Rattle.asm_lines.specs.Statements.{StatementAt, statement_in, statements_in, statements_of, unless_found}
use Rattle.asm_lines.specs.Scan.{first_interval, interval_found, later_pieces, pieces_at}
use Rattle.asm_lines.proofs.Order.{all_in, first_long_at, first_open_at, in_order, long_found_at, neither_found}
use Rattle.asm_lines.proofs.Pieces.{none_off}

-- the first interval, and those behind it; no piece behind it is no interval
split_more : (pieces : List Piece) → (intervals_of pieces ≡ first_interval pieces ∷ intervals_of (later_pieces pieces)) ⊎ ((intervals_of pieces ≡ first_interval pieces ∷ []) × (later_pieces pieces ≡ []))
split_more [] = inr (refl, refl)
split_more (piece ∷ pieces) = by_class (ends_statement piece.kind) (split_more pieces)
  where
    by_class : (end : Bool) → (intervals_of pieces ≡ first_interval pieces ∷ intervals_of (later_pieces pieces)) ⊎ ((intervals_of pieces ≡ first_interval pieces ∷ []) × (later_pieces pieces ≡ []))
        → (cond end ([] ∷ intervals_of pieces) (onto_first piece (intervals_of pieces)) ≡ cond end [] (piece ∷ first_interval pieces) ∷ intervals_of (cond end pieces (later_pieces pieces)))
        ⊎ ((cond end ([] ∷ intervals_of pieces) (onto_first piece (intervals_of pieces)) ≡ cond end [] (piece ∷ first_interval pieces) ∷ []) × (cond end pieces (later_pieces pieces) ≡ []))
    by_class true later = inl refl
    by_class false (inl same) = inl (ap (onto_first piece) same)
    by_class false (inr both) = inr (ap (onto_first piece) both.0, both.1)

-- a piece that ends a statement is none that does not close
end_closes : (source : List ℕ) (kind : PieceKind) (start : ℕ) → ends_statement kind ≡ true → open_by source kind start ≡ None
end_closes source LineFeed start end = refl
end_closes source Semicolon start end = refl
end_closes source Blank start end = cc
end_closes source LineComment start end = cc
end_closes source BlockComment start end = cc
end_closes source OpenComment start end = cc
end_closes source Character start end = cc
end_closes source String start end = cc
end_closes source OpenString start end = cc
end_closes source Other start end = cc

or_assoc : (a b c : Option Found) → option_or (option_or a b) c ≡ option_or a (option_or b c)
or_assoc None b c = refl
or_assoc (Some found) b c = refl

pub open_more : (source : List ℕ) (pieces : List Piece) → first_open source pieces ≡ option_or (first_open source (first_interval pieces)) (first_open source (later_pieces pieces))
open_more source [] = refl
open_more source (piece ∷ pieces) = by_class (ends_statement piece.kind) refl (open_more source pieces)
  where
    by_class : (end : Bool) → ends_statement piece.kind ≡ end → first_open source pieces ≡ option_or (first_open source (first_interval pieces)) (first_open source (later_pieces pieces))
        → first_open source (piece ∷ pieces) ≡ option_or (first_open source (cond end [] (piece ∷ first_interval pieces))) (first_open source (cond end pieces (later_pieces pieces)))
    by_class true e later = ap (λ one. option_or one (first_open source pieces)) (end_closes source piece.kind piece.start e)
    by_class false e later = ap (option_or (open_found source piece)) later ∙ sym (or_assoc (open_found source piece) (first_open source (first_interval pieces)) (first_open source (later_pieces pieces)))

-- nothing is no statement
pub long_more : (source : List ℕ) (pieces : List Piece) → first_long source (intervals_of pieces) ≡ option_or (long_found source (trimmed (first_interval pieces))) (first_long source (intervals_of (later_pieces pieces)))
unfolding trimmed
long_more source pieces = by_end (split_more pieces)
  where
    by_end : (intervals_of pieces ≡ first_interval pieces ∷ intervals_of (later_pieces pieces)) ⊎ ((intervals_of pieces ≡ first_interval pieces ∷ []) × (later_pieces pieces ≡ []))
        → first_long source (intervals_of pieces) ≡ option_or (long_found source (trimmed (first_interval pieces))) (first_long source (intervals_of (later_pieces pieces)))
    by_end (inl same) = ap (first_long source) same
    by_end (inr both) = ap (first_long source) both.0 ∙ sym (ap (λ later. option_or (long_found source (trimmed (first_interval pieces))) (first_long source (intervals_of later))) both.1)

pub statements_more : (file : ℕ) (source : List ℕ) (pieces : List Piece) → filter_map (statement_in file source) (intervals_of pieces) ≡ cons_option (statement_in file source (first_interval pieces)) (filter_map (statement_in file source) (intervals_of (later_pieces pieces)))
unfolding trimmed
statements_more file source pieces = by_end (split_more pieces)
  where
    by_end : (intervals_of pieces ≡ first_interval pieces ∷ intervals_of (later_pieces pieces)) ⊎ ((intervals_of pieces ≡ first_interval pieces ∷ []) × (later_pieces pieces ≡ []))
        → filter_map (statement_in file source) (intervals_of pieces) ≡ cons_option (statement_in file source (first_interval pieces)) (filter_map (statement_in file source) (intervals_of (later_pieces pieces)))
    by_end (inl same) = ap (filter_map (statement_in file source)) same
    by_end (inr both) = ap (filter_map (statement_in file source)) both.0 ∙ sym (ap (λ later. cons_option (statement_in file source (first_interval pieces)) (filter_map (statement_in file source) (intervals_of later))) both.1)

behind : (done : List StatementAt) (one : Option StatementAt) (later : List StatementAt) → done ++ cons_option one later ≡ (done ++ option_to_list one) ++ later
behind done None later = ap (λ these. these ++ later) (sym (append-nil done))
behind done (Some statement) later = sym (append_assoc done (statement ∷ []) later)

-- the statements behind a first interval
pub statements_step : (file : ℕ) (source : List ℕ) (at next : ℕ) (done new whole : List StatementAt) (found : Option StatementAt)
    → pieces_at source next ≡ later_pieces (pieces_at source at) → found ≡ statement_in file source (first_interval (pieces_at source at)) → new ≡ done ++ option_to_list found
    → done ++ filter_map (statement_in file source) (intervals_of (pieces_at source at)) ≡ whole
    → new ++ filter_map (statement_in file source) (intervals_of (pieces_at source next)) ≡ whole
statements_step file source at next done new whole found later found_is new_is before =
    let rest = filter_map (statement_in file source) (intervals_of (later_pieces (pieces_at source at))) in
    rw (new_is, found_is, later) (sym (behind done (statement_in file source (first_interval (pieces_at source at))) rest) ∙ ap (λ these. done ++ these) (sym (statements_more file source (pieces_at source at))) ∙ before)

-- no fault in the first interval
pub open_step : (source : List ℕ) (at next : ℕ) (whole : Option Found) → pieces_at source next ≡ later_pieces (pieces_at source at) → interval_found source (first_interval (pieces_at source at)) ≡ None
    → first_open source (pieces_at source at) ≡ whole → first_open source (pieces_at source next) ≡ whole
open_step source at next whole later none before =
    ap (first_open source) later ∙ sym (open_more source (pieces_at source at) ∙ ap (λ one. option_or one (first_open source (later_pieces (pieces_at source at)))) (neither_found _ _ none).0) ∙ before

pub long_step : (source : List ℕ) (at next : ℕ) (whole : Option Found) → pieces_at source next ≡ later_pieces (pieces_at source at) → interval_found source (first_interval (pieces_at source at)) ≡ None
    → first_long source (intervals_of (pieces_at source at)) ≡ whole → first_long source (intervals_of (pieces_at source next)) ≡ whole
long_step source at next whole later none before =
    ap (λ pieces. first_long source (intervals_of pieces)) later ∙ sym (long_more source (pieces_at source at) ∙ ap (λ one. option_or one (first_long source (intervals_of (later_pieces (pieces_at source at))))) (neither_found _ _ none).1) ∙ before

-- a fault in the first interval stands before all that are later
first_of_all : (unclosed later_open long later_long : Option Found) (found : Found)
    → ((one other : Found) → unclosed ≡ Some one → later_long ≡ Some other → one.offset < other.offset)
    → ((one other : Found) → long ≡ Some one → later_open ≡ Some other → one.offset < other.offset)
    → earlier unclosed long ≡ Some found → earlier (option_or unclosed later_open) (option_or long later_long) ≡ Some found
first_of_all None later_open None later_long found open_first long_first is = cc
first_of_all (Some one) later_open (Some other) later_long found open_first long_first is = is
first_of_all (Some one) later_open None None found open_first long_first is = is
first_of_all (Some one) later_open None (Some other) found open_first long_first is =
    let behind : ltb other.offset one.offset ≡ false = le-ltb other.offset one.offset (omega (arith, open_first one other refl refl)) in
    ap (λ b. Some (cond b other one)) behind ∙ is
first_of_all None None (Some one) later_long found open_first long_first is = is
first_of_all None (Some other) (Some one) later_long found open_first long_first is =
    let before : ltb one.offset other.offset ≡ true = lt-ltb one.offset other.offset (long_first one other refl refl) in
    ap (λ b. Some (cond b one other)) before ∙ is

pub found_stop : (source : List ℕ) (at : ℕ) (found : Found) (unclosed long : Option Found) → interval_found source (first_interval (pieces_at source at)) ≡ Some found
    → first_open source (pieces_at source at) ≡ unclosed → first_long source (intervals_of (pieces_at source at)) ≡ long → earlier unclosed long ≡ Some found
found_stop source at found unclosed long some open_is long_is =
    let pieces = pieces_at source at in
    let rises = in_order 0 at (drop at source) in
    ap (λ one. earlier one long) (sym open_is) ∙ ap (earlier (first_open source pieces)) (sym long_is)
    ∙ ap (λ one. earlier one (first_long source (intervals_of pieces))) (open_more source pieces)
    ∙ ap (earlier (option_or (first_open source (first_interval pieces)) (first_open source (later_pieces pieces)))) (long_more source pieces)
    ∙ first_of_all _ _ _ _ found
    (λ one other one_is other_is. first_long_at source (λ n. one.offset < n) (intervals_of (later_pieces pieces)) other (all_in (λ p. one.offset < p.start) (later_pieces pieces) (first_open_at source (λ n. AllByRecursion (λ q. n < q.start) (later_pieces pieces)) (first_interval pieces) one rises one_is)) other_is)
    (λ one other one_is other_is. first_open_at source (λ n. one.offset < n) (later_pieces pieces) other (long_found_at source (λ n. AllByRecursion (λ q. n < q.start) (later_pieces pieces)) (first_interval pieces) one rises one_is) other_is)
    some

-- nothing is left
pub open_end : (source : List ℕ) (at : ℕ) (whole : Option Found) → length source ≤ at → first_open source (pieces_at source at) ≡ whole → whole ≡ None
open_end source at whole past before = sym before ∙ ap (first_open source) (none_off source at past)

pub long_end : (source : List ℕ) (at : ℕ) (whole : Option Found) → length source ≤ at → first_long source (intervals_of (pieces_at source at)) ≡ whole → whole ≡ None
unfolding trimmed
long_end source at whole past before = sym before ∙ ap (λ pieces. first_long source (intervals_of pieces)) (none_off source at past)

pub no_found : (unclosed long : Option Found) → unclosed ≡ None → long ≡ None → earlier unclosed long ≡ None
no_found unclosed long none no_long = ap (λ one. earlier one long) none ∙ no_long

pub statements_end : (file : ℕ) (source : List ℕ) (at : ℕ) (done whole : List StatementAt) → length source ≤ at → done ++ filter_map (statement_in file source) (intervals_of (pieces_at source at)) ≡ whole → whole ≡ done
unfolding trimmed
statements_end file source at done whole past before = sym before ∙ ap (λ pieces. done ++ filter_map (statement_in file source) (intervals_of pieces)) (none_off source at past) ∙ append-nil done

-- the answer, by the first fault and the statements
pub answer_err : (file : ℕ) (source : List ℕ) (found : Found) (fault : Option Found) → earlier (first_open source (pieces_of source)) (first_long source (intervals_of (pieces_of source))) ≡ fault
    → earlier (nul_found source) fault ≡ Some found → statements_of file source ≡ Err found.fault
unfolding statements_of statements_in source_found
answer_err file source found fault same some =
    ap (λ one. unless_found (earlier (nul_found source) one) (filter_map (statement_in file source) (intervals_of (pieces_of source)))) same
    ∙ ap (λ one. unless_found one (filter_map (statement_in file source) (intervals_of (pieces_of source)))) some

pub answer_ok : (file : ℕ) (source : List ℕ) (done : List StatementAt) → earlier (first_open source (pieces_of source)) (first_long source (intervals_of (pieces_of source))) ≡ None
    → nul_found source ≡ None → filter_map (statement_in file source) (intervals_of (pieces_of source)) ≡ done → statements_of file source ≡ Ok done
unfolding statements_of statements_in source_found
answer_ok file source done none no_nul same =
    ap (λ one. unless_found (earlier (nul_found source) one) (filter_map (statement_in file source) (intervals_of (pieces_of source)))) none
    ∙ ap (λ one. unless_found (earlier one None) (filter_map (statement_in file source) (intervals_of (pieces_of source)))) no_nul ∙ ap Ok same

-- what is wanted of the computed division is wanted of every division
pub by_grammar : (file : ℕ) (source : List ℕ) (answer : Result (List StatementAt) (Refusal LineCause)) → ((text : List ℕ) (pieces : List Piece) → IsDivision text pieces → pieces ≡ pieces_of text)
    → Returns answer (statements_of file source) → (pieces : List Piece) → IsDivision source pieces → Returns answer (statements_in file source pieces)
unfolding statements_of
by_grammar file source answer only value pieces division = let Wanted : List Piece → Type 0 = λ these. Returns answer (statements_in file source these) in subst Wanted (sym (only source pieces division)) value
