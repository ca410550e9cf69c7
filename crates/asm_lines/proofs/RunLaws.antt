-- What holds of all statements of a source: their lines do not fall, and no byte of theirs is 0.
use Rattle.std.proofs.Common.{◌≡◌, ◌≢◌, ℕ, zero, suc, ◌+◌, ◌-◌, ◌<◌, ◌≤◌, Bool, true, false, cond, List, [], ◌∷◌, length, take, drop, All, Option, Some, None, IfOk, refl, arith, ap, ◌∙◌, sym, nat_lt, ◌==◌}
use Rattle.std.specs.Prelude.{count_by}
use Rattle.std.specs.List.{AllByRecursion, cons_option, filter_map, onto_first}
use Rattle.std.proofs.Math.ListN.{get_or}
use Rattle.std.proofs.lemmas.Bool.{eqb-false, ltb-false}
use Rattle.std.proofs.lemmas.List.Elements.{All-drop, All-from_recursion, All-take}
use Rattle.std.proofs.lemmas.List.Kept.{AllPairs-cons}
use Rattle.std.proofs.lemmas.List.Sums.{fails_before_first, sum_by-append}
use Rattle.std.proofs.Math.Seq.{take-add}  -- the first n + m: the first n, then the first m of the rest
use Rattle.asm_base.specs.ByteClasses.{is_feed}
use Rattle.asm_base.specs.Pieces.{Piece, ends_statement}
use Rattle.asm_base.specs.Dividing.{first_piece, piece_kind, piece_length, pieces_from, pieces_of}
use Rattle.asm_lines.specs.declared.faults.Found.{Found}
use Rattle.asm_lines.specs.declared.faults.LineCause.TheVariants.{NulByte}
use Rattle.asm_lines.specs.LineNumbers.{end_of_pieces, line_of, bytes_between}
use Rattle.asm_lines.specs.Intervals.{intervals_of, trimmed}
use Rattle.asm_lines.specs.Faults.{earlier, first_long, first_open, found_at, nul_found, nul_offset, source_found}
use Rattle.asm_lines.specs.Statements.{StatementAt, statement_in, statement_of, statements_in, statements_of, unless_found}
use Rattle.asm_lines.specs.Laws.{HasNoNul, LinesNeverFall}
use Rattle.asm_lines.proofs.Order.{all_in, each_weaker, from_start, in_trimmed, neither_found}

-- where no fault is found, what holds of the statements holds of the answer
pub if_none_found : (P : List StatementAt → Type 0) (found : Option Found) (statements : List StatementAt) → (found ≡ None → P statements) → IfOk (unless_found found statements) P
if_none_found P None statements holds = holds refl
if_none_found P (Some found) statements holds = tt

-- the pieces of each interval begin before those of all later ones
abbrev pub Rising : List (List Piece) → Type 0
Rising [] = Unit {0}
Rising (interval ∷ later) = AllByRecursion (λ piece. AllByRecursion (AllByRecursion (λ other. piece.start < other.start)) later) interval × Rising later

onto_rising : (piece : Piece) (intervals : List (List Piece)) → AllByRecursion (AllByRecursion (λ other. piece.start < other.start)) intervals → Rising intervals → Rising (onto_first piece intervals)
onto_rising piece [] behind rises = ((tt, tt), tt)
onto_rising piece (interval ∷ later) behind rises = ((behind.1, rises.0), rises.1)

rising : (left_out start : ℕ) (bytes : List ℕ) → Rising (intervals_of (pieces_from left_out start bytes))
unfolding pieces_from
rising left_out start [] = (tt, tt)
rising (suc n) start (byte ∷ rest) = rising n (suc start) rest
rising zero start (byte ∷ rest) =
    let n = piece_length (piece_kind byte rest) rest - 1 in
    let pieces = pieces_from n (suc start) rest in
    let piece = first_piece start byte rest in
    elim (ends_statement (piece_kind byte rest)) as (λ end. Rising (cond end ([] ∷ intervals_of pieces) (onto_first piece (intervals_of pieces)))) [
      | true ↦ (tt, rising n (suc start) rest)
      | false ↦ onto_rising piece (intervals_of pieces) (all_in (λ other. start < other.start) pieces (each_weaker (λ other. suc start ≤ other.start) (λ other. start < other.start) (λ other h. omega arith) pieces (from_start n (suc start) rest))) (rising n (suc start) rest)
    ]

-- a later offset stands on no earlier line
line_rises : (source : List ℕ) (early late : ℕ) → early ≤ late → line_of source early ≤ line_of source late
unfolding line_of
line_rises source early late before =
    let whole : early + (late - early) ≡ late = omega arith in
    let both : count_by is_feed (take late source) ≡ count_by is_feed (take early source) + count_by is_feed (take (late - early) (drop early source)) =
    ap (λ n. count_by is_feed (take n source)) (sym whole) ∙ ap (count_by is_feed) (take-add early (late - early) source) ∙ sum_by-append (λ byte. cond (is_feed byte) 1 0) (take early source) (take (late - early) (drop early source)) in
    omega arith

-- the statements of intervals behind an offset stand on no earlier line
one_later : (file : ℕ) (source : List ℕ) (start : ℕ) (kept : List Piece) (statements : List StatementAt) → AllByRecursion (λ piece. start < piece.start) kept
    → AllByRecursion (λ statement. line_of source start ≤ statement.line) statements → AllByRecursion (λ statement. line_of source start ≤ statement.line) (cons_option (statement_of file source kept) statements)
one_later file source start [] statements behind later = later
one_later file source start (first ∷ others) statements behind later = (line_rises source start first.start (omega (arith, behind.0)), later)

all_later : (file : ℕ) (source : List ℕ) (start : ℕ) (intervals : List (List Piece)) → AllByRecursion (AllByRecursion (λ piece. start < piece.start)) intervals
    → AllByRecursion (λ statement. line_of source start ≤ statement.line) (filter_map (statement_in file source) intervals)
all_later file source start [] behind = tt
all_later file source start (interval ∷ later) behind =
    one_later file source start (trimmed interval) (filter_map (statement_in file source) later) (in_trimmed (λ piece. start < piece.start) interval behind.0) (all_later file source start later behind.1)

one_before : (file : ℕ) (source : List ℕ) (kept : List Piece) (later : List (List Piece)) → AllByRecursion (λ piece. AllByRecursion (AllByRecursion (λ other. piece.start < other.start)) later) kept
    → LinesNeverFall (filter_map (statement_in file source) later) → LinesNeverFall (cons_option (statement_of file source kept) (filter_map (statement_in file source) later))
one_before file source [] later behind rises = rises
one_before file source (first ∷ others) later behind rises =
    let statement : StatementAt = record { file = file; line = line_of source first.start; bytes = bytes_between source first.start (end_of_pieces first others) } in
    AllPairs-cons (λ one other. one.line ≤ other.line) statement (filter_map (statement_in file source) later)
    (All-from_recursion (λ other. statement.line ≤ other.line) (filter_map (statement_in file source) later) (all_later file source first.start later behind.0)) rises

lines_rise : (file : ℕ) (source : List ℕ) (intervals : List (List Piece)) → Rising intervals → LinesNeverFall (filter_map (statement_in file source) intervals)
lines_rise file source [] rises = λ i j d before within. absurd (omega arith)
lines_rise file source (interval ∷ later) rises =
    one_before file source (trimmed interval) later (in_trimmed (λ piece. AllByRecursion (AllByRecursion (λ other. piece.start < other.start)) later) interval rises.0) (lines_rise file source later rises.1)

pub never_fall : (file : ℕ) (source : List ℕ) → IfOk (statements_of file source) LinesNeverFall
unfolding statements_of statements_in
never_fall file source =
    if_none_found LinesNeverFall (source_found source (pieces_of source)) (filter_map (statement_in file source) (intervals_of (pieces_of source))) (λ none. lines_rise file source (intervals_of (pieces_of source)) (rising 0 0 source))

-- where no byte 0 is found there is none
past_end : (source : List ℕ) → nul_found source ≡ None → length source ≤ nul_offset source
unfolding nul_found
past_end source none = by_test (nat_lt (nul_offset source) (length source)) refl none
  where
    by_test : (within : Bool) → nat_lt (nul_offset source) (length source) ≡ within → cond within (Some (found_at (nul_offset source) (NulByte (line_of source (nul_offset source))))) None ≡ None → length source ≤ nul_offset source
    by_test true is some = cc
    by_test false is nothing = ltb-false (nul_offset source) (length source) is

no_nul_in : (source : List ℕ) → nul_found source ≡ None → All (λ byte. byte ≢ 0) source
no_nul_in source none = λ k d within. eqb-false (get_or source k d) 0 (fails_before_first (λ byte. byte == 0) source k d (omega (arith, past_end source none)))

one_no_nul : (file : ℕ) (source : List ℕ) (kept : List Piece) (statements : List StatementAt) → All (λ byte. byte ≢ 0) source → AllByRecursion HasNoNul statements → AllByRecursion HasNoNul (cons_option (statement_of file source kept) statements)
one_no_nul file source [] statements none later = later
one_no_nul file source (first ∷ others) statements none later =
    (All-take (λ byte. byte ≢ 0) (end_of_pieces first others - first.start) (drop first.start source) (All-drop (λ byte. byte ≢ 0) first.start source none), later)

all_no_nul : (file : ℕ) (source : List ℕ) (intervals : List (List Piece)) → All (λ byte. byte ≢ 0) source → AllByRecursion HasNoNul (filter_map (statement_in file source) intervals)
all_no_nul file source [] none = tt
all_no_nul file source (interval ∷ later) none = one_no_nul file source (trimmed interval) (filter_map (statement_in file source) later) none (all_no_nul file source later none)

nul_found_none : (source : List ℕ) (pieces : List Piece) → source_found source pieces ≡ None → nul_found source ≡ None
unfolding source_found
nul_found_none source pieces none = (neither_found (nul_found source) (earlier (first_open source pieces) (first_long source (intervals_of pieces))) none).0

pub have_no_nul : (file : ℕ) (source : List ℕ) → IfOk (statements_of file source) (All HasNoNul)
unfolding statements_of statements_in
have_no_nul file source =
    let pieces = pieces_of source in
    let statements = filter_map (statement_in file source) (intervals_of pieces) in
    if_none_found (All HasNoNul) (source_found source pieces) statements (λ none. All-from_recursion HasNoNul statements (all_no_nul file source (intervals_of pieces) (no_nul_in source (nul_found_none source pieces none))))
