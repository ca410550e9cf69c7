-- What is known of an interval once all its pieces are read.
use Rattle.std.proofs.Common.{◌≡◌, ℕ, ◌+◌, ◌≤◌, Bool, true, false, cond, List, [], ◌∷◌, length, Option, Some, None, refl, sym, ap, ◌∙◌, arith, add_assoc, add-zero}
use Rattle.std.specs.Option.{option_or}
use Rattle.asm_base.specs.Pieces.{Piece, is_comment, is_space}
use Rattle.asm_base.specs.declared.pieces.PieceKind.{PieceKind}
use Rattle.asm_base.specs.declared.pieces.PieceKind.TheVariants.{LineFeed, Semicolon, Blank, LineComment, BlockComment, OpenComment, Character, String, OpenString, Other}
use Rattle.asm_lines.specs.declared.faults.Found.{Found}
use Rattle.asm_lines.specs.declared.intervals.PieceAt.{PieceAt}
use Rattle.asm_lines.specs.declared.intervals.Span.{Span}
use Rattle.asm_lines.specs.declared.intervals.Scan.{Scan}
use Rattle.asm_lines.specs.Intervals.{before_others, own_bytes, own_length, trimmed, without_space_after, without_space_before}
use Rattle.asm_lines.specs.LineNumbers.{end_of_pieces, end_of_piece}
use Rattle.asm_lines.specs.Faults.{first_open, open_by, long_found, earlier}
use Rattle.asm_lines.specs.Statements.{statement_of, statement_in}
use Rattle.asm_lines.specs.Scan.{EndsBy, begun, extended, found_by_scan, interval_found, long_by_span, nothing_scanned, own_by, piece_at, scan_of, statement_by_span, unclosed_by, with_piece}

own_within : (comment : Bool) (n : ℕ) → cond comment 0 n ≤ n
own_within true n = omega arith
own_within false n = omega arith

ends_extended : (space : Bool) (b l e o passed at n own : ℕ) → b ≤ e → e ≤ at → own ≤ n → passed ≤ at
    → (let kept : Span = record { begin = b; line = l; end = e; own = o; passed = passed + own } in let more : Span = record { begin = b; line = l; end = at + n; own = passed + own; passed = passed + own } in EndsBy (at + n) (Some (cond space kept more)))
ends_extended true b l e o passed at n own begins ends fits before = (begins, omega arith, omega arith)
ends_extended false b l e o passed at n own begins ends fits before = (omega arith, omega arith, omega arith)

-- a span ends by the end of the last piece
pub ends_with_piece : (span : Option Span) (piece : PieceAt) → EndsBy piece.start span → EndsBy (piece.start + piece.length) (with_piece span piece)
ends_with_piece None piece before = elim (is_space piece.kind) as (λ b. EndsBy (piece.start + piece.length) (cond b None (Some (begun piece)))) [ true ↦ tt | false ↦ (omega arith, omega arith, omega arith) ]
ends_with_piece (Some span) piece before =
    ends_extended (is_space piece.kind) span.begin span.line span.end span.own span.passed piece.start piece.length (own_by piece) before.0 before.1 (own_within (is_comment piece.kind) piece.length) before.2

pub ends_later : (early late : ℕ) (span : Option Span) → early ≤ late → EndsBy early span → EndsBy late span
ends_later early late None later ends = tt
ends_later early late (Some span) later ends = (ends.0, omega (arith, ends.1), omega (arith, ends.2))

-- what does not close, of a piece as it is piece_at
same_open : (source : List ℕ) (kind : PieceKind) (piece : Piece) → unclosed_by kind (piece_at source piece) ≡ open_by source kind piece.start
same_open source LineFeed piece = refl
same_open source Semicolon piece = refl
same_open source Blank piece = refl
same_open source LineComment piece = refl
same_open source BlockComment piece = refl
same_open source OpenComment piece = refl
same_open source Character piece = refl
same_open source String piece = refl
same_open source OpenString piece = refl
same_open source Other piece = refl

or_assoc : (a b c : Option Found) → option_or (option_or a b) c ≡ option_or a (option_or b c)
or_assoc None b c = refl
or_assoc (Some found) b c = refl

or_none : (a : Option Found) → option_or a None ≡ a
or_none None = refl
or_none (Some found) = refl

-- what does not close in an interval
unclosed_of : (source : List ℕ) (scan : Scan) (pieces : List Piece) → (scan_of source scan pieces).unclosed ≡ option_or scan.unclosed (first_open source pieces)
unfolding scan_of
unclosed_of source scan [] = sym (or_none scan.unclosed)
unclosed_of source scan (piece ∷ pieces) =
    unclosed_of source (Rattle.asm_lines.specs.Scan.scanned scan (piece_at source piece)) pieces
    ∙ or_assoc scan.unclosed (unclosed_by piece.kind (piece_at source piece)) (first_open source pieces)
    ∙ ap (λ one. option_or scan.unclosed (option_or one (first_open source pieces))) (same_open source piece.kind piece)

-- where the pieces end, behind this offset
ends_behind : ℕ → List Piece → ℕ
ends_behind end [] = end
ends_behind end (piece ∷ pieces) = end_of_pieces piece pieces

-- how long the statement is with the pieces
own_behind : ℕ → ℕ → List Piece → ℕ
own_behind own passed [] = own
own_behind own passed (piece ∷ pieces) = passed + own_length (piece ∷ pieces)

-- the span that these pieces make behind what was passed
abbrev grown : Span → List Piece → ℕ → Span
grown span kept passed = record { begin = span.begin; line = span.line; end = ends_behind span.end kept; own = own_behind span.own span.passed kept; passed = passed }

space_end : (piece : Piece) (kept : List Piece) (end : ℕ) → is_space piece.kind ≡ true → ends_behind end kept ≡ ends_behind end (before_others piece kept)
unfolding ends_behind
space_end piece [] end space = rw space refl
space_end piece (next ∷ others) end space = refl

space_own : (piece : Piece) (kept : List Piece) (own passed : ℕ) → is_space piece.kind ≡ true → own_behind own (passed + own_bytes piece) kept ≡ own_behind own passed (before_others piece kept)
unfolding own_behind
space_own piece [] own passed space = rw space refl
space_own piece (next ∷ others) own passed space = add_assoc passed (own_bytes piece) (own_length (next ∷ others))

word_end : (piece : Piece) (kept : List Piece) (end : ℕ) → is_space piece.kind ≡ false → ends_behind (end_of_piece piece) kept ≡ ends_behind end (before_others piece kept)
unfolding ends_behind
word_end piece [] end word = rw word refl
word_end piece (next ∷ others) end word = refl

word_own : (piece : Piece) (kept : List Piece) (own passed : ℕ) → is_space piece.kind ≡ false → own_behind (passed + own_bytes piece) (passed + own_bytes piece) kept ≡ own_behind own passed (before_others piece kept)
unfolding own_behind
word_own piece [] own passed word = rw word (omega arith)
word_own piece (next ∷ others) own passed word = add_assoc passed (own_bytes piece) (own_length (next ∷ others))

same_grown : (space : Bool) (source : List ℕ) (span : Span) (piece : Piece) (kept : List Piece) (rest : ℕ) → is_space piece.kind ≡ space
    → grown (extended span (piece_at source piece)) kept ((extended span (piece_at source piece)).passed + rest) ≡ grown span (before_others piece kept) (span.passed + (own_bytes piece + rest))
same_grown true source span piece kept rest e =
    rw (e, space_end piece kept span.end e, space_own piece kept span.own span.passed e, add_assoc) refl
same_grown false source span piece kept rest e =
    rw (e, word_end piece kept span.end e, word_own piece kept span.own span.passed e, add_assoc) refl

-- a statement that has begun, with the pieces behind
extended_of : (source : List ℕ) (span : Span) (unclosed : Option Found) (pieces : List Piece)
    → (let scan : Scan = record { span = Some span; unclosed = unclosed } in (scan_of source scan pieces).span ≡ Some (grown span (without_space_after pieces) (span.passed + own_length pieces)))
unfolding scan_of ends_behind own_behind
extended_of source span unclosed [] = rw add-zero refl
extended_of source span unclosed (piece ∷ pieces) =
    extended_of source (extended span (piece_at source piece)) (option_or unclosed (unclosed_by piece.kind (piece_at source piece))) pieces
    ∙ ap Some (same_grown (is_space piece.kind) source span piece (without_space_after pieces) (own_length pieces) refl)

-- the span of the pieces from the first that is no blank and no comment
span_of : List ℕ → List Piece → Option Span
span_of source [] = None
span_of source (piece ∷ pieces) = Some (grown (begun (piece_at source piece)) (without_space_after pieces) (length piece.bytes + own_length pieces))

begun_of : (source : List ℕ) (unclosed : Option Found) (pieces : List Piece)
    → (let scan : Scan = record { span = None; unclosed = unclosed } in (scan_of source scan pieces).span ≡ span_of source (without_space_before pieces))
unfolding scan_of span_of
begun_of source unclosed [] = refl
begun_of source unclosed (piece ∷ pieces) =
    let with : Bool → Scan = λ space. record { span = cond space None (Some (begun (piece_at source piece))); unclosed = option_or unclosed (unclosed_by piece.kind (piece_at source piece)) } in
    let before : Bool → List Piece = λ space. cond space (without_space_before pieces) (piece ∷ pieces) in
    elim (is_space piece.kind) as (λ space. (scan_of source (with space) pieces).span ≡ span_of source (before space)) [
      | true ↦ begun_of source (option_or unclosed (unclosed_by piece.kind (piece_at source piece))) pieces
      | false ↦ extended_of source (begun (piece_at source piece)) (option_or unclosed (unclosed_by piece.kind (piece_at source piece))) pieces
    ]

-- what is no blank and no comment is no comment
word_own_bytes : (kind : PieceKind) (n : ℕ) → is_space kind ≡ false → cond (is_comment kind) 0 n ≡ n
word_own_bytes LineFeed n word = refl
word_own_bytes Semicolon n word = refl
word_own_bytes Blank n word = cc
word_own_bytes LineComment n word = cc
word_own_bytes BlockComment n word = cc
word_own_bytes OpenComment n word = cc
word_own_bytes Character n word = refl
word_own_bytes String n word = refl
word_own_bytes OpenString n word = refl
word_own_bytes Other n word = refl

-- the pieces from the first that is no blank and no comment begin with it
begins_with_word : (pieces : List Piece) (first : Piece) (others : List Piece) → without_space_before pieces ≡ first ∷ others → is_space first.kind ≡ false
begins_with_word [] first others front = cc
begins_with_word (piece ∷ pieces) first others front = by_class (is_space piece.kind) refl (begins_with_word pieces first others)
  where
    by_class : (space : Bool) → is_space piece.kind ≡ space → (without_space_before pieces ≡ first ∷ others → is_space first.kind ≡ false) → is_space first.kind ≡ false
    by_class true e later = later (rw e at front)
    by_class false e later = let same : piece ∷ pieces ≡ first ∷ others = rw e at front in let heads : piece ≡ first = cc in ap (λ p. is_space p.kind) (sym heads) ∙ e

word_kept : (piece : Piece) (kept : List Piece) → is_space piece.kind ≡ false → before_others piece kept ≡ piece ∷ kept
word_kept piece [] word = rw word refl
word_kept piece (next ∷ others) word = refl

behind_end : (piece : Piece) (kept : List Piece) → ends_behind (end_of_piece piece) kept ≡ end_of_pieces piece kept
unfolding ends_behind
behind_end piece [] = refl
behind_end piece (next ∷ others) = refl

behind_own : (piece : Piece) (kept : List Piece) → is_space piece.kind ≡ false → own_behind (length piece.bytes) (length piece.bytes) kept ≡ own_length (piece ∷ kept)
unfolding own_behind
behind_own piece [] word = rw (word_own_bytes piece.kind (length piece.bytes) word) (omega arith)
behind_own piece (next ∷ others) word = rw (word_own_bytes piece.kind (length piece.bytes) word) refl

-- the statement and its length, by the span
span_statement : (file : ℕ) (source : List ℕ) (first : Piece) (others : List Piece) → is_space first.kind ≡ false
    → statement_by_span file source (span_of source (first ∷ others)) ≡ statement_of file source (without_space_after (first ∷ others))
unfolding span_of
span_statement file source first others word =
    rw (word_kept first (without_space_after others) word, behind_end first (without_space_after others)) refl

span_long : (source : List ℕ) (first : Piece) (others : List Piece) → is_space first.kind ≡ false
    → long_by_span (span_of source (first ∷ others)) ≡ long_found source (without_space_after (first ∷ others))
unfolding span_of
span_long source first others word =
    rw (word_kept first (without_space_after others) word, behind_own first (without_space_after others) word) refl

span_statement_of : (file : ℕ) (source : List ℕ) (pieces : List Piece) → ((first : Piece) (others : List Piece) → pieces ≡ first ∷ others → is_space first.kind ≡ false)
    → statement_by_span file source (span_of source pieces) ≡ statement_of file source (without_space_after pieces)
unfolding span_of
span_statement_of file source [] word = refl
span_statement_of file source (first ∷ others) word = span_statement file source first others (word first others refl)

span_long_of : (source : List ℕ) (pieces : List Piece) → ((first : Piece) (others : List Piece) → pieces ≡ first ∷ others → is_space first.kind ≡ false)
    → long_by_span (span_of source pieces) ≡ long_found source (without_space_after pieces)
unfolding span_of
span_long_of source [] word = refl
span_long_of source (first ∷ others) word = span_long source first others (word first others refl)

-- the statement of an interval, by what is known of it
pub scanned_statement : (file : ℕ) (source : List ℕ) (interval : List Piece) → statement_by_span file source (scan_of source nothing_scanned interval).span ≡ statement_in file source interval
unfolding trimmed
scanned_statement file source interval =
    ap (statement_by_span file source) (begun_of source None interval) ∙ span_statement_of file source (without_space_before interval) (begins_with_word interval)

-- the fault of an interval, by what is known of it
pub scanned_fault : (source : List ℕ) (interval : List Piece) → found_by_scan (scan_of source nothing_scanned interval) ≡ interval_found source interval
unfolding trimmed
scanned_fault source interval =
    ap (λ unclosed. earlier unclosed (long_by_span (scan_of source nothing_scanned interval).span)) (unclosed_of source nothing_scanned interval)
    ∙ ap (λ span. earlier (first_open source interval) (long_by_span span)) (begun_of source None interval)
    ∙ ap (earlier (first_open source interval)) (span_long_of source (without_space_before interval) (begins_with_word interval))
