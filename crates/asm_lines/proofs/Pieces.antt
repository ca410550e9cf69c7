-- One piece comes off the front of what is left of a source.
use Rattle.std.proofs.Common.{◌≡◌, ℕ, zero, suc, ◌+◌, ◌-◌, ◌<◌, ◌≤◌, true, false, cond, List, [], ◌∷◌, length, take, drop, min, refl, sym, ap, ◌∙◌, arith, add-zero}
use Rattle.std.specs.Prelude.{count_by}
use Rattle.std.proofs.lemmas.List.{drop-drop, drop_all, length-take}
use Rattle.std.proofs.Math.Seq.{take-add}  -- the first n + m: the first n, then the first m of the rest
use Rattle.std.proofs.lemmas.List.Sums.{sum_by-append}
use Rattle.asm_base.specs.ByteClasses.{is_feed}
use Rattle.asm_base.specs.Pieces.{Piece, ends_statement}
use Rattle.asm_base.specs.Dividing.{piece_kind, piece_length, pieces_from, first_piece}
use Rattle.asm_base.specs.declared.pieces.PieceKind.{PieceKind}
use Rattle.asm_lines.specs.LineNumbers.{line_of, last_line}
use Rattle.asm_lines.specs.Scan.{pieces_at, first_interval, later_pieces, piece_at, scanned, scan_of}
use Rattle.asm_lines.specs.declared.intervals.PieceAt.{PieceAt}
use Rattle.asm_lines.specs.declared.intervals.Scan.{Scan}

-- the bytes that are left out are those of the piece before
pieces_from-drop : (left_out start : ℕ) (bytes : List ℕ) → pieces_from left_out start bytes ≡ pieces_from 0 (start + left_out) (drop left_out bytes)
unfolding pieces_from
pieces_from-drop zero start bytes = rw add-zero
pieces_from-drop (suc n) start [] = refl
pieces_from-drop (suc n) start (byte ∷ rest) =
    let e : suc start + n ≡ start + suc n = omega arith in
    pieces_from-drop n (suc start) rest ∙ ap (λ k. pieces_from 0 k (drop n rest)) e

-- the first piece, and those behind it
pub one_off : (source : List ℕ) (at first : ℕ) (rest : List ℕ) (n : ℕ) → drop at source ≡ first ∷ rest → n ≡ piece_length (piece_kind first rest) rest → 0 < n
    → pieces_at source at ≡ first_piece at first rest ∷ pieces_at source (at + n)
unfolding pieces_from
one_off source at first rest n front n_is some =
    let whole : suc (n - 1) ≡ n = omega arith in
    let left : drop (at + n) source ≡ drop (n - 1) rest = ap (λ k. drop (at + k) source) (sym whole) ∙ sym (drop-drop (suc (n - 1)) at source) ∙ ap (drop (suc (n - 1))) front in
    let offset : suc at + (n - 1) ≡ at + n = omega arith in
    let later : pieces_from (n - 1) (suc at) rest ≡ pieces_at source (at + n) =
    pieces_from-drop (n - 1) (suc at) rest ∙ ap (λ k. pieces_from 0 k (drop (n - 1) rest)) offset ∙ ap (pieces_from 0 (at + n)) (sym left) in
    rw (← later, front, ← n_is) refl

pub none_off : (source : List ℕ) (at : ℕ) → length source ≤ at → pieces_at source at ≡ []
unfolding pieces_from
none_off source at past = ap (pieces_from 0 at) (drop_all at source past)

-- the first piece as it is piece_at by the code
piece_at_off : (source : List ℕ) (at first : ℕ) (rest : List ℕ) (n line : ℕ) (kind : PieceKind) → n ≡ piece_length (piece_kind first rest) rest → n ≤ 1 + length rest → kind ≡ piece_kind first rest → line ≡ line_of source at
    → (let there : PieceAt = record { kind = kind; start = at; length = n; line = line } in piece_at source (first_piece at first rest) ≡ there)
piece_at_off source at first rest n line kind n_is within kind_is line_is =
    let long : length (take (piece_length (piece_kind first rest) rest) (first ∷ rest)) ≡ n = omega (arith, length-take (piece_length (piece_kind first rest) rest) (first ∷ rest)) in
    rw (long, kind_is, line_is) refl

-- what is known with one piece more that is none at the end of a statement
pub scan_more : (source : List ℕ) (at first : ℕ) (rest : List ℕ) (n line : ℕ) (kind : PieceKind) (scan new whole : Scan) → drop at source ≡ first ∷ rest → n ≡ piece_length kind rest → 0 < n → n ≤ 1 + length rest → kind ≡ piece_kind first rest → line ≡ line_of source at
    → ends_statement kind ≡ false → (let there : PieceAt = record { kind = kind; start = at; length = n; line = line } in new ≡ scanned scan there)
    → scan_of source scan (first_interval (pieces_at source at)) ≡ whole → scan_of source new (first_interval (pieces_at source (at + n))) ≡ whole
unfolding scan_of
scan_more source at first rest n line kind scan new whole front n_is some within kind_is line_is goes_on new_is before =
    let n_is_of = n_is ∙ ap (λ k. piece_length k rest) kind_is in
    let off = one_off source at first rest n front n_is_of some in
    let open_end : ends_statement (piece_kind first rest) ≡ false = ap ends_statement (sym kind_is) ∙ goes_on in
    let interval : first_interval (pieces_at source at) ≡ first_piece at first rest ∷ first_interval (pieces_at source (at + n)) = rw (off, open_end) refl in
    let there = piece_at_off source at first rest n line kind n_is_of within kind_is line_is in
    let known : scanned scan (piece_at source (first_piece at first rest)) ≡ new = ap (scanned scan) there ∙ sym new_is in
    ap (λ s. scan_of source s (first_interval (pieces_at source (at + n)))) (sym known) ∙ sym (ap (scan_of source scan) interval) ∙ before

pub later_more : (source : List ℕ) (at first : ℕ) (rest : List ℕ) (n : ℕ) (kind : PieceKind) (whole : List Piece) → drop at source ≡ first ∷ rest → n ≡ piece_length kind rest → 0 < n → kind ≡ piece_kind first rest
    → ends_statement kind ≡ false → later_pieces (pieces_at source at) ≡ whole → later_pieces (pieces_at source (at + n)) ≡ whole
later_more source at first rest n kind whole front n_is some kind_is goes_on before =
    let off = one_off source at first rest n front (n_is ∙ ap (λ k. piece_length k rest) kind_is) some in
    let open_end : ends_statement (piece_kind first rest) ≡ false = ap ends_statement (sym kind_is) ∙ goes_on in
    let same : later_pieces (pieces_at source at) ≡ later_pieces (pieces_at source (at + n)) = rw (off, open_end) refl in
    sym same ∙ before

-- at the end of a statement
pub scan_ends : (source : List ℕ) (at first : ℕ) (rest : List ℕ) (n : ℕ) (kind : PieceKind) (scan whole : Scan) → drop at source ≡ first ∷ rest → n ≡ piece_length kind rest → 0 < n → kind ≡ piece_kind first rest
    → ends_statement kind ≡ true → scan_of source scan (first_interval (pieces_at source at)) ≡ whole → scan ≡ whole
unfolding scan_of
scan_ends source at first rest n kind scan whole front n_is some kind_is stops before =
    let off = one_off source at first rest n front (n_is ∙ ap (λ k. piece_length k rest) kind_is) some in
    let end : ends_statement (piece_kind first rest) ≡ true = ap ends_statement (sym kind_is) ∙ stops in
    let nothing : first_interval (pieces_at source at) ≡ [] = rw (off, end) refl in
    sym (ap (scan_of source scan) nothing) ∙ before

pub later_ends : (source : List ℕ) (at first : ℕ) (rest : List ℕ) (n : ℕ) (kind : PieceKind) (whole : List Piece) → drop at source ≡ first ∷ rest → n ≡ piece_length kind rest → 0 < n → kind ≡ piece_kind first rest
    → ends_statement kind ≡ true → later_pieces (pieces_at source at) ≡ whole → pieces_at source (at + n) ≡ whole
later_ends source at first rest n kind whole front n_is some kind_is stops before =
    let off = one_off source at first rest n front (n_is ∙ ap (λ k. piece_length k rest) kind_is) some in
    let end : ends_statement (piece_kind first rest) ≡ true = ap ends_statement (sym kind_is) ∙ stops in
    let same : later_pieces (pieces_at source at) ≡ pieces_at source (at + n) = rw (off, end) refl in
    sym same ∙ before

-- at the end of the source
pub scan_at_end : (source : List ℕ) (at : ℕ) (scan whole : Scan) → length source ≤ at → scan_of source scan (first_interval (pieces_at source at)) ≡ whole → scan ≡ whole
unfolding scan_of
scan_at_end source at scan whole past before = sym (ap (λ ps. scan_of source scan (first_interval ps)) (none_off source at past)) ∙ before

pub later_at_end : (source : List ℕ) (at : ℕ) (whole : List Piece) → length source ≤ at → later_pieces (pieces_at source at) ≡ whole → pieces_at source at ≡ whole
later_at_end source at whole past before = none_off source at past ∙ sym (ap later_pieces (none_off source at past)) ∙ before

-- the line of a later offset
pub line_more : (source : List ℕ) (at n line there : ℕ) → line ≡ line_of source at → there ≡ min (line + count_by is_feed (take n (drop at source))) last_line → there ≡ line_of source (at + n)
unfolding line_of
line_more source at n line there line_is there_is =
    let both : count_by is_feed (take (at + n) source) ≡ count_by is_feed (take at source) + count_by is_feed (take n (drop at source)) = ap (count_by is_feed) (take-add at n source) ∙ sum_by-append (λ byte. cond (is_feed byte) 1 0) (take at source) (take n (drop at source)) in
    omega arith
