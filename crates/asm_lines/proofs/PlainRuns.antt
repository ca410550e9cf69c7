-- A run of bytes that are pieces of their own is scanned as one piece.
use Rattle.std.proofs.Common.{◌≡◌, ℕ, zero, suc, ◌+◌, ◌<◌, ◌≤◌, Bool, true, false, not, cond, ◌&&◌, ◌||◌, ◌==◌, List, [], ◌∷◌, get_or, take, drop, min, Option, Some, None, refl, sym, ap, subst, ◌∙◌, arith}
use Rattle.std.specs.Prelude.{count_by}
use Rattle.std.specs.List.{prefix_len}
use Rattle.std.specs.Option.{option_or}
use Rattle.std.proofs.lemmas.List.{drop-drop, drop_more}
use Rattle.std.proofs.lemmas.List.Sums.{prefix_len_passes, prefix_len-le-length, sum_by-cons}
use Rattle.asm_base.specs.ByteClasses.{is_feed, is_blank}
use Rattle.asm_base.specs.Pieces.{Piece}
use Rattle.asm_base.specs.Dividing.{is_plain, piece_kind, piece_length}
use Rattle.asm_base.specs.declared.pieces.PieceKind.{PieceKind}
use Rattle.asm_base.specs.declared.pieces.PieceKind.TheVariants.{Other}
use Rattle.asm_lines.specs.declared.faults.Found.{Found}
use Rattle.asm_lines.specs.declared.intervals.Scan.{Scan}
use Rattle.asm_lines.specs.declared.intervals.Span.{Span}
use Rattle.asm_lines.specs.LineNumbers.{line_of, last_line}
use Rattle.asm_lines.specs.Scan.{first_interval, later_pieces, pieces_at, plain_run, scan_of, scanned, with_piece}
use Rattle.asm_lines.proofs.Pieces.{later_more, line_more, scan_more}
use Rattle.asm_lines.proofs.PlainBytes.{plain_kind}

not_feed : (feed b c d e f g h : Bool) → not (feed || b || c || d || e || f || g || h) ≡ true → feed ≡ false
not_feed true b c d e f g h plain = cc
not_feed false b c d e f g h plain = refl

plain_is_no_feed : (byte : ℕ) → is_plain byte ≡ true → is_feed byte ≡ false
unfolding is_plain
plain_is_no_feed byte plain = not_feed (is_feed byte) (byte == 59) (is_blank byte) (byte == 13) (byte == 35) (byte == 47) (byte == 39) (byte == 34) plain

-- no line ends in a run
no_feeds : (n : ℕ) (bytes : List ℕ) → n ≤ prefix_len is_plain bytes → count_by is_feed (take n bytes) ≡ 0
no_feeds zero bytes run = refl
no_feeds (suc n) [] run = refl
no_feeds (suc n) (byte ∷ rest) run = by_class (is_plain byte) refl run (no_feeds n rest)
  where
    by_class : (plain : Bool) → is_plain byte ≡ plain → suc n ≤ cond plain (1 + prefix_len is_plain rest) 0 → (n ≤ prefix_len is_plain rest → count_by is_feed (take n rest) ≡ 0) → count_by is_feed (byte ∷ take n rest) ≡ 0
    by_class true e run later = sum_by-cons (λ b. cond (is_feed b) 1 0) byte (take n rest) ∙ ap (λ b. cond b 1 0 + count_by is_feed (take n rest)) (plain_is_no_feed byte e) ∙ omega (arith, later (omega arith))
    by_class false e run later = absurd (omega arith)

line_is_told : (source : List ℕ) (at line : ℕ) → line ≡ line_of source at → line ≡ min (line + 0) last_line
unfolding line_of
line_is_told source at line line_is = omega arith

pub line_of_run : (source : List ℕ) (at n line : ℕ) → n ≤ prefix_len is_plain (drop at source) → line ≡ line_of source at → line ≡ line_of source (at + n)
line_of_run source at n line run line_is =
    line_more source at n line line line_is (line_is_told source at line line_is ∙ ap (λ feeds. min (line + feeds) last_line) (sym (no_feeds n (drop at source) run)))

-- two runs are one
or_nones : (one : Option Found) → option_or (option_or one None) None ≡ option_or one None
or_nones None = refl
or_nones (Some found) = refl

span_joined : (span : Option Span) (at m line other : ℕ) → with_piece (with_piece span (plain_run at m line)) (plain_run (at + m) 1 other) ≡ with_piece span (plain_run at (m + 1) line)
span_joined None at m line other =
    let e : at + m + 1 ≡ at + (m + 1) = omega arith in
    rw e refl
span_joined (Some span) at m line other =
    let e : at + m + 1 ≡ at + (m + 1) = omega arith in
    let p : span.passed + m + 1 ≡ span.passed + (m + 1) = omega arith in
    rw (e, p) refl

joined : (scan : Scan) (at m line other : ℕ) → scanned (scanned scan (plain_run at m line)) (plain_run (at + m) 1 other) ≡ scanned scan (plain_run at (m + 1) line)
joined scan at m line other = rw (span_joined scan.span at m line other, or_nones scan.unclosed) refl

-- the byte behind so many of a run
front_of_run : (source : List ℕ) (at m : ℕ) → m < prefix_len is_plain (drop at source) → drop (at + m) source ≡ get_or (drop at source) m 0 ∷ drop (m + 1) (drop at source)
front_of_run source at m run = sym (drop-drop m at source) ∙ drop_more (drop at source) m 0 (omega (arith, prefix_len-le-length is_plain (drop at source)))

one_of_run : (source : List ℕ) (at m line : ℕ) (scan whole : Scan) → m < prefix_len is_plain (drop at source) → line ≡ line_of source (at + m)
    → scan_of source scan (first_interval (pieces_at source (at + m))) ≡ whole → scan_of source (scanned scan (plain_run (at + m) 1 line)) (first_interval (pieces_at source (at + m + 1))) ≡ whole
unfolding piece_length
one_of_run source at m line scan whole run line_is before =
    let byte = get_or (drop at source) m 0 in
    let rest = drop (m + 1) (drop at source) in
    let kind = sym (plain_kind byte rest (prefix_len_passes is_plain (drop at source) m 0 run)) in
    scan_more source (at + m) byte rest 1 line Other scan (scanned scan (plain_run (at + m) 1 line)) whole (front_of_run source at m run) refl (omega arith) (omega arith) kind line_is refl refl before

later_of_run : (source : List ℕ) (at m : ℕ) (whole : List Piece) → m < prefix_len is_plain (drop at source)
    → later_pieces (pieces_at source (at + m)) ≡ whole → later_pieces (pieces_at source (at + m + 1)) ≡ whole
unfolding piece_length
later_of_run source at m whole run before =
    let byte = get_or (drop at source) m 0 in
    let rest = drop (m + 1) (drop at source) in
    let kind = sym (plain_kind byte rest (prefix_len_passes is_plain (drop at source) m 0 run)) in
    later_more source (at + m) byte rest 1 Other whole (front_of_run source at m run) refl (omega arith) kind refl before

-- a whole run
scan_run : (n : ℕ) (source : List ℕ) (at line : ℕ) (scan whole : Scan) → suc n ≤ prefix_len is_plain (drop at source) → line ≡ line_of source at
    → scan_of source scan (first_interval (pieces_at source at)) ≡ whole → scan_of source (scanned scan (plain_run at (suc n) line)) (first_interval (pieces_at source (at + suc n))) ≡ whole
scan_run zero source at line scan whole run line_is before =
    let here : at + 0 ≡ at = omega arith in
    let next : at + 1 ≡ at + suc zero = omega arith in
    let From : ℕ → Type 0 = λ k. scan_of source scan (first_interval (pieces_at source k)) ≡ whole in
    let To : ℕ → Type 0 = λ k. scan_of source (scanned scan (plain_run k 1 line)) (first_interval (pieces_at source (k + 1))) ≡ whole in
    subst To here (one_of_run source at 0 line scan whole (omega arith) (line_is ∙ ap (line_of source) (sym here)) (subst From (sym here) before))
scan_run (suc n) source at line scan whole run line_is before =
    let more = one_of_run source at (suc n) line (scanned scan (plain_run at (suc n) line)) whole (omega arith) (line_of_run source at (suc n) line (omega arith) line_is) (scan_run n source at line scan whole (omega arith) line_is before) in
    let count : suc n + 1 ≡ suc (suc n) = omega arith in
    let next : at + suc n + 1 ≡ at + suc (suc n) = omega arith in
    ap (λ k. scan_of source (scanned scan (plain_run at k line)) (first_interval (pieces_at source (at + suc (suc n))))) (sym count)
    ∙ ap (λ known. scan_of source known (first_interval (pieces_at source (at + suc (suc n))))) (sym (joined scan at (suc n) line line))
    ∙ ap (λ k. scan_of source (scanned (scanned scan (plain_run at (suc n) line)) (plain_run (at + suc n) 1 line)) (first_interval (pieces_at source k))) (sym next)
    ∙ more

later_run : (n : ℕ) (source : List ℕ) (at : ℕ) (whole : List Piece) → n ≤ prefix_len is_plain (drop at source)
    → later_pieces (pieces_at source at) ≡ whole → later_pieces (pieces_at source (at + n)) ≡ whole
later_run zero source at whole run before = let here : at + 0 ≡ at = omega arith in ap (λ k. later_pieces (pieces_at source k)) here ∙ before
later_run (suc n) source at whole run before =
    let next : at + suc n ≡ at + n + 1 = omega arith in
    ap (λ k. later_pieces (pieces_at source k)) next ∙ later_of_run source at n whole (omega arith) (later_run n source at whole (omega arith) before)

pub scan_plain : (source : List ℕ) (at n line : ℕ) (scan new whole : Scan) → 0 < n → n ≡ prefix_len is_plain (drop at source) → line ≡ line_of source at → new ≡ scanned scan (plain_run at n line)
    → scan_of source scan (first_interval (pieces_at source at)) ≡ whole → scan_of source new (first_interval (pieces_at source (at + n))) ≡ whole
scan_plain source at zero line scan new whole some run line_is new_is before = absurd (omega arith)
scan_plain source at (suc n) line scan new whole some run line_is new_is before =
    ap (λ known. scan_of source known (first_interval (pieces_at source (at + suc n)))) new_is ∙ scan_run n source at line scan whole (omega arith) line_is before

pub later_plain : (source : List ℕ) (at n : ℕ) (whole : List Piece) → n ≡ prefix_len is_plain (drop at source)
    → later_pieces (pieces_at source at) ≡ whole → later_pieces (pieces_at source (at + n)) ≡ whole
later_plain source at n whole run before = later_run n source at whole (omega arith) before
