-- What is known of an interval as its pieces are read one after the other.
use Rattle.std.specs.Prelude.{ℕ, ◌+◌, ◌≤◌, length, List, [], ◌∷◌, fold, drop, nat_lt, if◌then◌else◌, Option, Some, None}
use Rattle.std.specs.Option.{option_or}
use Rattle.asm_base.specs.Pieces.{Piece, ends_statement, is_comment, is_space}
use Rattle.asm_base.specs.declared.pieces.PieceKind.{PieceKind}
use Rattle.asm_base.specs.declared.pieces.PieceKind.TheVariants.{OpenString, OpenComment, Other}
use Rattle.asm_base.specs.Dividing.{pieces_from}
use Rattle.asm_lines.specs.declared.faults.Found.{Found}
use Rattle.asm_lines.specs.declared.faults.LineCause.TheVariants.{UnclosedString, UnclosedComment, StatementTooLong}
use Rattle.asm_lines.specs.declared.intervals.PieceAt.{PieceAt}
use Rattle.asm_lines.specs.declared.intervals.Span.{Span}
use Rattle.asm_lines.specs.declared.intervals.Scan.{Scan}
use Rattle.asm_lines.specs.LineNumbers.{line_of, bytes_between}
use Rattle.asm_lines.specs.Intervals.{trimmed}
use Rattle.asm_lines.specs.Faults.{longest_statement, found_at, earlier, first_open, long_found}
use Rattle.asm_lines.specs.Statements.{StatementAt}

-- the pieces from an offset on
abbrev pub pieces_at : List ℕ → ℕ → List Piece
pieces_at source offset = pieces_from 0 offset (drop offset source)

-- those of the first interval
abbrev pub first_interval : List Piece → List Piece
first_interval [] = []
first_interval (piece ∷ pieces) =
    if ends_statement piece.kind then [] else (piece ∷ first_interval pieces)

-- those behind the end of the first interval
abbrev pub later_pieces : List Piece → List Piece
later_pieces [] = []
later_pieces (piece ∷ pieces) = if ends_statement piece.kind then pieces else later_pieces pieces

-- what is known before the first piece of an interval
abbrev pub nothing_scanned : Scan
nothing_scanned = record { span = None; unclosed = None }

-- the piece where it stands in the source
abbrev pub piece_at : List ℕ → Piece → PieceAt
piece_at source piece =
    record { kind = piece.kind; start = piece.start; length = length piece.bytes; line = line_of source piece.start }

-- a run of pieces of one byte each, as one
abbrev pub plain_run : ℕ → ℕ → ℕ → PieceAt
plain_run start length line = record { kind = Other; start = start; length = length; line = line }

-- how many bytes the piece adds to its statement
abbrev pub own_by : PieceAt → ℕ
own_by piece = if is_comment piece.kind then 0 else piece.length

-- the fault of a piece that does not close, by its class
abbrev pub unclosed_by : PieceKind → PieceAt → Option Found
unclosed_by OpenString piece = Some (found_at piece.start (UnclosedString piece.line))
unclosed_by OpenComment piece = Some (found_at piece.start (UnclosedComment piece.line))
unclosed_by _ piece = None

-- the span of a statement that begins with this piece
abbrev pub begun : PieceAt → Span
begun piece =
    record { begin = piece.start; line = piece.line; end = piece.start + piece.length; own = piece.length; passed = piece.length }

-- the span with one piece more, which its end and its length take in unless it is a blank or a comment
abbrev pub extended : Span → PieceAt → Span
extended span piece =
    let passed = span.passed + own_by piece in
    if is_space piece.kind then record { begin = span.begin; line = span.line; end = span.end; own = span.own; passed = passed }
    else record { begin = span.begin; line = span.line; end = piece.start + piece.length; own = passed; passed = passed }

-- the span, if a statement began, with one piece more
abbrev pub with_piece : Option Span → PieceAt → Option Span
with_piece None piece = if is_space piece.kind then None else Some (begun piece)
with_piece (Some span) piece = Some (extended span piece)

-- what is known with one piece more
abbrev pub scanned : Scan → PieceAt → Scan
scanned scan piece =
    record { span = with_piece scan.span piece; unclosed = option_or scan.unclosed (unclosed_by piece.kind piece) }

-- what is known with these pieces more
unfoldable pub scan_of : List ℕ → Scan → List Piece → Scan
scan_of source scan pieces = fold (λ known piece. scanned known (piece_at source piece)) scan pieces

-- the fault of a span of more than 65536 bytes
abbrev pub long_by_span : Option Span → Option Found
long_by_span None = None
long_by_span (Some span) =
    if nat_lt longest_statement span.own then Some (found_at span.begin (StatementTooLong span.line)) else None

-- what a scanned interval is refused for: the earlier of its two faults
abbrev pub found_by_scan : Scan → Option Found
found_by_scan scan = earlier scan.unclosed (long_by_span scan.span)

-- what an interval is refused for
abbrev pub interval_found : List ℕ → List Piece → Option Found
interval_found source interval =
    earlier (first_open source interval) (long_found source (trimmed interval))

-- the statement of a scanned interval
abbrev pub statement_by_span : ℕ → List ℕ → Option Span → Option StatementAt
statement_by_span file source None = None
statement_by_span file source (Some span) =
    Some (record { file = file; line = span.line; bytes = bytes_between source span.begin span.end })

-- the span ends before this offset
abbrev pub EndsBy : ℕ → Option Span → Type 0
EndsBy offset None = Unit {0}
EndsBy offset (Some span) = (span.begin ≤ span.end) × (span.end ≤ offset) × (span.passed ≤ offset)
