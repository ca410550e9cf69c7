-- What a source is refused for: the first of its faults in order of place.
use Rattle.std.specs.Prelude.{ℕ, ◌^◌, ◌==◌, List, [], ◌∷◌, length, nat_lt, if◌then◌else◌, Option, Some, None}
use Rattle.std.specs.List.{position_or_len}
use Rattle.std.specs.Option.{option_or}
use Rattle.asm_base.specs.Pieces.{Piece}
use Rattle.asm_base.specs.declared.pieces.PieceKind.{PieceKind}
use Rattle.asm_base.specs.declared.pieces.PieceKind.TheVariants.{OpenString, OpenComment}
use Rattle.asm_lines.specs.declared.faults.LineCause.{LineCause}
use Rattle.asm_lines.specs.declared.faults.LineCause.TheVariants.{NulByte, UnclosedString, UnclosedComment, StatementTooLong}
use Rattle.asm_lines.specs.declared.faults.Found.{Found}
use Rattle.asm_lines.specs.LineNumbers.{line_of}
use Rattle.asm_lines.specs.Intervals.{intervals_of, trimmed, own_length}

-- the most bytes that a statement has
abbrev pub longest_statement : ℕ
longest_statement = 2 ^ 16

-- a fault at an offset
abbrev pub found_at : ℕ → LineCause → Found
found_at offset fault = record { offset = offset; fault = fault }

-- of two faults the one that stands first, and of two at one place the first of these two
abbrev pub earlier : Option Found → Option Found → Option Found
earlier None other = other
earlier (Some one) None = Some one
earlier (Some one) (Some other) = Some (if nat_lt other.offset one.offset then other else one)

-- the offset of the first byte 0, or the length
abbrev pub nul_offset : List ℕ → ℕ
nul_offset source = position_or_len (λ byte. byte == 0) source

-- the first byte 0
unfoldable pub nul_found : List ℕ → Option Found
nul_found source =
    if nat_lt (nul_offset source) (length source) then Some (found_at (nul_offset source) (NulByte (line_of source (nul_offset source)))) else None

-- a string or a comment that does not close, where it begins
abbrev pub open_by : List ℕ → PieceKind → ℕ → Option Found
open_by source OpenString start = Some (found_at start (UnclosedString (line_of source start)))
open_by source OpenComment start = Some (found_at start (UnclosedComment (line_of source start)))
open_by source _ start = None

-- the fault of a piece that does not close
abbrev pub open_found : List ℕ → Piece → Option Found
open_found source piece = open_by source piece.kind piece.start

-- the first string or comment that does not close
abbrev pub first_open : List ℕ → List Piece → Option Found
first_open source [] = None
first_open source (piece ∷ pieces) = option_or (open_found source piece) (first_open source pieces)

-- a statement that is too long, where it begins
abbrev pub long_found : List ℕ → List Piece → Option Found
long_found source [] = None
long_found source (first ∷ others) =
    if nat_lt longest_statement (own_length (first ∷ others)) then Some (found_at first.start (StatementTooLong (line_of source first.start))) else None

-- the first statement that is too long
abbrev pub first_long : List ℕ → List (List Piece) → Option Found
first_long source [] = None
first_long source (interval ∷ later) =
    option_or (long_found source (trimmed interval)) (first_long source later)

-- the first fault of a source that has these pieces, in order of place
unfoldable pub source_found : List ℕ → List Piece → Option Found
source_found source pieces =
    earlier (nul_found source) (earlier (first_open source pieces) (first_long source (intervals_of pieces)))
