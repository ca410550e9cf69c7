-- Offsets in a source, in bytes from its beginning, and the lines that they stand on.
use Rattle.std.specs.Prelude.{ℕ, ◌+◌, ◌-◌, ◌^◌, min, List, [], ◌∷◌, length, take, drop, count_by}
use Rattle.asm_base.specs.ByteClasses.{is_feed}
use Rattle.asm_base.specs.Pieces.{Piece}

-- the highest number that is told of a line: later lines have it too
abbrev pub last_line : ℕ
last_line = 2 ^ 32 - 1

-- the line of an offset, counted from 1
unfoldable pub line_of : List ℕ → ℕ → ℕ
line_of source offset = min (1 + count_by is_feed (take offset source)) last_line

-- the offset behind a piece
abbrev pub end_of_piece : Piece → ℕ
end_of_piece piece = piece.start + length piece.bytes

-- the offset behind the last of these pieces
abbrev pub end_of_pieces : Piece → List Piece → ℕ
end_of_pieces piece [] = end_of_piece piece
end_of_pieces piece (next ∷ others) = end_of_pieces next others

-- the part of a source between two offsets
abbrev pub bytes_between : List ℕ → ℕ → ℕ → List ℕ
bytes_between source from to = take (to - from) (drop from source)
