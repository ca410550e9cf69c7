-- How many labels and plain bytes pieces bring.
use Rattle.std.specs.Prelude.{◌≡◌, ℕ, ◌+◌, ◌≤◌, List, [], ◌∷◌, length}
use Rattle.asm_base.specs.declared.positions.Pos.{Pos}
use Rattle.asm_frags.specs.Fields.{width}
use Rattle.table_pieces.specs.declared.ends.SectionEnd.{SectionEnd}
use Rattle.table_pieces.specs.Ends.{behind_pieces}
use Rattle.table_pieces.specs.Pieces as put
use Rattle.table_pieces.specs.Pieces.{Piece, Tables, pieces_put}

-- how many labels a piece brings at most
abbrev pub labels_in : Piece → ℕ
labels_in (put.plain bytes) = 0
labels_in (put.number distance) = 2
labels_in (put.pointer place) = 2
labels_in (put.address place) = 1
labels_in (put.field size form) = 0
labels_in (put.advance distance) = 2
labels_in (put.leb128 distance) = 2
labels_in (put.padding log) = 0

-- how many plain bytes a piece has
abbrev pub bytes_in : Piece → ℕ
bytes_in (put.plain bytes) = length bytes
bytes_in (put.number distance) = 4
bytes_in (put.pointer place) = 4
bytes_in (put.address place) = 8
bytes_in (put.field size form) = width size
bytes_in (put.advance distance) = 0
bytes_in (put.leb128 distance) = 0
bytes_in (put.padding log) = 0

-- how many labels pieces bring at most
abbrev pub labels_of : List Piece → ℕ
labels_of [] = 0
labels_of (piece ∷ pieces) = labels_in piece + labels_of pieces

-- how many plain bytes pieces have
abbrev pub bytes_of : List Piece → ℕ
bytes_of [] = 0
bytes_of (piece ∷ pieces) = bytes_in piece + bytes_of pieces

-- so it is of all pieces
pub record PiecesAreCounted : Type 0 where
  pub labels : (section : ℕ) (pos : Pos) (pieces : List Piece) (tables : Tables)
      → length (pieces_put section pos pieces tables).symbols.symbols ≤ length tables.symbols.symbols + labels_of pieces
  pub bytes : (pieces : List Piece) (end : SectionEnd) → (behind_pieces pieces end).bytes ≡ end.bytes + bytes_of pieces
