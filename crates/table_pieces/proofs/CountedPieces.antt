-- The labels and the plain bytes that pieces bring.
use Rattle.std.proofs.Common.{◌≡◌, ℕ, ◌+◌, ◌≤◌, List, [], ◌∷◌, ◌++◌, length, Option, None, Some, refl, arith, length-append}
use Rattle.asm_base.specs.declared.places.SectionPlace.{SectionPlace}
use Rattle.asm_base.specs.declared.positions.Pos.{Pos}
use Rattle.asm_symbols.specs.SymbolMap.{SymbolMap, names, index_of}
use Rattle.table_pieces.specs.declared.ends.SectionEnd.{SectionEnd}
use Rattle.table_pieces.specs.declared.marks.Distance.{Distance}
use Rattle.table_pieces.specs.declared.marks.Mark.{Mark}
use Rattle.table_pieces.specs.declared.marks.Mark.TheVariants.{Here, At}
use Rattle.table_pieces.specs.Counts.{labels_in, bytes_in, labels_of, bytes_of, PiecesAreCounted}
use Rattle.table_pieces.specs.Ends.{behind_piece, behind_pieces}
use Rattle.table_pieces.specs.Marks.{place_name, label_symbol, with_label_by, with_label, with_mark, with_marks}
use Rattle.table_pieces.specs.Pieces as piece
use Rattle.table_pieces.specs.Pieces.{Piece, from_here, Tables, piece_put, pieces_put}

-- LABELS

label_by : (found : Option ℕ) (map : SymbolMap) (at : SectionPlace) → length (with_label_by found map at).symbols ≤ length map.symbols + 1
label_by (Some found) map at = omega arith
label_by None map at =
    let more : length (map.symbols ++ label_symbol at (length map.symbols) ∷ []) ≡ length map.symbols + 1 =
    length-append map.symbols (label_symbol at (length map.symbols) ∷ []) in
    omega (arith, more)

label_more : (map : SymbolMap) (at : SectionPlace) → length (with_label map at).symbols ≤ length map.symbols + 1
unfolding with_label
label_more map at = label_by (index_of (place_name at) (names map.symbols)) map at

mark_more : (map : SymbolMap) (mark : Mark) → length (with_mark map mark).symbols ≤ length map.symbols + 1
mark_more map Here = omega arith
mark_more map (At at) = label_more map at

marks_more : (map : SymbolMap) (distance : Distance) → length (with_marks map distance).symbols ≤ length map.symbols + 2
marks_more map distance =
    let one = mark_more map distance.to in
    let other = mark_more (with_mark map distance.to) distance.from in
    omega (arith, one, other)

piece_more : (section : ℕ) (pos : Pos) (one : Piece) (tables : Tables)
    → length (piece_put section pos one tables).symbols.symbols ≤ length tables.symbols.symbols + labels_in one
piece_more section pos (piece.plain bytes) tables = omega arith
piece_more section pos (piece.number distance) tables = marks_more tables.symbols distance
piece_more section pos (piece.pointer place) tables = marks_more tables.symbols (from_here place)
piece_more section pos (piece.address place) tables = label_more tables.symbols place
piece_more section pos (piece.field size form) tables = omega arith
piece_more section pos (piece.advance distance) tables = marks_more tables.symbols distance
piece_more section pos (piece.leb128 distance) tables = marks_more tables.symbols distance
piece_more section pos (piece.padding log) tables = omega arith

pieces_more : (section : ℕ) (pos : Pos) (pieces : List Piece) (tables : Tables)
    → length (pieces_put section pos pieces tables).symbols.symbols ≤ length tables.symbols.symbols + labels_of pieces
pieces_more section pos [] tables = omega arith
pieces_more section pos (one ∷ pieces) tables =
    let first = piece_more section pos one tables in
    let others = pieces_more section pos pieces (piece_put section pos one tables) in
    omega (arith, first, others)

-- BYTES

piece_end : (one : Piece) (end : SectionEnd) → (behind_piece one end).bytes ≡ end.bytes + bytes_in one
piece_end (piece.plain bytes) end = refl
piece_end (piece.number distance) end = refl
piece_end (piece.pointer place) end = refl
piece_end (piece.address place) end = refl
piece_end (piece.field size form) end = refl
piece_end (piece.advance distance) end = omega arith
piece_end (piece.leb128 distance) end = omega arith
piece_end (piece.padding log) end = omega arith

pieces_end : (pieces : List Piece) (end : SectionEnd) → (behind_pieces pieces end).bytes ≡ end.bytes + bytes_of pieces
pieces_end [] end = omega arith
pieces_end (one ∷ pieces) end =
    let first = piece_end one end in
    let others = pieces_end pieces (behind_piece one end) in
    omega (arith, first, others)

pub are_counted : PiecesAreCounted
are_counted = record { labels = pieces_more; bytes = pieces_end }
