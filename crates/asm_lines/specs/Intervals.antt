-- The intervals of a source between ends of statements, and the statement that each holds (GNU as manual, chapter 3).
use Rattle.std.specs.Prelude.{ℕ, ◌+◌, List, [], ◌∷◌, length, if◌then◌else◌}
use Rattle.std.specs.List.{slice_split}
use Rattle.asm_base.specs.Pieces.{Piece, ends_statement, is_comment, is_space}

-- what stands between ends of statements, one after the other
abbrev pub intervals_of : List Piece → List (List Piece)
intervals_of pieces = slice_split (λ piece. ends_statement piece.kind) pieces

-- without the blanks and comments in front
abbrev pub without_space_before : List Piece → List Piece
without_space_before [] = []
without_space_before (piece ∷ pieces) =
    if is_space piece.kind then without_space_before pieces else (piece ∷ pieces)

-- a piece before others; a blank or a comment before none is left out
abbrev pub before_others : Piece → List Piece → List Piece
before_others piece [] = if is_space piece.kind then [] else (piece ∷ [])
before_others piece (next ∷ others) = piece ∷ next ∷ others

-- without the blanks and comments behind
abbrev pub without_space_after : List Piece → List Piece
without_space_after [] = []
without_space_after (piece ∷ pieces) = before_others piece (without_space_after pieces)

-- from the first to the last piece that is no blank and no comment
unfoldable pub trimmed : List Piece → List Piece
trimmed interval = without_space_after (without_space_before interval)

-- how many bytes the piece adds to its statement: comments are no bytes of a statement
abbrev pub own_bytes : Piece → ℕ
own_bytes piece = if is_comment piece.kind then 0 else length piece.bytes

-- how many bytes the pieces add to their statement
abbrev pub own_length : List Piece → ℕ
own_length [] = 0
own_length (piece ∷ pieces) = own_bytes piece + own_length pieces
