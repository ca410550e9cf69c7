-- The pieces of a file.
use Rattle.std.specs.Prelude.{ℕ, List, [], ◌∷◌, ◌++◌, drop, flat_map, length, sum_by, take}
use Rattle.elf_file.specs.declared.file_pieces.Between.{Between}
use Rattle.elf_file.specs.declared.file_pieces.Mixed.{Mixed}
use Rattle.elf_file.specs.declared.file_pieces.Piece.{Piece}
use Rattle.elf_file.specs.declared.file_pieces.Piece.TheVariants as piece

-- held bytes with repetitions between them
abbrev pub mixed : List ℕ → List Between → List ℕ
mixed bytes [] = bytes
mixed bytes (one ∷ more) = take one.held bytes ++ (one.repetition ++ mixed (drop one.held bytes) more)

-- how many bytes are repeated
abbrev pub repeated_size : List Between → ℕ
repeated_size between = sum_by (λ one. length one.repetition) between

-- how many held bytes stand before the last repetition
abbrev pub held_before : List Between → ℕ
held_before between = sum_by (λ one. one.held) between

-- the bytes that held ones with repetitions between them stand for
abbrev pub mixed_bytes : Mixed → List ℕ
mixed_bytes m = mixed m.bytes.items m.between.items

-- the bytes that a piece stands for
abbrev pub piece_bytes : Piece → List ℕ
piece_bytes (piece.Bytes bytes) = bytes.items
piece_bytes (piece.Repeated bytes) = bytes
piece_bytes (piece.Mixed m) = mixed_bytes m

-- pieces, one behind the other
abbrev pub flat : List Piece → List ℕ
flat pieces = flat_map piece_bytes pieces
