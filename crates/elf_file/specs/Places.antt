-- Where the bytes of sections stand in the file.
use Rattle.std.specs.Prelude.{◌≡◌, ℕ, zero, suc, ◌+◌, List, [], ◌∷◌, ◌++◌, length}
use Rattle.elf_file.specs.Sections.{SectionEntry}
use Rattle.elf_file.specs.Image.{next_multiple, body_from}

-- this piece of the bytes stands at this offset
pub record PieceAt (bytes : List ℕ) (at : ℕ) (piece : List ℕ) : Type 0 where
  pub front : List ℕ
  pub rest : List ℕ
  pub long : length front ≡ at
  pub whole : bytes ≡ front ++ (piece ++ rest)

-- where the body of the section at this index stands, if those of the sections stand from this position on
unfoldable pub body_offset : ℕ → List SectionEntry → ℕ → ℕ
body_offset position [] index = position
body_offset position (s ∷ ss) zero = next_multiple s.alignment position
body_offset position (s ∷ ss) (suc index) = body_offset (position + length (body_from position s)) ss index
