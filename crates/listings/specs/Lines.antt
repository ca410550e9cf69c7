-- The lines of a listing: where each begins, its bytes, and the instruction that these are.
use Rattle.std.specs.Prelude.{◌≡◌, ℕ, ◌+◌, ◌<◌, List, [], ◌∷◌, Option, None, Some, IfSome, length, take, drop, option_map}
use Rattle.x86_decode.specs.declared.fronts.Front.{Front}
use Rattle.x86_decode.specs.Decoding.{Decodes}
use Rattle.x86_decode.specs.Views.{IsOfRow, shown_front}

-- a line: its offset, its bytes, and the instruction as it is held; there is none where nothing reads
pub record Line : Type 0 where
  pub offset : ℕ
  pub bytes : List ℕ
  pub front : Option Front

-- how many bytes a line has: those of its instruction, or the one at which nothing reads
abbrev pub line_length : Option Front → ℕ
line_length None = 1
line_length (Some front) = front.len

-- the line at this offset: its instruction is the one that the bytes from there on begin with
pub record IsLineAt (all : List ℕ) (at : ℕ) (line : Line) : Type 0 where
  pub within : at < length all
  pub offset : line.offset ≡ at
  pub bytes : line.bytes ≡ take (line_length line.front) (drop at all)
  pub decodes : Decodes (drop at all) (option_map shown_front line.front)
  pub of_row : IfSome line.front (λ front. IsOfRow front)

-- the lines from the one offset to the other, each after the one before it
abbrev pub AreLines : (bytes : List ℕ) (at : ℕ) → List Line → (end : ℕ) → Type 0
AreLines bytes at [] end = end ≡ at
AreLines bytes at (line ∷ lines) end = IsLineAt bytes at line × AreLines bytes (at + length line.bytes) lines end
