-- The instruction that bytes begin with.
use Rattle.std.specs.Prelude.{◌≡◌, ◌&&◌, ◌∷◌, ◌++◌, [], ℕ, List, Bool, Option, Some, None, length, take, if◌then◌else◌}
use Rattle.std.specs.Str.{bytes_eq}
use Rattle.x86_insn.specs.Views.{View}
use Rattle.x86_table.specs.declared.forms.Map.{Map}
use Rattle.x86_table.specs.declared.forms.Row.{Row}
use Rattle.x86_table.specs.Rows.{the_rows}
use Rattle.x86_table.specs.Fields.{Fields}
use Rattle.x86_table.specs.Bytes.{bytes_of}
use Rattle.x86_table.specs.Fits.{fits}
use Rattle.x86_table.specs.Reads.{Reads, meaning}
use Rattle.x86_decode.specs.Heads.{Head, head_of, map_in, past_escapes}
use Rattle.x86_decode.specs.FieldReadings.{fields_in}
use Rattle.x86_decode.specs.Admitting.{admits}

-- the instruction in front of bytes, and how many bytes it has
pub record Front : Type 0 where
  pub insn : View
  pub len : ℕ

-- the instruction that a row shows of fields, if these fit and the bytes begin with theirs
abbrev pub shown_if : List ℕ → Row → Fields → Option Front
shown_if bytes r p = if fits r p && bytes_eq (bytes_of r p) (take (length (bytes_of r p)) bytes) then Some (record { insn = meaning r p; len = length (bytes_of r p) }) else None

-- by the row
abbrev pub by_row : List ℕ → Head → ℕ → List ℕ → Option Row → Option Front
by_row bytes h o tail None = None
by_row bytes h o tail (Some r) = shown_if bytes r (fields_in r h o tail)

-- the first row that passes
abbrev pub first_row : (Row → Bool) → List Row → Option Row
first_row p [] = None
first_row p (r ∷ rows) = if p r then Some r else first_row p rows

-- by the bytes from the opcode on
abbrev pub by_opcode : List ℕ → Head → Map → List ℕ → Option Front
by_opcode bytes h m [] = None
by_opcode bytes h m (o ∷ tail) = by_row bytes h o tail (first_row (admits m h o tail) the_rows)

-- by the head
abbrev pub by_head : List ℕ → Head → Option Front
by_head bytes h = by_opcode bytes h (map_in h.rest) (past_escapes (map_in h.rest) h.rest)

-- the instruction in front of the bytes, if there is one
unfoldable pub decoded : List ℕ → Option Front
decoded bytes = by_head bytes (head_of bytes)

-- the bytes begin with those of this instruction, of which there are so many
pub record Begins (bytes : List ℕ) (front : Front) : Type 0 where
  pub own : List ℕ
  pub more : List ℕ
  pub parted : bytes ≡ own ++ more
  pub counted : front.len ≡ length own
  pub reads : Reads own front.insn

-- the answer is the instruction that the bytes begin with, and none exactly where they begin with none
pub record Decodes (bytes : List ℕ) (answer : Option Front) : Type 0 where
  pub reads : (front : Front) → answer ≡ Some front → Begins bytes front
  pub found : (front : Front) → Begins bytes front → answer ≡ Some front

-- so it is with what is decoded
abbrev pub AllIsDecoded : Type 0
AllIsDecoded = (bytes : List ℕ) → Decodes bytes (decoded bytes)
