-- The bytes that rows and sequences are written as.
use Rattle.std.specs.Prelude.{◌≡◌, ℕ, ◌+◌, ◌/◌, ◌%◌, ◌^◌, ◌<◌, pos, ◌-ℤ◌, Bool, true, false, List, [], ◌∷◌, ◌++◌, Option, None, Some, length, ◌==◌, not, nat_lt, nat_le, if◌then◌else◌}
use Rattle.line_rows.specs.declared.rows.LineRow.{LineRow}
use Rattle.line_rows.specs.declared.rows.Registers.{Registers}
use Rattle.leb128.specs.Reading.{uleb}
use Rattle.leb128.specs.Digits.{uleb_bytes, sleb_bytes}
use Rattle.line_rows.specs.Machine.{Line, first_row}

-- the registers that stay behind a row
abbrev pub registers_of : LineRow → Registers
registers_of row = record { file = row.file; line = row.line; column = row.column; is_stmt = row.is_stmt; isa = row.isa }

-- is_stmt is turned over where it differs
abbrev pub differs : Bool → Bool → Bool
differs true b = not b
differs false b = b

-- set_discriminator, whose length counts its code and the number
abbrev pub discriminator_bytes : ℕ → List ℕ
discriminator_bytes number = 0x00 ∷ (length (uleb_bytes number) + 1) ∷ 0x04 ∷ uleb_bytes number

-- bytes that a call puts last; where it is refused all is as it was
abbrev pub Appends : Bool → List ℕ → List ℕ → List ℕ → Type 0
Appends ok bytes old new = new ≡ (if ok then old ++ bytes else old)

-- bytes that stand where a register differs
abbrev pub unless : Bool → List ℕ → List ℕ
unless same bytes = if same then [] else bytes

-- a register's new value behind the opcode that sets it, where it differs
abbrev pub changed_bytes : ℕ → ℕ → ℕ → List ℕ
changed_bytes code before now = unless (before == now) (code ∷ uleb_bytes now)

-- a discriminator, where there is one
abbrev pub given_discriminator : ℕ → List ℕ
given_discriminator number = unless (number == 0) (discriminator_bytes number)

-- a line's step, where there is one
abbrev pub line_bytes : ℕ → ℕ → List ℕ
line_bytes before now = unless (before == now) (0x03 ∷ sleb_bytes (pos now -ℤ pos before))

-- the bytes before a row's advance: what differs from the registers, in this order
unfoldable pub row_bytes : Registers → LineRow → List ℕ
row_bytes before row =
    changed_bytes 0x04 before.file row.file
    ++ changed_bytes 0x05 before.column row.column
    ++ given_discriminator row.discriminator
    ++ changed_bytes 0x0c before.isa row.isa
    ++ unless (not (differs before.is_stmt row.is_stmt)) (0x06 ∷ [])
    ++ unless (not row.basic_block) (0x07 ∷ [])
    ++ unless (not row.prologue_end) (0x0a ∷ [])
    ++ unless (not row.epilogue_begin) (0x0b ∷ [])
    ++ line_bytes before.line row.line

-- the same, with a known distance and the row
abbrev pub known_row_bytes : Registers → LineRow → ℕ → List ℕ
known_row_bytes before row distance = row_bytes before row ++ (0x02 ∷ uleb_bytes distance) ++ 0x01 ∷ []

-- a distance, and the LEB128 bytes of it
pub record Advance : Type 0 where
  pub distance : ℕ
  pub digits : List ℕ

-- whatever bytes they are
abbrev pub IsWritten : Advance → Type 0
IsWritten advance = (rest : List ℕ) → uleb (advance.digits ++ rest) ≡ Some (advance.distance, rest)

-- a row, and how far it is from the one before it
pub record Later : Type 0 where
  pub advance : Advance
  pub row : LineRow

-- a sequence: its first address, its rows, and how far its end is from the last one
pub record Sequence : Type 0 where
  pub address : ℕ
  pub first : LineRow
  pub others : List Later
  pub end : Advance

-- the rows behind others, and the end, before other bytes
abbrev pub later_bytes : Registers → List Later → Advance → List ℕ → List ℕ
later_bytes before [] end tail = 0x02 ∷ (end.digits ++ 0x00 ∷ 0x01 ∷ 0x01 ∷ tail)
later_bytes before (later ∷ others) end tail =
    row_bytes before later.row ++ 0x02 ∷ (later.advance.digits ++ 0x01 ∷ later_bytes (registers_of later.row) others end tail)

-- a number in four bytes, the lowest first, before others
abbrev pub word_then : ℕ → List ℕ → List ℕ
word_then number rest = number % 256 ∷ number / 256 % 256 ∷ number / 65536 % 256 ∷ number / 16777216 ∷ rest

-- a sequence before other bytes
abbrev pub sequence_then : Sequence → List ℕ → List ℕ
sequence_then sequence tail =
    0x00 ∷ 0x09 ∷ 0x02 ∷ word_then (sequence.address % 2 ^ 32) (word_then (sequence.address / 2 ^ 32)
    (row_bytes (registers_of first_row) sequence.first ++ 0x01 ∷ later_bytes (registers_of sequence.first) sequence.others sequence.end tail))

-- sequences, one behind the other
abbrev pub program_bytes : List Sequence → List ℕ
program_bytes [] = []
program_bytes (sequence ∷ sequences) = sequence_then sequence (program_bytes sequences)

-- the rows at their distances from the first one, and the end
abbrev pub later_lines : ℕ → List Later → Advance → List Line → List Line
later_lines place [] end tail = (place + end.distance, None) ∷ tail
later_lines place (later ∷ others) end tail =
    (place + later.advance.distance, Some later.row) ∷ later_lines (place + later.advance.distance) others end tail

-- the rows of a sequence, before others
abbrev pub sequence_lines : Sequence → List Line → List Line
sequence_lines sequence tail = (0, Some sequence.first) ∷ later_lines 0 sequence.others sequence.end tail

-- the rows of sequences, one behind the other
abbrev pub program_lines : List Sequence → List Line
program_lines [] = []
program_lines (sequence ∷ sequences) = sequence_lines sequence (program_lines sequences)

-- the numbers of a row are in the ranges of its registers
abbrev pub IsRow : LineRow → Type 0
IsRow row = (row.file < 2 ^ 32) × (row.line < 2 ^ 32) × (row.column < 2 ^ 32) × (row.isa < 2 ^ 32) × (row.discriminator < 2 ^ 32)

-- each advance is bytes of its distance, and no place leaves 0 to 2 ^ 64 - 1
abbrev pub AreLater : ℕ → List Later → Advance → Type 0
AreLater place [] end = IsWritten end × (place + end.distance < 2 ^ 64)
AreLater place (later ∷ others) end =
    IsWritten later.advance × (place + later.advance.distance < 2 ^ 64) × IsRow later.row × AreLater (place + later.advance.distance) others end

-- a first address in 64 bits, and rows whose numbers and places are in their ranges
abbrev pub IsSequence : Sequence → Type 0
IsSequence sequence = (sequence.address < 2 ^ 64) × IsRow sequence.first × AreLater 0 sequence.others sequence.end

-- so are all of them
abbrev pub AreSequences : List Sequence → Type 0
AreSequences [] = Unit {0}
AreSequences (sequence ∷ sequences) = IsSequence sequence × AreSequences sequences

-- the end's distance from the first row
abbrev pub end_place : ℕ → List Later → Advance → ℕ
end_place place [] end = place + end.distance
end_place place (later ∷ others) end = end_place (place + later.advance.distance) others end

-- the last row at or before a place, behind one that is
abbrev pub last_row : ℕ → ℕ → LineRow → List Later → LineRow
last_row at place row [] = row
last_row at place row (later ∷ others) =
    if nat_le (place + later.advance.distance) at then last_row at (place + later.advance.distance) later.row others else row

-- what is due at a place of a sequence
abbrev pub row_due : ℕ → Sequence → Option LineRow
row_due at sequence =
    if nat_lt at (end_place 0 sequence.others sequence.end) then Some (last_row at 0 sequence.first sequence.others) else None
