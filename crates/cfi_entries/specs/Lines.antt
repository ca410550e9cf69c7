-- Instructions as they stand in a written entry, each behind an advance, and what is due at a place of it.
use Rattle.std.specs.Prelude.{◌≡◌, ℕ, ◌+◌, ◌-◌, ◌/◌, ◌%◌, ◌<◌, ◌≤◌, List, [], ◌∷◌, ◌++◌, Option, None, Some, length, map, replicate, nat_lt, if◌then◌else◌}
use Rattle.cfi_rows.specs.declared.rows.CfaRow.{CfaRow}
use Rattle.cfi_rows.specs.declared.rows.CfiOp.{CfiOp}
use Rattle.cfi_rows.specs.Rows.{common_row, start_rows}
use Rattle.cfi_entries.specs.Places.{Placed, row_after}
use Rattle.cfi_entries.specs.Written.{written}

-- an advance: none, with the distance in its byte, or with it in 1, 2 or 4 bytes behind its code
pub data Form : Type 0 where
  absent : Form
  inside : Form
  in_byte : Form
  in_two : Form
  in_four : Form

-- the bytes of an advance
abbrev pub advance_bytes : Form → ℕ → List ℕ
advance_bytes absent distance = []
advance_bytes inside distance = (0x40 + distance) ∷ []
advance_bytes in_byte distance = 0x02 ∷ distance ∷ []
advance_bytes in_two distance = 0x03 ∷ distance % 256 ∷ distance / 256 ∷ []
advance_bytes in_four distance = 0x04 ∷ distance % 256 ∷ distance / 256 % 256 ∷ distance / 65536 % 256 ∷ distance / 16777216 ∷ []

-- the form has room for the distance
abbrev pub IsRoom : Form → ℕ → Type 0
IsRoom absent distance = distance ≡ 0
IsRoom inside distance = distance < 64
IsRoom in_byte distance = distance < 256
IsRoom in_two distance = distance < 65536
IsRoom in_four distance = distance < 4294967296

-- an instruction at its place, with the form of the advance to it, and its bytes
pub record Line : Type 0 where
  pub form : Form
  pub place : ℕ
  pub op : CfiOp
  pub bytes : List ℕ

-- the bytes of all lines from a place on, and a padding of nops
abbrev pub bytes_of : ℕ → ℕ → List Line → List ℕ
bytes_of padding here [] = replicate padding 0
bytes_of padding here (line ∷ lines) = advance_bytes line.form (line.place - here) ++ (line.bytes ++ bytes_of padding line.place lines)

-- no place is before the one before it, each advance has room, and the bytes are the instruction's
abbrev pub AreLines : ℕ → List Line → Type 0
AreLines here [] = Unit {0}
AreLines here (line ∷ lines) =
    (here ≤ line.place) × IsRoom line.form (line.place - here) × (written line.op ≡ Some line.bytes) × AreLines line.place lines

-- the instructions with their places
abbrev pub ops_of : List Line → List Placed
ops_of lines = map (λ line. (line.place, line.op)) lines

-- a number in four bytes, the lowest first, before others
abbrev pub word_then : ℕ → List ℕ → List ℕ
word_then number rest = number % 256 ∷ number / 256 % 256 ∷ number / 65536 % 256 ∷ number / 16777216 ∷ rest

-- a frame description entry: its length, the distance back to the common entry, the start, the range, the pointer to the LSDA behind its length, and the
-- instructions
abbrev pub entry_bytes : ℕ → ℕ → ℕ → List ℕ → List ℕ → List ℕ
entry_bytes back first range lsda code =
    word_then (length (lsda ++ code) + 13) (word_then back (word_then first (word_then range (length lsda ∷ (lsda ++ code)))))

-- the row after the instructions up to a place below the range
abbrev pub row_due : ℕ → ℕ → List Line → Option CfaRow
row_due at range lines = if nat_lt at range then row_after common_row at (ops_of lines) (start_rows common_row) else None
