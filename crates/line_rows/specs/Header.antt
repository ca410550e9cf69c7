-- The header of a line table (DWARF 5, section 6.2.4) in the one form that is taken, and the row at a place by a table's bytes.
use Rattle.std.specs.Prelude.{ℕ, zero, suc, ◌+◌, List, [], ◌∷◌, Option, None, Some, length, take, drop, nat_lt, nat_le, ◌==◌, ◌&&◌, if◌then◌else◌}
use Rattle.std.specs.Option.{option_map, option_and_then}
use Rattle.std.specs.Str.{bytes_eq}
use Rattle.line_rows.specs.declared.rows.LineRow.{LineRow}
use Rattle.leb128.specs.Reading.{uleb}
use Rattle.line_rows.specs.Ops.{four_bytes_of}
use Rattle.line_rows.specs.Rows.{row_in_program}

-- version 5, addresses of 8 bytes, no segment selectors
abbrev pub version_bytes : List ℕ
version_bytes = 0x05 ∷ 0x00 ∷ 0x08 ∷ 0x00 ∷ []

-- minimum instruction length 1, one operation an instruction, is_stmt at first, line base -5, line range 14, opcode base 13; how many operands the
-- standard opcodes have; a directory entry is a path that stands there
abbrev pub machine_bytes : List ℕ
machine_bytes =
    0x01 ∷ 0x01 ∷ 0x01 ∷ 0xfb ∷ 0x0e ∷ 0x0d ∷ 0x00 ∷ 0x01 ∷ 0x01 ∷ 0x01 ∷ 0x01 ∷ 0x00 ∷ 0x00 ∷ 0x00 ∷ 0x01 ∷ 0x00 ∷ 0x00 ∷ 0x01
    ∷ 0x01 ∷ 0x01 ∷ 0x08 ∷ []

-- a file entry is a path that stands there and a directory's number
abbrev pub file_bytes : List ℕ
file_bytes = 0x02 ∷ 0x01 ∷ 0x08 ∷ 0x02 ∷ 0x0f ∷ []

-- what follows these bytes
abbrev pub behind : List ℕ → List ℕ → Option (List ℕ)
behind front bytes =
    if nat_le (length front) (length bytes) && bytes_eq (take (length front) bytes) front then Some (drop (length front) bytes) else None

-- what follows a path, which a zero ends
abbrev pub behind_path : List ℕ → Option (List ℕ)
behind_path [] = None
behind_path (byte ∷ rest) = if byte == 0 then Some rest else behind_path rest

-- what follows a path and a directory's number
abbrev pub behind_file : List ℕ → Option (List ℕ)
behind_file bytes = option_and_then (λ rest. option_map (λ directory. directory.1) (uleb rest)) (behind_path bytes)

-- what follows so many paths
abbrev pub behind_paths : ℕ → List ℕ → Option (List ℕ)
behind_paths zero bytes = Some bytes
behind_paths (suc count) bytes = option_and_then (behind_paths count) (behind_path bytes)

-- what follows so many files
abbrev pub behind_files : ℕ → List ℕ → Option (List ℕ)
behind_files zero bytes = Some bytes
behind_files (suc count) bytes = option_and_then (behind_files count) (behind_file bytes)

-- what follows all that the header's length counts
unfoldable pub behind_entries : List ℕ → Option (List ℕ)
behind_entries bytes =
    option_and_then (λ rest. option_and_then (λ paths. option_and_then (λ rest. option_and_then (λ rest. option_and_then (λ files. behind_files files.0 files.1) (uleb rest))
    (behind file_bytes rest)) (behind_paths paths.0 paths.1)) (uleb rest)) (behind machine_bytes bytes)

-- the program, where the header's length says that it begins
abbrev pub behind_header : ℕ × List ℕ → Option (List ℕ)
behind_header (size, rest) =
    option_and_then (λ program. if length rest == size + length program then Some program else None) (behind_entries rest)

-- the program of a table, whose length counts all behind it; lengths from 0xfffffff0 on are reserved (section 7.4)
abbrev pub in_unit : ℕ × List ℕ → Option (List ℕ)
in_unit (size, rest) =
    if (size == length rest) && nat_lt size 0xfffffff0
    then option_and_then (λ rest. option_and_then behind_header (four_bytes_of rest)) (behind version_bytes rest) else None

-- the program of a table: all behind the length that it begins with
abbrev pub program_of : List ℕ → Option (List ℕ)
program_of table = option_and_then in_unit (four_bytes_of table)

-- the last row at or before a place of a sequence, by the table's bytes
abbrev pub line_at : List ℕ → ℕ → ℕ → Option LineRow
line_at table seq at = option_and_then (λ program. row_in_program program seq at) (program_of table)
