-- A whole table as it is written.
use Rattle.std.specs.Prelude.{◌≢◌, ℕ, ◌+◌, ◌-◌, ◌^◌, ◌<◌, List, [], ◌∷◌, ◌++◌, length}
use Rattle.leb128.specs.Digits.{uleb_bytes}
use Rattle.line_rows.specs.Header.{version_bytes, machine_bytes, file_bytes}
use Rattle.line_rows.specs.Writing.{word_then}

-- a file: its path, and the number of its directory
abbrev pub File : Type 0
File = List ℕ × ℕ

-- paths, each ended by a zero, before other bytes
abbrev pub paths_then : List (List ℕ) → List ℕ → List ℕ
paths_then [] tail = tail
paths_then (path ∷ paths) tail = path ++ 0x00 ∷ paths_then paths tail

-- files, each a path that a zero ends and the number of its directory, before other bytes
abbrev pub files_then : List File → List ℕ → List ℕ
files_then [] tail = tail
files_then ((path, directory) ∷ files) tail = path ++ 0x00 ∷ (uleb_bytes directory ++ files_then files tail)

-- all behind the header's length
unfoldable pub entries_then : List (List ℕ) → List File → List ℕ → List ℕ
entries_then directories files program =
    machine_bytes ++ (uleb_bytes (length directories) ++ paths_then directories (file_bytes ++ (uleb_bytes (length files) ++ files_then files program)))

-- the table, with its two lengths
abbrev pub table_bytes : List (List ℕ) → List File → List ℕ → List ℕ
table_bytes directories files program =
    word_then (length (entries_then directories files program) + 8)
    (version_bytes ++ word_then (length (entries_then directories files program) - length program) (entries_then directories files program))

-- a path has no zero
abbrev pub IsPath : List ℕ → Type 0
IsPath [] = Unit {0}
IsPath (byte ∷ path) = (byte ≢ 0) × IsPath path

-- no path has a zero
abbrev pub ArePaths : List (List ℕ) → Type 0
ArePaths [] = Unit {0}
ArePaths (path ∷ paths) = IsPath path × ArePaths paths

-- no path of a file has a zero, and the numbers of directories fit in 64 bits
abbrev pub AreFiles : List File → Type 0
AreFiles [] = Unit {0}
AreFiles ((path, directory) ∷ files) = IsPath path × (directory < 2 ^ 64) × AreFiles files
