-- A written table's program is found.
use Rattle.std.proofs.Common.{◌≡◌, ◌≢◌, ℕ, ◌+◌, ◌-◌, ◌^◌, ◌<◌, ◌≤◌, true, false, length, take, drop, List, [], ◌∷◌, ◌++◌, None, Some, nat_lt, nat_le, ◌==◌, ◌&&◌, if◌then◌else◌, slice_get, refl, ◌∙◌, ap, arith}
use Rattle.std.proofs.Math.Seq.{take-append_seam, drop-append_seam}
use Rattle.std.proofs.lemmas.List.{length-append}
use Rattle.std.specs.Option.{option_map, option_and_then}
use Rattle.std.specs.Str.{bytes_eq}
use Rattle.leb128.specs.Reading.{uleb}
use Rattle.leb128.specs.Digits.{uleb_bytes}
use Rattle.leb128.specs.Numbers.{NumbersReadBack}
use Rattle.line_rows.specs.Ops.{four_bytes_of}
use Rattle.line_rows.specs.Header.{version_bytes, machine_bytes, file_bytes, behind, behind_path, behind_paths, behind_files, behind_entries, behind_header, in_unit, program_of, line_at}
use Rattle.line_rows.specs.Tables.{File, paths_then, files_then, entries_then, table_bytes, IsPath, ArePaths, AreFiles}
use Rattle.line_rows.specs.Writing.{word_then, Sequence, AreSequences, program_bytes, row_due}
use Rattle.line_rows.proofs.SequenceLemmas.{table_row}
use Rattle.line_rows.proofs.ReadBack.{word_reads}

-- what follows bytes that stand in front
behind_front : (front tail : List ℕ) → bytes_eq front front ≡ true → behind front (front ++ tail) ≡ Some tail
behind_front front tail same =
    ap (λ b. if b && bytes_eq (take (length front) (front ++ tail)) front then Some (drop (length front) (front ++ tail)) else None)
    (let long : length (front ++ tail) ≡ length front + length tail = length-append front tail in
    let fits : nat_le (length front) (length (front ++ tail)) ≡ true = grind (arith, long) in fits)
    ∙ ap (λ bytes. if bytes_eq bytes front then Some (drop (length front) (front ++ tail)) else None) (take-append_seam front tail)
    ∙ ap (λ b. if b then Some (drop (length front) (front ++ tail)) else None) same
    ∙ ap Some (drop-append_seam front tail)

is_no_zero : (byte : ℕ) → byte ≢ 0 → (byte == 0) ≡ false
is_no_zero byte some = grind (arith, some)

path_read : (path tail : List ℕ) → IsPath path → behind_path (path ++ 0x00 ∷ tail) ≡ Some tail
path_read [] tail good = refl
path_read (byte ∷ path) tail (some, good) =
    ap (λ b. if b then Some (path ++ 0x00 ∷ tail) else behind_path (path ++ 0x00 ∷ tail)) (is_no_zero byte some) ∙ path_read path tail good

paths_read : (paths : List (List ℕ)) (tail : List ℕ) → ArePaths paths → behind_paths (length paths) (paths_then paths tail) ≡ Some tail
paths_read [] tail good = refl
paths_read (path ∷ paths) tail (one, good) =
    ap (option_and_then (behind_paths (length paths))) (path_read path (paths_then paths tail) one) ∙ paths_read paths tail good

files_read : (numbers : NumbersReadBack) (files : List File) (tail : List ℕ) → AreFiles files → behind_files (length files) (files_then files tail) ≡ Some tail
files_read numbers [] tail good = refl
files_read numbers ((path, directory) ∷ files) tail (one, fits, good) =
    ap (λ rest. option_and_then (behind_files (length files)) (option_and_then (λ rest. option_map (λ directory. directory.1) (uleb rest)) rest))
    (path_read path (uleb_bytes directory ++ files_then files tail) one)
    ∙ ap (λ read. option_and_then (behind_files (length files)) (option_map (λ directory. directory.1) read)) (numbers.unsigned directory (files_then files tail) fits)
    ∙ files_read numbers files tail good

entries_read : (numbers : NumbersReadBack) (directories : List (List ℕ)) (files : List File) (program : List ℕ) → ArePaths directories → AreFiles files
    → length directories < 2 ^ 64 → length files < 2 ^ 64 → behind_entries (entries_then directories files program) ≡ Some program
unfolding behind_entries entries_then
entries_read numbers directories files program paths_good files_good paths_few files_few =
    let t4 : List ℕ = files_then files program in
    let t3 : List ℕ = uleb_bytes (length files) ++ t4 in
    let t2 : List ℕ = paths_then directories (file_bytes ++ t3) in
    ap (option_and_then (λ rest. option_and_then (λ paths. option_and_then (λ rest. option_and_then (λ rest. option_and_then (λ files. behind_files files.0 files.1) (uleb rest))
    (behind file_bytes rest)) (behind_paths paths.0 paths.1)) (uleb rest))) (behind_front machine_bytes (uleb_bytes (length directories) ++ t2) refl)
    ∙ ap (option_and_then (λ paths. option_and_then (λ rest. option_and_then (λ rest. option_and_then (λ files. behind_files files.0 files.1) (uleb rest))
    (behind file_bytes rest)) (behind_paths paths.0 paths.1))) (numbers.unsigned (length directories) t2 paths_few)
    ∙ ap (option_and_then (λ rest. option_and_then (λ rest. option_and_then (λ files. behind_files files.0 files.1) (uleb rest)) (behind file_bytes rest)))
    (paths_read directories (file_bytes ++ t3) paths_good)
    ∙ ap (option_and_then (λ rest. option_and_then (λ files. behind_files files.0 files.1) (uleb rest))) (behind_front file_bytes t3 refl)
    ∙ ap (option_and_then (λ files. behind_files files.0 files.1)) (numbers.unsigned (length files) t4 files_few)
    ∙ files_read numbers files program files_good

-- bytes never get more
abbrev NoMore : List ℕ → List ℕ → Type 0
NoMore rest bytes = length rest ≤ length bytes

behind_end_of : (front tail : List ℕ) → length tail ≤ length (front ++ tail)
behind_end_of front tail = let long : length (front ++ tail) ≡ length front + length tail = length-append front tail in omega (arith, long)

paths_long : (paths : List (List ℕ)) (tail : List ℕ) → length tail ≤ length (paths_then paths tail)
paths_long [] tail = omega arith
paths_long (path ∷ paths) tail =
    let one = behind_end_of path (0x00 ∷ paths_then paths tail) in let others = paths_long paths tail in omega (arith, one, others)

files_long : (files : List File) (tail : List ℕ) → length tail ≤ length (files_then files tail)
files_long [] tail = omega arith
files_long ((path, directory) ∷ files) tail =
    let one = behind_end_of path (0x00 ∷ (uleb_bytes directory ++ files_then files tail)) in
    let number = behind_end_of (uleb_bytes directory) (files_then files tail) in
    let others = files_long files tail in omega (arith, one, number, others)

entries_long : (directories : List (List ℕ)) (files : List File) (program : List ℕ) → length program ≤ length (entries_then directories files program)
unfolding entries_then
entries_long directories files program =
    let t4 : List ℕ = files_then files program in
    let t3 : List ℕ = uleb_bytes (length files) ++ t4 in
    let t2 : List ℕ = paths_then directories (file_bytes ++ t3) in
    let a = files_long files program in
    let b = behind_end_of (uleb_bytes (length files)) t4 in
    let c = behind_end_of file_bytes t3 in
    let d = paths_long directories (file_bytes ++ t3) in
    let e = behind_end_of (uleb_bytes (length directories)) t2 in
    let f = behind_end_of machine_bytes (uleb_bytes (length directories) ++ t2) in
    omega (arith, a, b, c, d, e, f)

header_read : (size : ℕ) (entries program : List ℕ) → behind_entries entries ≡ Some program → length program ≤ length entries → size ≡ length entries - length program
    → behind_header (size, entries) ≡ Some program
header_read size entries program reads long is =
    ap (option_and_then (λ program. if length entries == size + length program then Some program else None)) reads
    ∙ ap (λ b. if b then Some program else None) (let same : (length entries == size + length program) ≡ true = grind (arith, long, is) in same)

unit_read : (entries program : List ℕ) → behind_entries entries ≡ Some program → length program ≤ length entries → length entries + 8 < 0xfffffff0
    → program_of (word_then (length entries + 8) (version_bytes ++ word_then (length entries - length program) entries)) ≡ Some program
unit_read entries program reads long short =
    let rest : List ℕ = version_bytes ++ word_then (length entries - length program) entries in
    ap (option_and_then in_unit) (word_reads (length entries + 8) rest (omega (arith, short)))
    ∙ ap (λ b. if b then option_and_then (λ rest. option_and_then behind_header (four_bytes_of rest)) (behind version_bytes rest) else None)
    (let same : ((length entries + 8 == length rest) && nat_lt (length entries + 8) 0xfffffff0) ≡ true = grind (arith, short) in same)
    ∙ ap (option_and_then (λ rest. option_and_then behind_header (four_bytes_of rest)))
    (behind_front version_bytes (word_then (length entries - length program) entries) refl)
    ∙ ap (option_and_then behind_header) (word_reads (length entries - length program) entries (omega (arith, short)))
    ∙ header_read (length entries - length program) entries program reads long refl

pub table_read : (numbers : NumbersReadBack) (directories : List (List ℕ)) (files : List File) (program : List ℕ) → ArePaths directories → AreFiles files
    → length (entries_then directories files program) + 8 < 0xfffffff0 → length directories < 2 ^ 64 → length files < 2 ^ 64
    → program_of (table_bytes directories files program) ≡ Some program
table_read numbers directories files program paths_good files_good short paths_few files_few =
    unit_read (entries_then directories files program) program
    (entries_read numbers directories files program paths_good files_good paths_few files_few) (entries_long directories files program) short

-- the row at a place of a written table
pub table_line : (numbers : NumbersReadBack) (directories : List (List ℕ)) (files : List File) (sequences : List Sequence) (seq at : ℕ) → ArePaths directories → AreFiles files
    → AreSequences sequences → length (entries_then directories files (program_bytes sequences)) + 8 < 0xfffffff0
    → length directories < 2 ^ 64 → length files < 2 ^ 64
    → line_at (table_bytes directories files (program_bytes sequences)) seq at ≡ option_and_then (row_due at) (slice_get sequences seq)
table_line numbers directories files sequences seq at paths_good files_good good short paths_few files_few =
    table_row numbers (table_bytes directories files (program_bytes sequences)) sequences seq at good
    (table_read numbers directories files (program_bytes sequences) paths_good files_good short paths_few files_few)
