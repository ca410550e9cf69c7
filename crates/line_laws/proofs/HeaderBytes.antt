-- The bytes of a unit are those of a table.
use Rattle.std.proofs.Common.{◌≡◌, ℕ, ◌+◌, ◌-◌, ◌^◌, ◌%◌, ◌≤◌, List, [], ◌∷◌, ◌++◌, length, refl, sym, ap, ◌∙◌, arith, append_assoc, length-append}
use Rattle.asm_frags.specs.declared.fields.FieldSize.TheVariants.{Four}
use Rattle.asm_frags.specs.Fields.{low_bytes}
use Rattle.leb128.specs.Digits.{uleb_bytes}
use Rattle.line_rows.specs.Header.{version_bytes, machine_bytes, file_bytes}
use Rattle.line_rows.specs.Tables.{File, paths_then, files_then, entries_then, table_bytes}
use Rattle.line_rows.specs.Writing.{word_then}
use Rattle.line_directives.specs.SourceFiles.{FileTable}
use Rattle.line_table.specs.Header.{directories_of, files_of, header_bytes}
use Rattle.line_laws.proofs.Parts.{four_word}

-- THE PROGRAM BEHIND THE ENTRIES

paths_apart : (paths : List (List ℕ)) (tail more : List ℕ) → paths_then paths (tail ++ more) ≡ paths_then paths tail ++ more
paths_apart [] tail more = refl
paths_apart (path ∷ paths) tail more =
    ap (λ (rest : List ℕ). path ++ 0x00 ∷ rest) (paths_apart paths tail more) ∙ sym (append_assoc path (0x00 ∷ paths_then paths tail) more)

files_apart : (files : List File) (tail more : List ℕ) → files_then files (tail ++ more) ≡ files_then files tail ++ more
files_apart [] tail more = refl
files_apart ((path, directory) ∷ files) tail more =
    ap (λ (rest : List ℕ). path ++ 0x00 ∷ (uleb_bytes directory ++ rest)) (files_apart files tail more)
    ∙ ap (λ (rest : List ℕ). path ++ 0x00 ∷ rest) (sym (append_assoc (uleb_bytes directory) (files_then files tail) more))
    ∙ sym (append_assoc path (0x00 ∷ (uleb_bytes directory ++ files_then files tail)) more)

entries_apart : (directories : List (List ℕ)) (files : List File) (program : List ℕ) → entries_then directories files program ≡ entries_then directories files [] ++ program
unfolding entries_then
entries_apart directories files program =
    let t4 : List ℕ = files_then files [] in
    let t3 : List ℕ = uleb_bytes (length files) ++ t4 in
    let t2 : List ℕ = paths_then directories (file_bytes ++ t3) in
    ap (λ (rest : List ℕ). machine_bytes ++ (uleb_bytes (length directories) ++ paths_then directories (file_bytes ++ (uleb_bytes (length files) ++ rest)))) (files_apart files [] program)
    ∙ ap (λ (rest : List ℕ). machine_bytes ++ (uleb_bytes (length directories) ++ paths_then directories (file_bytes ++ rest))) (sym (append_assoc (uleb_bytes (length files)) t4 program))
    ∙ ap (λ (rest : List ℕ). machine_bytes ++ (uleb_bytes (length directories) ++ paths_then directories rest)) (sym (append_assoc file_bytes t3 program))
    ∙ ap (λ (rest : List ℕ). machine_bytes ++ (uleb_bytes (length directories) ++ rest)) (paths_apart directories (file_bytes ++ t3) program)
    ∙ ap (λ (rest : List ℕ). machine_bytes ++ rest) (sym (append_assoc (uleb_bytes (length directories)) t2 program))
    ∙ sym (append_assoc machine_bytes (uleb_bytes (length directories) ++ t2) program)

-- SIZES

behind_front : (front tail : List ℕ) → length tail ≤ length (front ++ tail)
behind_front front tail = let long : length (front ++ tail) ≡ length front + length tail = length-append front tail in omega (arith, long)

paths_many : (paths : List (List ℕ)) (tail : List ℕ) → length paths + length tail ≤ length (paths_then paths tail)
paths_many [] tail = omega arith
paths_many (path ∷ paths) tail =
    let one = behind_front path (0x00 ∷ paths_then paths tail) in let others = paths_many paths tail in omega (arith, one, others)

files_many : (files : List File) (tail : List ℕ) → length files ≤ length (files_then files tail)
files_many [] tail = omega arith
files_many ((path, directory) ∷ files) tail =
    let one = behind_front path (0x00 ∷ (uleb_bytes directory ++ files_then files tail)) in
    let number = behind_front (uleb_bytes directory) (files_then files tail) in
    let others = files_many files tail in
    omega (arith, one, number, others)

-- there are no more directories and files than bytes of the entries
pub entries_many : (directories : List (List ℕ)) (files : List File) (program : List ℕ)
    → (length directories ≤ length (entries_then directories files program)) × (length files ≤ length (entries_then directories files program))
unfolding entries_then
entries_many directories files program =
    let t4 : List ℕ = files_then files program in
    let t3 : List ℕ = uleb_bytes (length files) ++ t4 in
    let a = files_many files program in
    let b = behind_front (uleb_bytes (length files)) t4 in
    let c = behind_front file_bytes t3 in
    let d = paths_many directories (file_bytes ++ t3) in
    let e = behind_front (uleb_bytes (length directories)) (paths_then directories (file_bytes ++ t3)) in
    let f = behind_front machine_bytes (uleb_bytes (length directories) ++ paths_then directories (file_bytes ++ t3)) in
    (omega (arith, d, e, f), omega (arith, a, b, c, d, e, f))

-- THE UNIT

module _ (files : FileTable) (program : List ℕ) where
  abbrev entries : List ℕ
  entries = entries_then (directories_of files) (files_of files) program

  abbrev front : List ℕ
  front = entries_then (directories_of files) (files_of files) []

  -- behind the length of the unit stand eight bytes more than the entries
  pub unit_long : length (header_bytes files ++ program) ≡ length entries + 8
  unit_long =
      let apart = ap length (entries_apart (directories_of files) (files_of files) program) in
      let long : length (header_bytes files ++ program) ≡ 8 + length (front ++ program) = omega arith in
      omega (arith, apart, long)

  -- the unit's length, the header and the program are the table
  pub table_is : (value : ℕ) → value % 2 ^ 32 ≡ length (header_bytes files ++ program)
      → low_bytes Four value ++ (header_bytes files ++ program) ≡ table_bytes (directories_of files) (files_of files) program
  table_is value counts =
      let apart = entries_apart (directories_of files) (files_of files) program in
      let long = ap length apart ∙ length-append front program in
      let size : length front ≡ length entries - length program = omega (arith, long) in
      four_word value (length entries + 8) (header_bytes files ++ program) (counts ∙ unit_long)
      ∙ ap (λ (rest : List ℕ). word_then (length entries + 8) (version_bytes ++ word_then (length front) rest)) (sym apart)
      ∙ ap (λ (n : ℕ). word_then (length entries + 8) (version_bytes ++ word_then n entries)) size

  pub table_long : length (table_bytes (directories_of files) (files_of files) program) ≡ 4 + length (header_bytes files) + length program
  table_long =
      let unit = unit_long in
      let long = length-append (header_bytes files) program in
      let all : length (table_bytes (directories_of files) (files_of files) program) ≡ 12 + length entries = omega arith in
      omega (arith, unit, long, all)
