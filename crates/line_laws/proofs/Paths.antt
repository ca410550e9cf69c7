-- The directories and files of a table are paths.
use Rattle.std.proofs.Common.{◌≡◌, ℕ, zero, suc, ◌+◌, ◌-◌, ◌^◌, ◌<◌, ◌≤◌, ◌==◌, Bool, true, false, not, List, [], ◌∷◌, ◌++◌, map, length, Option, None, Some, Result, Ok, Err, is_some, unwrap_or, cond, if◌then◌else◌, replicate, slice_set, refl, subst, arith}
use Rattle.std.specs.Prelude.{All, IfSome, codes, slice_get}
use Rattle.std.specs.List.{filter, prefix_len}
use Rattle.std.specs.Option.{option_map_or}
use Rattle.std.specs.Str.{bytes_eq}
use Rattle.std.proofs.lemmas.List.Elements.{All-nil, All-cons, All-head, All-tail, All-append, All-filter, All-replicate}
use Rattle.asm_base.specs.declared.positions.Pos.{Pos}
use Rattle.asm_base.specs.Refusals.{◌>>=◌}
use Rattle.line_rows.specs.Tables.{IsPath, ArePaths, AreFiles}
use Rattle.line_directives.specs.declared.faults.LineTableCause.{LineTableCause}
use Rattle.line_directives.specs.declared.faults.LineTableCause.TheVariants.{UnassignedFileNumber}
use Rattle.line_directives.specs.declared.source_files.SourceFile.{SourceFile}
use Rattle.line_directives.specs.Numbered.{with_room}
use Rattle.line_directives.specs.Order.{IsInRange}
use Rattle.line_directives.specs.Rows.{row_with}
use Rattle.line_directives.specs.SourceFiles.{FileTable, place_of, file_in, with_directory_of, file_of, is_given, with_file}
use Rattle.line_directives.specs.Taking.{LineTable, no_lines, LineDirective, numbered_file, loc, file_taken, filed, with_line, located, taken_from, table_of}
use Rattle.line_table.specs.Header.{text_of, first_directory, is_other, directories_of, directory_number, entry, least, nameless, files_of}

-- WHAT DIRECTIVES GIVE

-- a file that is there has a path
abbrev HasPath : Option SourceFile → Type 0
HasPath found = IfSome found (λ file. IsPath file.name)

-- all directories and all names of files are paths
pub record HasPaths (files : FileTable) : Type 0 where
  pub directories : All IsPath files.directories
  pub names : All HasPath files.by_number

all_set : {X : Type 0} (P : X → Type 0) (xs : List X) (i : ℕ) (x : X) → All P xs → P x → All P (slice_set xs i x)
all_set P [] i x all is = all
all_set P (y ∷ xs) zero x all is = All-cons P x xs is (All-tail P y xs all)
all_set P (y ∷ xs) (suc i) x all is = All-cons P y (slice_set xs i x) (All-head P y xs all) (all_set P xs i x (All-tail P y xs all) is)

directories_with : (directory : Option (List ℕ)) (directories : List (List ℕ)) → IfSome directory IsPath → All IsPath directories
    → All IsPath (with_directory_of directory directories)
directories_with None directories is all = all
directories_with (Some directory) directories is all = by (place_of directory directories == length directories)
  where
    by : (new : Bool) → All IsPath (if new then directories ++ directory ∷ [] else directories)
    by true = All-append IsPath directories (directory ∷ []) all (All-cons IsPath directory [] is (All-nil IsPath))
    by false = all

file_with : (number : ℕ) (directory : Option (List ℕ)) (name : List ℕ) (files : FileTable) → IfSome directory IsPath → IsPath name → HasPaths files
    → HasPaths (with_file number directory name files)
file_with number directory name files is named has = record {
  directories = directories_with directory files.directories is has.directories;
  names = all_set HasPath (with_room (number + 1) files.by_number) number (Some (file_in directory name files.directories))
      (All-append HasPath files.by_number (replicate (number + 1 - length files.by_number) None) has.names
      (All-replicate HasPath (number + 1 - length files.by_number) None tt)) named;
}

file_keeps : (given : Option Bool) (pos : Pos) (number : ℕ) (directory : Option (List ℕ)) (name : List ℕ) (table next : LineTable) → IfSome directory IsPath → IsPath name
    → HasPaths table.files → file_taken given pos number directory name table ≡ Ok next → HasPaths next.files
file_keeps None pos number directory name table next is named has made =
    let same : record table { first = Some (unwrap_or table.first pos); files = with_file number directory name table.files } ≡ next = cc in
    subst (λ (table : LineTable). HasPaths table.files) same (file_with number directory name table.files is named has)
file_keeps (Some true) pos number directory name table next is named has made =
    let same : table ≡ next = cc in subst (λ (table : LineTable). HasPaths table.files) same has
file_keeps (Some false) pos number directory name table next is named has made = absurd (let none : ⊥ = cc in none)

located_if : (b : Bool) (made next : LineTable) → (if b then Ok made else Err UnassignedFileNumber) ≡ Ok next → made ≡ next
located_if true made next is = cc
located_if false made next is = absurd (let none : ⊥ = cc in none)

bound : (due : Result LineTable LineTableCause) (directives : List LineDirective) (after : LineTable)
    → (due >>= λ next. taken_from next directives) ≡ Ok after
    → (next : LineTable) × (due ≡ Ok next) × (taken_from next directives ≡ Ok after)
bound (Ok next) directives after is = (next, refl, is)
bound (Err cause) directives after is = absurd (let none : ⊥ = cc in none)

taken_has : (table : LineTable) (directives : List LineDirective) (after : LineTable) → All IsInRange directives → HasPaths table.files
    → taken_from table directives ≡ Ok after → HasPaths after.files
taken_has table [] after ranges has made = let same : table ≡ after = cc in subst (λ (table : LineTable). HasPaths table.files) same has
taken_has table (numbered_file pos number directory name ∷ directives) after ranges has made =
    let step = bound (filed pos number directory name table) directives after made in
    let range = All-head IsInRange (numbered_file pos number directory name) directives ranges in
    taken_has step.0 directives after (All-tail IsInRange (numbered_file pos number directory name) directives ranges)
    (file_keeps (is_given number directory name table.files) pos number directory name table step.0 range.1 range.2 has step.1) step.2
taken_has table (loc line at ∷ directives) after ranges has made =
    let step = bound (located line at table) directives after made in
    let same = located_if (is_some (file_of line.file table.files)) (with_line at (row_with table.is_stmt table.isa line) table) step.0 step.1 in
    taken_has step.0 directives after (All-tail IsInRange (loc line at) directives ranges) (subst (λ (table : LineTable). HasPaths table.files) same has) step.2

pub table_has : (directives : List LineDirective) (lines : LineTable) → All IsInRange directives → table_of directives ≡ Ok lines → HasPaths lines.files
table_has directives lines ranges made =
    taken_has no_lines directives lines ranges (record { directories = All-nil IsPath; names = All-nil HasPath }) made

-- THE HEADER

paths_are : (paths : List (List ℕ)) → All IsPath paths → ArePaths paths
paths_are [] all = tt
paths_are (path ∷ paths) all = (All-head IsPath path paths all, paths_are paths (All-tail IsPath path paths all))

path_at : (paths : List (List ℕ)) (number : ℕ) → All IsPath paths → IsPath (unwrap_or (slice_get paths number) [])
path_at [] number all = tt
path_at (path ∷ paths) zero all = All-head IsPath path paths all
path_at (path ∷ paths) (suc number) all = path_at paths number (All-tail IsPath path paths all)

dot_is : IsPath (codes ".")
dot_is = (λ same. let none : ⊥ = omega (arith, same) in none, tt)

text_is : (files : FileTable) (number : Option ℕ) → HasPaths files → IsPath (text_of files number)
text_is files None has = dot_is
text_is files (Some number) has = path_at files.directories number has.directories

first_is : (files : FileTable) → HasPaths files → IsPath (first_directory files)
first_is files has = by (file_of 0 files)
  where
    by : (found : Option SourceFile) → IsPath (option_map_or (λ file. text_of files file.directory) found (codes "."))
    by None = dot_is
    by (Some file) = text_is files file.directory has

pub directories_are : (files : FileTable) → HasPaths files → ArePaths (directories_of files)
directories_are files has =
    (first_is files has, paths_are (filter (is_other (first_directory files)) files.directories) (All-filter (is_other (first_directory files)) IsPath files.directories has.directories))

counted_on : {X : Type 0} (x : X) (xs : List X) (b : Bool) (count : ℕ) → count ≤ length xs → cond b (1 + count) 0 ≤ length (x ∷ xs)
counted_on x xs true count within = omega (arith, within)
counted_on x xs false count within = omega arith

place_within : {X : Type 0} (p : X → Bool) (xs : List X) → prefix_len p xs ≤ length xs
place_within p [] = omega arith
place_within p (x ∷ xs) = counted_on x xs (p x) (prefix_len p xs) (place_within p xs)

number_low : (files : FileTable) (number : Option ℕ) → length (directories_of files) < 2 ^ 64 → directory_number files number < 2 ^ 64
number_low files None few = omega arith
number_low files (Some number) few =
    let within = place_within (λ other. not (bytes_eq other (text_of files (Some number)))) (directories_of files) in omega (arith, within, few)

least_is : (found : List (Option SourceFile)) → All HasPath found → IsPath (unwrap_or (least found) nameless).name
least_is [] all = tt
least_is (None ∷ found) all = least_is found (All-tail HasPath None found all)
least_is (Some file ∷ found) all = All-head HasPath (Some file) found all

entries_are : (files : FileTable) (other : SourceFile) (found : List (Option SourceFile)) → length (directories_of files) < 2 ^ 64 → IsPath other.name → All HasPath found
    → AreFiles (map (λ found. entry files (unwrap_or found other)) found)
entries_are files other [] few is all = tt
entries_are files other (None ∷ found) few is all =
    (is, number_low files other.directory few, entries_are files other found few is (All-tail HasPath None found all))
entries_are files other (Some file ∷ found) few is all =
    (All-head HasPath (Some file) found all, number_low files file.directory few, entries_are files other found few is (All-tail HasPath (Some file) found all))

pub files_are : (files : FileTable) → length (directories_of files) < 2 ^ 64 → HasPaths files → AreFiles (files_of files)
files_are files few has = entries_are files (unwrap_or (least files.by_number) nameless) files.by_number few (least_is files.by_number has.names) has.names
