-- The header of a line table, from the files that directives gave (DWARF 5, section 6.2.4).
use Rattle.std.specs.Prelude.{ℕ, not, Bool, List, [], ◌∷◌, ◌++◌, codes, length, map, Option, None, Some, unwrap_or, slice_get}
use Rattle.std.specs.List.{filter}
use Rattle.std.specs.Option.{option_map_or}
use Rattle.std.specs.Str.{bytes_eq}
use Rattle.line_directives.specs.declared.source_files.SourceFile.{SourceFile}
use Rattle.line_directives.specs.SourceFiles.{FileTable, file_of, place_of}
use Rattle.leb128.specs.Digits.{uleb_bytes}
use Rattle.line_rows.specs.Header.{version_bytes, machine_bytes, file_bytes}
use Rattle.line_rows.specs.Tables.{File, entries_then, paths_then, files_then}
use Rattle.line_rows.specs.Writing.{word_then}

-- the text of a directory: `.` where a file has none
abbrev pub text_of : FileTable → Option ℕ → List ℕ
text_of files None = codes "."
text_of files (Some number) = unwrap_or (slice_get files.directories number) []

-- directory 0: that of file 0, else `.`
abbrev pub first_directory : FileTable → List ℕ
first_directory files = option_map_or (λ file. text_of files file.directory) (file_of 0 files) (codes ".")

-- whether a directory is not directory 0
abbrev pub is_other : List ℕ → List ℕ → Bool
is_other first directory = not (bytes_eq directory first)

-- the directories: directory 0, and the others in the order in which they are first seen
abbrev pub directories_of : FileTable → List (List ℕ)
directories_of files = first_directory files ∷ filter (is_other (first_directory files)) files.directories

-- the number of a file's directory, which is 0 where it has none
abbrev pub directory_number : FileTable → Option ℕ → ℕ
directory_number files None = 0
directory_number files (Some number) = place_of (text_of files (Some number)) (directories_of files)

-- a file as the table has it
abbrev pub entry : FileTable → SourceFile → File
entry files file = (file.name, directory_number files file.directory)

-- the file of the least number that is given
abbrev pub least : List (Option SourceFile) → Option SourceFile
least [] = None
least (None ∷ files) = least files
least (Some file ∷ files) = Some file

-- a file without a name, in no directory
abbrev pub nameless : SourceFile
nameless = record { directory = None; name = [] }

-- what stands under a number as the table has it; this file where none is given
abbrev pub entry_or : FileTable → SourceFile → Option SourceFile → File
entry_or files other found = entry files (unwrap_or found other)

-- the files from number 0 to the greatest; a number that is not given repeats the least given one
abbrev pub files_of : FileTable → List File
files_of files = map (entry_or files (unwrap_or (least files.by_number) nameless)) files.by_number

-- what the machine is, and the directories, before other bytes
abbrev pub directories_then : FileTable → List ℕ → List ℕ
directories_then files rest = machine_bytes ++ (uleb_bytes (length (directories_of files)) ++ paths_then (directories_of files) rest)

-- what a file entry is, and the files
abbrev pub file_entries : List File → List ℕ
file_entries files = file_bytes ++ (uleb_bytes (length files) ++ files_then files [])

-- all that the header's length counts
abbrev pub header_entries : FileTable → List ℕ
header_entries files = entries_then (directories_of files) (files_of files) []

-- the header behind the unit's length
abbrev pub header_bytes : FileTable → List ℕ
header_bytes files = version_bytes ++ word_then (length (header_entries files)) (header_entries files)
