-- The source files of a line table (DWARF 5, section 6.2.4), as `.file` with a number gives them.
use Rattle.std.specs.Prelude.{ℕ, List, [], ◌∷◌, ◌++◌, Bool, true, false, Option, None, Some, length, ◌==◌, ◌&&◌, if◌then◌else◌}
use Rattle.std.specs.List.{position_or_len}
use Rattle.std.specs.Option.{option_map}
use Rattle.std.specs.Str.{bytes_eq}
use Rattle.line_directives.specs.declared.source_files.SourceFile.{SourceFile}
use Rattle.line_directives.specs.Numbered.{under, put_under}

-- the files by their numbers, and the directories in the order in which they are first seen
pub record FileTable : Type 0 where
  pub by_number : List (Option SourceFile)
  pub directories : List (List ℕ)

-- none
abbrev pub no_files : FileTable
no_files = record { by_number = []; directories = [] }

-- the place of a directory in the order, which is behind all where it is not seen yet
abbrev pub place_of : List ℕ → List (List ℕ) → ℕ
place_of directory directories = position_or_len (λ other. bytes_eq other directory) directories

-- the directories with one more, where it is new
abbrev pub with_directory : List ℕ → List (List ℕ) → List (List ℕ)
with_directory directory directories =
    if place_of directory directories == length directories then directories ++ directory ∷ [] else directories

-- the place of a directory, if there is one
abbrev pub place_in : Option (List ℕ) → List (List ℕ) → Option ℕ
place_in None directories = None
place_in (Some directory) directories = Some (place_of directory directories)

-- the file of this name in this directory, or in none
abbrev pub file_in : Option (List ℕ) → List ℕ → List (List ℕ) → SourceFile
file_in directory name directories = record { directory = place_in directory directories; name = name }

-- the directories with that of a file
abbrev pub with_directory_of : Option (List ℕ) → List (List ℕ) → List (List ℕ)
with_directory_of None directories = directories
with_directory_of (Some directory) directories = with_directory directory directories

-- whether both are in no directory, or in the same one
abbrev pub same_directory : Option ℕ → Option ℕ → Bool
same_directory None None = true
same_directory (Some a) (Some b) = a == b
same_directory _ _ = false

-- whether two files are one
abbrev pub same_file : SourceFile → SourceFile → Bool
same_file a b = same_directory a.directory b.directory && bytes_eq a.name b.name

-- the file under a number, if `.file` gave it
abbrev pub file_of : ℕ → FileTable → Option SourceFile
file_of number table = under number table.by_number

-- whether this file is the one under a number, where that has one
abbrev pub is_given : ℕ → Option (List ℕ) → List ℕ → FileTable → Option Bool
is_given number directory name table =
    option_map (λ file. same_file file (file_in directory name table.directories)) (file_of number table)

-- the table with a file under a number that has none
abbrev pub with_file : ℕ → Option (List ℕ) → List ℕ → FileTable → FileTable
with_file number directory name table = record {
  by_number = put_under number (file_in directory name table.directories) table.by_number;
  directories = with_directory_of directory table.directories;
}
