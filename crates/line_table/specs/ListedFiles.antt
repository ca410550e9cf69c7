-- What the header of a line table lists is what the directives gave (DWARF 5, section 6.2.4).
use Rattle.std.specs.Prelude.{◌≡◌, ℕ, List, ◌∷◌, ◌++◌, Option, None, Some, Ok, slice_get}
use Rattle.asm_base.specs.declared.positions.Pos.{Pos}
use Rattle.line_directives.specs.SourceFiles.{FileTable}
use Rattle.line_directives.specs.Taking.{LineTable, LineDirective, numbered_file, table_of}
use Rattle.line_table.specs.Header.{directories_of, files_of}

-- a directory's number is 0 where the file is in none, else that of its text
abbrev pub IsNumberOf : FileTable → Option (List ℕ) → ℕ → Type 0
IsNumberOf files None at = at ≡ 0
IsNumberOf files (Some text) at = slice_get (directories_of files) at ≡ Some text

-- the entry of this number names the file: its name, and its directory's number
pub record IsListed (files : FileTable) (number : ℕ) (directory : Option (List ℕ)) (name : List ℕ) : Type 0 where
  pub at : ℕ
  pub entry : slice_get (files_of files) number ≡ Some (name, at)
  pub numbered : IsNumberOf files directory at

-- each file that a directive gives is listed under its number, and no directory is listed twice
pub record FilesAreListed : Type 0 where
  pub listed : (before after : List LineDirective) (lines : LineTable) (pos : Pos) (number : ℕ) (directory : Option (List ℕ)) (name : List ℕ)
      → table_of (before ++ numbered_file pos number directory name ∷ after) ≡ Ok lines
      → IsListed lines.files number directory name
  pub apart : (directives : List LineDirective) (lines : LineTable) (first second : ℕ) (text : List ℕ) → table_of directives ≡ Ok lines
      → slice_get (directories_of lines.files) first ≡ Some text → slice_get (directories_of lines.files) second ≡ Some text
      → first ≡ second
