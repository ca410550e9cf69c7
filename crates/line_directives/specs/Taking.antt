-- What the directives of a line table mean, one after the other (GNU as manual, ".file", ".loc").
use Rattle.std.specs.Prelude.{◌≡◌, ℕ, List, [], ◌∷◌, Bool, true, false, Option, None, Some, unwrap_or, is_some, Result, Ok, Err, IsOk, if◌then◌else◌}
use Rattle.asm_base.specs.declared.places.SectionPlace.{SectionPlace}
use Rattle.asm_base.specs.declared.positions.Pos.{Pos}
use Rattle.asm_base.specs.declared.refusals.Refusal.{Refusal}
use Rattle.asm_base.specs.declared.refusals.Refusal.TheVariants.{Fault, NoMemory}
use Rattle.asm_base.specs.Refusals.{◌>>=◌}
use Rattle.line_rows.specs.declared.rows.LineRow.{LineRow}
use Rattle.line_directives.specs.declared.faults.LineTableCause.{LineTableCause}
use Rattle.line_directives.specs.declared.faults.LineTableCause.TheVariants.{UnassignedFileNumber, FileNumberInUse}
use Rattle.line_directives.specs.declared.loc_lines.LocLine.{LocLine}
use Rattle.line_directives.specs.declared.sequences.Sequence.{Sequence}
use Rattle.line_directives.specs.Rows.{row_with}
use Rattle.line_directives.specs.SourceFiles.{FileTable, no_files, file_of, is_given, with_file}
use Rattle.line_directives.specs.Sequences.{with_row_in}

-- the table so far: where its first `.file` is, the files, what stays from one `.loc` to the next, the rows of each section by its number
pub record LineTable : Type 0 where
  pub first : Option Pos
  pub files : FileTable
  pub is_stmt : Bool
  pub isa : ℕ
  pub sequences : List (Option Sequence)

-- no directive
abbrev pub no_lines : LineTable
no_lines = record { first = None; files = no_files; is_stmt = true; isa = 0; sequences = [] }

-- the table with a file, by whether it is the one under its number
abbrev pub file_taken : Option Bool → Pos → ℕ → Option (List ℕ) → List ℕ → LineTable → Result LineTable LineTableCause
file_taken None pos number directory name table =
    Ok (record table { first = Some (unwrap_or table.first pos); files = with_file number directory name table.files })
file_taken (Some true) pos number directory name table = Ok table
file_taken (Some false) pos number directory name table = Err FileNumberInUse

-- `.file` with a number: a number that is given again has to be the same file's
abbrev pub filed : Pos → ℕ → Option (List ℕ) → List ℕ → LineTable → Result LineTable LineTableCause
filed pos number directory name table = file_taken (is_given number directory name table.files) pos number directory name table

-- the table with these rows
abbrev pub with_sequences : List (Option Sequence) → LineTable → LineTable
with_sequences sequences table = record table { sequences = sequences }

-- the table with a row behind those of its section
abbrev pub with_section_row : SectionPlace → LineRow → LineTable → LineTable
with_section_row at row table = with_sequences (with_row_in at row table.sequences) table

-- the table with a row, of which `is_stmt` and `isa` stay
abbrev pub with_line : SectionPlace → LineRow → LineTable → LineTable
with_line at row table = record (with_section_row at row table) { is_stmt = row.is_stmt; isa = row.isa }

-- `.loc`: its file number is one that a `.file` before it gave
abbrev pub located : LocLine → SectionPlace → LineTable → Result LineTable LineTableCause
located line at table =
    if is_some (file_of line.file table.files) then Ok (with_line at (row_with table.is_stmt table.isa line) table) else Err UnassignedFileNumber

-- a directive: `.file` with its position, number, directory and name, or `.loc` at its place
pub data LineDirective : Type 0 where
  numbered_file : Pos → ℕ → Option (List ℕ) → List ℕ → LineDirective
  loc : LocLine → SectionPlace → LineDirective

-- the table after a directive
abbrev pub taken : LineDirective → LineTable → Result LineTable LineTableCause
taken (numbered_file pos number directory name) table = filed pos number directory name table
taken (loc line at) table = located line at table

-- the table after directives, one after the other
abbrev pub taken_from : LineTable → List LineDirective → Result LineTable LineTableCause
taken_from table [] = Ok table
taken_from table (directive ∷ directives) = taken directive table >>= λ next. taken_from next directives

-- the table of a source that has these directives, in source order
abbrev pub table_of : List LineDirective → Result LineTable LineTableCause
table_of directives = taken_from no_lines directives

-- the call made the due value, or is refused for a fault and changed nothing; want of memory comes only where no fault is due
abbrev pub Changes : {Value : Type 0} → Value → Value → Result (Unit {0}) (Refusal LineTableCause) → Result Value LineTableCause → Type 0
Changes old new (Ok done) due = due ≡ Ok new
Changes old new (Err (Fault cause)) due = (due ≡ Err cause) × (new ≡ old)
Changes old new (Err NoMemory) due = IsOk due
