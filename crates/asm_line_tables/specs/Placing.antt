-- What `.loc`, and `.file` with a number, place (GNU as manual, ".loc", ".file"; DWARF 5, section 6.2).
use Rattle.std.specs.Prelude.{ℕ, ◌^◌, not, Bool, false, List, [], ◌∷◌, Option, None, Some, slice_get, Result, Ok, Err, if◌then◌else◌}
use Rattle.asm_base.specs.declared.positions.Pos.{Pos}
use Rattle.asm_base.specs.Refusals.{◌>>=◌}
use Rattle.asm_base.specs.Tokens.{SpelledToken}
use Rattle.asm_expr.specs.Knowledge.{Knowledge}
use Rattle.asm_expr.specs.Trees.{Tree}
use Rattle.asm_frags.specs.Writing.{LooseSection, takes_zeros_alone}
use Rattle.asm_operands.specs.declared.place_faults.PlaceCause.{PlaceCause}
use Rattle.asm_operands.specs.declared.place_faults.PlaceCause.TheVariants as placing
use Rattle.asm_operands.specs.Expressions.{form_in, constant_in}
use Rattle.asm_operands.specs.Operands.{each}
use Rattle.asm_uses.specs.declared.tables.Naming.{Naming}
use Rattle.asm_uses.specs.Tables.{naming_of, allowed}
use Rattle.asm_values.specs.State.{Placed, with_table, with_names, here, known_here}
use Rattle.line_directives.specs.declared.faults.LineTableCause.{LineTableCause}
use Rattle.line_directives.specs.declared.faults.LineTableCause.TheVariants.{UnassignedFileNumber, FileNumberInUse}
use Rattle.line_directives.specs.declared.loc_lines.LocLine.{LocLine}
use Rattle.line_directives.specs.Taking.{LineTable, located, filed}
use Rattle.asm_line_tables.specs.declared.words.LocNumbers.{LocNumbers}
use Rattle.asm_line_tables.specs.Numbers.{no_numbers, below, with_numbers, loc_line}
use Rattle.asm_line_tables.specs.Words.{LocWords, loc_words, FileWords, file_words}

-- the fault of a directive as one of placing
abbrev pub line_fault : LineTableCause → PlaceCause
line_fault UnassignedFileNumber = placing.UnassignedFileNumber
line_fault FileNumberInUse = placing.FileNumberInUse

-- what the line table answers, as a statement has it
abbrev pub of_lines : {A : Type 0} → Result A LineTableCause → Result A PlaceCause
of_lines (Ok made) = Ok made
of_lines (Err cause) = Err (line_fault cause)

-- what is placed, with this line table
abbrev pub with_lines : Placed → LineTable → Placed
with_lines placed lines = record placed { lines = lines }

-- the line table is taken over where the names of expressions are allowed
abbrev pub end_taking : Naming → LineTable → Placed → Result Placed PlaceCause
end_taking naming lines named = allowed naming named.table >>= λ table. Ok (with_lines (with_table named table) lines)

-- `.loc`

-- a row can stand in the section: it is there, and takes more than zeros
abbrev pub takes_rows : Option LooseSection → Bool
takes_rows None = false
takes_rows (Some held) = not (takes_zeros_alone held)

-- a row at the place of the statement: the fault of its file number comes before that of the section, and this one before those of names
unfoldable pub take_loc : Naming → LocLine → Placed → Result Placed PlaceCause
take_loc naming line named =
    of_lines (located line (here named).place named.lines) >>= λ lines.
    (if takes_rows (slice_get named.sections named.current) then end_taking naming lines named else Err placing.BadSection)

-- the numbers that expressions are: the forms of all are made before a value is asked for, and all have a value before one is looked at
unfoldable pub known_numbers : Knowledge → LocWords → Result LocNumbers PlaceCause
known_numbers known words =
    each (form_in known) words.trees >>= λ forms. each constant_in forms >>= λ values. with_numbers words.kinds values no_numbers

-- what a `.loc` says is placed, once each name of its expressions has a symbol
abbrev pub place_loc_words : Naming → LocWords → Placed → Result Placed PlaceCause
place_loc_words naming words named =
    known_numbers (known_here named) words >>= λ numbers. take_loc naming (loc_line numbers words.marks) named

-- `.loc`
unfoldable pub place_loc : Pos → List SpelledToken → Placed → Result Placed PlaceCause
place_loc pos tokens placed =
    loc_words tokens >>= λ words.
    place_loc_words (naming_of words.trees placed.table) words (with_names pos words.trees placed)

-- `.file` WITH A NUMBER

-- a file under this number
unfoldable pub take_file : Naming → Pos → ℕ → Option (List ℕ) → List ℕ → Placed → Result Placed PlaceCause
take_file naming pos number directory name named =
    of_lines (filed pos number directory name named.lines) >>= λ lines. end_taking naming lines named

-- a number that is 0 to 65,535
abbrev pub checked_number : ℕ → Result ℕ PlaceCause
checked_number value = below (2 ^ 16) value

-- the number that an expression is
abbrev pub file_number : Knowledge → Tree → Result ℕ PlaceCause
file_number known tree = form_in known tree >>= λ form. constant_in form >>= checked_number

-- what a `.file` says is placed, once each name of its expression has a symbol
abbrev pub place_file_words : Naming → Pos → FileWords → Placed → Result Placed PlaceCause
place_file_words naming pos words named =
    file_number (known_here named) words.number >>= λ number. take_file naming pos number words.directory words.name named

-- `.file` with a number
unfoldable pub place_numbered_file : Pos → List SpelledToken → Placed → Result Placed PlaceCause
place_numbered_file pos tokens placed =
    file_words tokens >>= λ words.
    place_file_words (naming_of (words.number ∷ []) placed.table) pos words (with_names pos (words.number ∷ []) placed)
