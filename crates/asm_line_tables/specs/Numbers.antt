-- The values of a `.loc`, each in its range.
use Rattle.std.specs.Prelude.{ℕ, ◌^◌, ◌==◌, nat_lt, List, [], ◌∷◌, None, Some, if◌then◌else◌, Result, Ok, Err}
use Rattle.asm_base.specs.Refusals.{◌>>=◌}
use Rattle.asm_operands.specs.declared.place_faults.PlaceCause.{PlaceCause}
use Rattle.asm_operands.specs.declared.place_faults.PlaceCause.TheVariants.{OutOfRange}
use Rattle.line_directives.specs.declared.loc_lines.LocLine.{LocLine}
use Rattle.asm_line_tables.specs.declared.words.LocMarks.{LocMarks}
use Rattle.asm_line_tables.specs.declared.words.LocNumbers.{LocNumbers}
use Rattle.asm_line_tables.specs.declared.words.LocValue.{LocValue}
use Rattle.asm_line_tables.specs.declared.words.LocValue.TheVariants.{File, Line, Column, IsStmt, Isa, Discriminator}

-- what is left out is none or 0
abbrev pub no_numbers : LocNumbers
no_numbers = record { file = 0; line = 0; column = 0; is_stmt = None; isa = None; discriminator = 0 }

-- a number below this bound
abbrev pub below : ℕ → ℕ → Result ℕ PlaceCause
below bound value = if nat_lt value bound then Ok value else Err OutOfRange

-- the numbers with a value more, in place of what was said before: file numbers are 0 to 65,535, `is_stmt` is 0 or 1, all others are 0 to 2^31 - 1
abbrev pub with_number : LocValue → ℕ → LocNumbers → Result LocNumbers PlaceCause
with_number File value numbers = below (2 ^ 16) value >>= λ number. Ok (record numbers { file = number })
with_number Line value numbers = below (2 ^ 31) value >>= λ number. Ok (record numbers { line = number })
with_number Column value numbers = below (2 ^ 31) value >>= λ number. Ok (record numbers { column = number })
with_number IsStmt value numbers = below 2 value >>= λ number. Ok (record numbers { is_stmt = Some (number == 1) })
with_number Isa value numbers = below (2 ^ 31) value >>= λ number. Ok (record numbers { isa = Some number })
with_number Discriminator value numbers = below (2 ^ 31) value >>= λ number. Ok (record numbers { discriminator = number })

-- the numbers with several values more, one after the other
abbrev pub with_numbers : List LocValue → List ℕ → LocNumbers → Result LocNumbers PlaceCause
with_numbers [] values numbers = Ok numbers
with_numbers (kind ∷ kinds) [] numbers = Ok numbers
with_numbers (kind ∷ kinds) (value ∷ values) numbers = with_number kind value numbers >>= with_numbers kinds values

-- the row that is meant
abbrev pub loc_line : LocNumbers → LocMarks → LocLine
loc_line numbers marks = record {
  file = numbers.file;
  line = numbers.line;
  column = numbers.column;
  is_stmt = numbers.is_stmt;
  isa = numbers.isa;
  discriminator = numbers.discriminator;
  basic_block = marks.basic_block;
  prologue_end = marks.prologue_end;
  epilogue_begin = marks.epilogue_begin;
}
