-- Directives of line tables and what they mean, worked out by hand (GNU as manual, ".file", ".loc"; DWARF 5, section 6.2.5).
use Rattle.std.specs.Prelude.{◌≡◌, ℕ, List, [], ◌∷◌, false, Option, None, Some, map, Ok, Err}
use Rattle.asm_base.specs.declared.places.Place.{Place}
use Rattle.asm_base.specs.declared.places.SectionPlace.{SectionPlace}
use Rattle.asm_base.specs.declared.positions.Pos.{Pos}
use Rattle.line_rows.specs.declared.rows.LineRow.{LineRow}
use Rattle.line_rows.specs.declared.sections.Gap.{Gap}
use Rattle.line_rows.specs.Machine.{first_row}
use Rattle.line_rows.specs.Writing.{registers_of}
use Rattle.line_directives.specs.declared.faults.LineTableCause.TheVariants.{UnassignedFileNumber, FileNumberInUse}
use Rattle.line_directives.specs.declared.loc_lines.LocLine.{LocLine}
use Rattle.line_directives.specs.declared.sequences.Sequence.{Sequence}
use Rattle.line_directives.specs.declared.source_files.SourceFile.{SourceFile}
use Rattle.line_directives.specs.SourceFiles.{FileTable, no_files}
use Rattle.line_directives.specs.Taking.{LineTable, no_lines, LineDirective, numbered_file, loc, table_of}

-- "a.c", and other names of one byte
abbrev pub a_c : List ℕ
a_c = 0x61 ∷ 0x2e ∷ 0x63 ∷ []

-- so many plain bytes into a section, behind so many items
abbrev pub behind : ℕ → ℕ → Place
behind item offset = record { item = item; offset = offset }

-- all directives are at one line of the source
abbrev pub at_line : Pos
at_line = record { file = 0; line = 1 }

-- `.file` with this number, in no directory
abbrev pub file : ℕ → List ℕ → LineDirective
file number name = numbered_file at_line number None name

-- `.loc` of a file, a line and a column, with no more
abbrev pub line_of : ℕ → ℕ → ℕ → LocLine
line_of file line column = record {
  file = file;
  line = line;
  column = column;
  is_stmt = None;
  isa = None;
  discriminator = 0;
  basic_block = false;
  prologue_end = false;
  epilogue_begin = false;
}

-- at a place of the section of this number
abbrev pub loc_at : ℕ → Place → LocLine → LineDirective
loc_at section place line = loc line (record { section = section; place = place })

-- the rows of a section: their first place, their last one, the bytes, the gaps, and the last row
abbrev pub made : Place → Place → List ℕ → List Gap → LineRow → Sequence
made start last bytes gaps row =
    record { start = start; last = last; row = row; rows = record { bytes = bytes; gaps = gaps; registers = registers_of row } }

-- a row of file 1
abbrev pub row : ℕ → ℕ → LineRow
row line column = record first_row { line = line; column = column }

-- a file in no directory
abbrev pub alone : List ℕ → SourceFile
alone name = record { directory = None; name = name }

-- the table of file 1, "a.c", and these sequences
abbrev pub table : List (Option Sequence) → LineTable
table sequences = record no_lines { first = Some at_line; files = record { by_number = None ∷ Some (alone a_c) ∷ []; directories = [] }; sequences = sequences }

-- what tables come to: the sources in the comments show the directives, the places are the numbers that stand with them
pub record WorkedLines : Type 0 where
  -- .file 1 "a.c" / nop / .loc 1 2
  pub one_row : table_of (file 1 a_c ∷ loc_at 0 (behind 0 1) (line_of 1 2 0) ∷ [])
      ≡ Ok (table (Some (made (behind 0 1) (behind 0 1) (0x03 ∷ 0x01 ∷ 0x01 ∷ []) [] (row 2 0)) ∷ []))
  -- .file 1 "a.c" / .loc 1 3 5 / nop / .loc 1 4 / ret
  pub two_rows : table_of (file 1 a_c ∷ loc_at 0 (behind 0 0) (line_of 1 3 5) ∷ loc_at 0 (behind 0 1) (line_of 1 4 0) ∷ [])
      ≡ Ok (table (Some (made (behind 0 0) (behind 0 1)
      (0x05 ∷ 0x05 ∷ 0x03 ∷ 0x02 ∷ 0x01 ∷ 0x05 ∷ 0x00 ∷ 0x03 ∷ 0x01 ∷ 0x02 ∷ 0x01 ∷ 0x01 ∷ []) [] (row 4 0)) ∷ []))
  -- .file 1 "a.c" / .loc 1 3 / .loc 1 4 / ret
  pub at_one_place : table_of (file 1 a_c ∷ loc_at 0 (behind 0 0) (line_of 1 3 0) ∷ loc_at 0 (behind 0 0) (line_of 1 4 0) ∷ [])
      ≡ Ok (table (Some (made (behind 0 0) (behind 0 0)
      (0x03 ∷ 0x02 ∷ 0x01 ∷ 0x03 ∷ 0x01 ∷ 0x02 ∷ 0x00 ∷ 0x01 ∷ []) [] (row 4 0)) ∷ []))
  -- .file 1 "a.c" / .loc 1 0 / nop
  pub line_0 : table_of (file 1 a_c ∷ loc_at 0 (behind 0 0) (line_of 1 0 0) ∷ [])
      ≡ Ok (table (Some (made (behind 0 0) (behind 0 0) (0x03 ∷ 0x7f ∷ 0x01 ∷ []) [] (row 0 0)) ∷ []))
  -- .file 1 "a.c" / .loc 1 1 0 isa 3 / nop / .loc 1 2 / nop
  pub isa_stays : table_of (file 1 a_c ∷ loc_at 0 (behind 0 0) (record (line_of 1 1 0) { isa = Some 3 }) ∷ loc_at 0 (behind 0 1) (line_of 1 2 0) ∷ [])
      ≡ Ok (record (table (Some (made (behind 0 0) (behind 0 1)
      (0x0c ∷ 0x03 ∷ 0x01 ∷ 0x03 ∷ 0x01 ∷ 0x02 ∷ 0x01 ∷ 0x01 ∷ []) [] (record (row 2 0) { isa = 3 })) ∷ [])) { isa = 3 })
  -- .file 1 "a.c" / .loc 1 1 0 is_stmt 0 / nop / .section .a,"ax",@progbits / .loc 1 2: it stays in another section, where the registers begin anew
  pub is_stmt_stays : table_of (file 1 a_c ∷ loc_at 0 (behind 0 0) (record (line_of 1 1 0) { is_stmt = Some false }) ∷ loc_at 3 (behind 0 0) (line_of 1 2 0) ∷ [])
      ≡ Ok (record (table (Some (made (behind 0 0) (behind 0 0) (0x06 ∷ 0x01 ∷ []) [] (record (row 1 0) { is_stmt = false })) ∷ None ∷ None
      ∷ Some (made (behind 0 0) (behind 0 0) (0x06 ∷ 0x03 ∷ 0x01 ∷ 0x01 ∷ []) [] (record (row 2 0) { is_stmt = false })) ∷ [])) { is_stmt = false })
  -- .file 3 "c.c" / .file 1 "a.c" / .loc 3 1 / nop
  pub file_3 : table_of (file 3 (0x63 ∷ 0x2e ∷ 0x63 ∷ []) ∷ file 1 a_c ∷ loc_at 0 (behind 0 0) (line_of 3 1 0) ∷ [])
      ≡ Ok (record (table (Some (made (behind 0 0) (behind 0 0) (0x04 ∷ 0x03 ∷ 0x01 ∷ []) [] (record (row 1 0) { file = 3 })) ∷ [])) {
        files = record { by_number = None ∷ Some (alone a_c) ∷ None ∷ Some (alone (0x63 ∷ 0x2e ∷ 0x63 ∷ [])) ∷ []; directories = [] };
      })
  -- .file 0 "d" "n" / .file 1 "d" "m"
  pub one_directory : table_of (numbered_file at_line 0 (Some (0x64 ∷ [])) (0x6e ∷ []) ∷ numbered_file at_line 1 (Some (0x64 ∷ [])) (0x6d ∷ []) ∷ [])
      ≡ Ok (record no_lines {
        first = Some at_line;
        files = record {
          by_number = Some (record { directory = Some 0; name = 0x6e ∷ [] }) ∷ Some (record { directory = Some 0; name = 0x6d ∷ [] }) ∷ [];
          directories = (0x64 ∷ []) ∷ [];
        };
      })
  -- .file 1 "a.c" / .loc 1 1 / jmp 1f / .loc 1 2 / .zero 128 / 1: / .loc 1 3 / ret: the jump is an item, which grows
  pub over_a_jump : table_of (file 1 a_c ∷ loc_at 0 (behind 0 0) (line_of 1 1 0) ∷ loc_at 0 (behind 1 0) (line_of 1 2 0) ∷ loc_at 0 (behind 1 128) (line_of 1 3 0) ∷ [])
      ≡ Ok (table (Some (made (behind 0 0) (behind 1 128)
      (0x01 ∷ 0x03 ∷ 0x01 ∷ 0x02 ∷ 0x01 ∷ 0x03 ∷ 0x01 ∷ 0x02 ∷ 0x80 ∷ 0x01 ∷ 0x01 ∷ [])
      (record { at = 4; from = behind 0 0; to = behind 1 0 } ∷ []) (row 3 0)) ∷ []))
  -- .file 1 "a.c" / .section .a,"ax",@progbits / .loc 1 1 / nop / .text / .loc 1 2 / ret: in the order of the sections
  pub two_sections : table_of (file 1 a_c ∷ loc_at 3 (behind 0 0) (line_of 1 1 0) ∷ loc_at 0 (behind 0 0) (line_of 1 2 0) ∷ [])
      ≡ Ok (table (Some (made (behind 0 0) (behind 0 0) (0x03 ∷ 0x01 ∷ 0x01 ∷ []) [] (row 2 0)) ∷ None ∷ None
      ∷ Some (made (behind 0 0) (behind 0 0) (0x01 ∷ []) [] (row 1 0)) ∷ []))
  -- the same file again, and then another name, and another directory
  pub given_again : table_of (file 1 a_c ∷ file 1 a_c ∷ []) ≡ Ok (table [])
  pub other_name : table_of (file 1 (0x61 ∷ []) ∷ file 1 (0x62 ∷ []) ∷ []) ≡ Err FileNumberInUse
  pub other_directory : table_of (file 1 a_c ∷ numbered_file at_line 1 (Some (0x2e ∷ [])) a_c ∷ []) ≡ Err FileNumberInUse
  -- .loc 2 1 / ..
  pub no_file : table_of (loc_at 0 (behind 0 0) (line_of 2 1 0) ∷ []) ≡ Err UnassignedFileNumber
  pub before_its_file : table_of (loc_at 0 (behind 0 0) (line_of 1 1 0) ∷ file 1 a_c ∷ []) ≡ Err UnassignedFileNumber
