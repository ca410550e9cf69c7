-- Line tables worked out by hand.
use Rattle.std.specs.Prelude.{◌≡◌, ℕ, List, [], ◌∷◌, ◌++◌, codes, map, replicate, Option, Some, Result, Ok, Err, slice_get}
use Rattle.std.specs.Option.{option_map, option_and_then}
use Rattle.std.specs.Result.{result_ok}
use Rattle.asm_base.specs.declared.causes.FragCause.{FragCause}
use Rattle.asm_base.specs.declared.causes.FragCause.TheVariants.{BadSection}
use Rattle.asm_base.specs.declared.places.Place.{Place}
use Rattle.asm_frags.specs.SectionOf.{new_section}
use Rattle.asm_frags.specs.Sections.{section_flags}
use Rattle.asm_frags.specs.Writing.{LooseSection, with_bytes}
use Rattle.asm_symbols.specs.SymbolMap.{nothing_named}
use Rattle.line_directives.specs.Taking.{LineTable, LineDirective, numbered_file, table_of}
use Rattle.line_directives.specs.WorkedLines.{a_c, at_line, behind, file, line_of, loc_at}
use Rattle.table_pieces.specs.Made.{Made, pieces_bytes}
use Rattle.table_pieces.specs.Pieces.{Tables, tables_of}
use Rattle.line_table.specs.Placing.{unit_pieces, unit_end, placed}

-- a section of this name, with these bytes in it
abbrev pub section_with : List ℕ → ℕ → List ℕ → LooseSection
section_with name flags bytes = with_bytes at_line bytes (new_section name (section_flags flags) 1 0)

-- `.text` with a byte of code, and a section more with another one
abbrev pub code : List LooseSection
code = section_with (codes ".text") 6 (0x90 ∷ []) ∷ section_with (codes ".a") 6 (0xc3 ∷ []) ∷ []

-- something of the table that directives mean
abbrev pub of_lines : {A : Type 0} → (LineTable → A) → List LineDirective → Option A
of_lines tell directives = option_map tell (result_ok (table_of directives))

-- the bytes of the unit in section 2, as layout makes its pieces
abbrev pub unit_made : List LineDirective → List Made → Option (List ℕ)
unit_made directives mades = of_lines (λ lines. pieces_bytes (unit_pieces 2 code lines) mades) directives

-- where it ends
abbrev pub unit_stop : List LineDirective → Option Place
unit_stop directives = of_lines (λ lines. (unit_end 2 code lines).place) directives

-- a piece that holds this value
abbrev pub valued : ℕ → Made
valued value = record { size = 0; value = value }

-- a piece whose bytes are known before layout
abbrev pub known : Made
known = valued 0

-- a distance of 1 in one byte
abbrev pub one : Made
one = record { size = 1; value = 1 }

-- a sequence of rows without a gap, in a section that ends one byte behind the last row
abbrev pub sequence_made : List Made
sequence_made = known ∷ valued 0 ∷ known ∷ known ∷ one ∷ known ∷ []

-- eight zeros, where an address is due
abbrev pub address_blank : List ℕ
address_blank = replicate 8 0

-- a unit of this length with a header of this length, its directories and its files, before other bytes
abbrev pub unit_with : ℕ → ℕ → List ℕ → List ℕ → List ℕ → List ℕ
unit_with length header directories files bytes =
    length ∷ 0x00 ∷ 0x00 ∷ 0x00 ∷ 0x05 ∷ 0x00 ∷ 0x08 ∷ 0x00 ∷ header ∷ 0x00 ∷ 0x00 ∷ 0x00 ∷ 0x01 ∷ 0x01 ∷ 0x01 ∷ 0xfb ∷ 0x0e ∷ 0x0d
    ∷ 0x00 ∷ 0x01 ∷ 0x01 ∷ 0x01 ∷ 0x01 ∷ 0x00 ∷ 0x00 ∷ 0x00 ∷ 0x01 ∷ 0x00 ∷ 0x00 ∷ 0x01 ∷ 0x01 ∷ 0x01 ∷ 0x08
    ∷ (directories ++ 0x02 ∷ 0x01 ∷ 0x08 ∷ 0x02 ∷ 0x0f ∷ (files ++ bytes))

-- one directory, `.`
abbrev pub dot : List ℕ
dot = 0x01 ∷ 0x2e ∷ 0x00 ∷ []

-- "a.c" in directory 0
abbrev pub a_c_entry : List ℕ
a_c_entry = 0x61 ∷ 0x2e ∷ 0x63 ∷ 0x00 ∷ 0x00 ∷ []

-- "a.c" as files 0 and 1
abbrev pub two_a_c : List ℕ
two_a_c = 0x02 ∷ (a_c_entry ++ a_c_entry)

-- "c.c"
abbrev pub c_c : List ℕ
c_c = 0x63 ∷ 0x2e ∷ 0x63 ∷ []

-- a sequence with the bytes of its rows, in a section that ends one byte behind the last row
abbrev pub sequence_with : List ℕ → List ℕ
sequence_with rows = 0x00 ∷ 0x09 ∷ 0x02 ∷ (address_blank ++ (rows ++ 0x02 ∷ 0x01 ∷ 0x00 ∷ 0x01 ∷ 0x01 ∷ []))

-- no symbol, and `.text` and `.a` with these sections behind them
abbrev pub tables_with : List LooseSection → Tables
tables_with others = tables_of nothing_named (code ++ others)

-- an empty `.debug_line` of this section type
abbrev pub table_of_type : ℕ → LooseSection
table_of_type kind = new_section (codes ".debug_line") (section_flags 0) kind 0

-- what is placed for directives
abbrev pub placed_for : List LineDirective → List LooseSection → Option (Result Tables FragCause)
placed_for directives others = of_lines (λ lines. placed lines (tables_with others)) directives

-- something of section 2, where the table is placed
abbrev pub of_table : {A : Type 0} → (LooseSection → A) → List LineDirective → Option A
of_table tell directives =
    option_map tell (option_and_then (λ tables. slice_get tables.sections 2) (option_and_then result_ok (placed_for directives [])))

-- what a section header says
abbrev pub header : LooseSection → List ℕ × ℕ × ℕ × ℕ
header held = (held.name, held.flags.0, held.kind, held.entry_size)

-- .file 1 "a.c"
abbrev pub alone : List LineDirective
alone = file 1 a_c ∷ []

-- .file 1 "a.c" / .loc 1 3 5 / nop
abbrev pub one_row : List LineDirective
one_row = file 1 a_c ∷ loc_at 0 (behind 0 0) (line_of 1 3 5) ∷ []

-- .file 3 "c.c" / .file 1 "a.c" / .loc 3 1 / nop
abbrev pub file_3 : List LineDirective
file_3 = file 3 c_c ∷ file 1 a_c ∷ loc_at 0 (behind 0 0) (line_of 3 1 0) ∷ []

-- .file 0 "d" "n" / .file 1 "d" "m" / .loc 1 1 / nop
abbrev pub one_directory : List LineDirective
one_directory =
    numbered_file at_line 0 (Some (0x64 ∷ [])) (0x6e ∷ []) ∷ numbered_file at_line 1 (Some (0x64 ∷ [])) (0x6d ∷ []) ∷ loc_at 0 (behind 0 0) (line_of 1 1 0) ∷ []

-- .file 1 "e" "m" / .file 2 "." "n" / .file 3 "f" "o": directory 0 is `.`, and the others are numbered in the order in which they are first seen
abbrev pub three_directories : List LineDirective
three_directories =
    numbered_file at_line 1 (Some (0x65 ∷ [])) (0x6d ∷ []) ∷ numbered_file at_line 2 (Some (0x2e ∷ [])) (0x6e ∷ [])
    ∷ numbered_file at_line 3 (Some (0x66 ∷ [])) (0x6f ∷ []) ∷ []

-- .file 1 "a.c" / .section .a,"ax",@progbits / .loc 1 1 / ret / .text / .loc 1 2 / nop
abbrev pub two_sections : List LineDirective
two_sections = file 1 a_c ∷ loc_at 1 (behind 0 0) (line_of 1 1 0) ∷ loc_at 0 (behind 0 0) (line_of 1 2 0) ∷ []

-- .file 1 "a.c" / .loc 1 1, behind an item that grows / .loc 1 2: the second row has a gap, and the end stands behind it
abbrev pub over_an_item : List LineDirective
over_an_item = file 1 a_c ∷ loc_at 0 (behind 0 0) (line_of 1 1 0) ∷ loc_at 0 (behind 1 0) (line_of 1 2 0) ∷ []

-- the bytes of units, where they end, and the section that they are put into
pub record WorkedTables : Type 0 where
  pub a_file_alone : unit_made alone (valued 0x30 ∷ known ∷ []) ≡ Some (unit_with 0x30 0x28 dot two_a_c [])
  pub rows_of_one_section : unit_made one_row (valued 0x45 ∷ known ∷ sequence_made)
      ≡ Some (unit_with 0x45 0x28 dot two_a_c (sequence_with (0x05 ∷ 0x05 ∷ 0x03 ∷ 0x02 ∷ 0x01 ∷ [])))
  pub a_gap_of_numbers : unit_made file_3 (valued 0x4d ∷ known ∷ sequence_made)
      ≡ Some (unit_with 0x4d 0x32 dot (0x04 ∷ (a_c_entry ++ (a_c_entry ++ (a_c_entry ++ 0x63 ∷ 0x2e ∷ 0x63 ∷ 0x00 ∷ 0x00 ∷ []))))
      (sequence_with (0x04 ∷ 0x03 ∷ 0x01 ∷ [])))
  pub directory_0 : unit_made one_directory (valued 0x3d ∷ known ∷ sequence_made)
      ≡ Some (unit_with 0x3d 0x24 (0x01 ∷ 0x64 ∷ 0x00 ∷ []) (0x02 ∷ 0x6e ∷ 0x00 ∷ 0x00 ∷ 0x6d ∷ 0x00 ∷ 0x00 ∷ []) (sequence_with (0x01 ∷ [])))
  pub others_behind_it : unit_made three_directories (valued 0x36 ∷ known ∷ [])
      ≡ Some (unit_with 0x36 0x2e (0x03 ∷ 0x2e ∷ 0x00 ∷ 0x65 ∷ 0x00 ∷ 0x66 ∷ 0x00 ∷ [])
      (0x04 ∷ 0x6d ∷ 0x00 ∷ 0x01 ∷ 0x6d ∷ 0x00 ∷ 0x01 ∷ 0x6e ∷ 0x00 ∷ 0x00 ∷ 0x6f ∷ 0x00 ∷ 0x02 ∷ []) [])
  pub in_the_order_of_sections : unit_made two_sections (valued 0x54 ∷ known ∷ (sequence_made ++ sequence_made))
      ≡ Some (unit_with 0x54 0x28 dot two_a_c (sequence_with (0x03 ∷ 0x01 ∷ 0x01 ∷ []) ++ sequence_with (0x01 ∷ [])))
  pub a_distance_of_300 : unit_made over_an_item
      (valued 0x47 ∷ known ∷ known ∷ valued 0 ∷ known ∷ record { size = 2; value = 300 } ∷ known ∷ known ∷ one ∷ known ∷ [])
      ≡ Some (unit_with 0x47 0x28 dot two_a_c (sequence_with (0x01 ∷ 0x03 ∷ 0x01 ∷ 0x02 ∷ 0xac ∷ 0x02 ∷ 0x01 ∷ [])))
  pub ends_alone : unit_stop alone ≡ Some (behind 1 52)
  pub ends_behind_rows : unit_stop one_row ≡ Some (behind 3 72)
  pub ends_behind_a_gap : unit_stop over_an_item ≡ Some (behind 5 72)
  pub nothing : placed_for [] (table_of_type 8 ∷ []) ≡ Some (Ok (tables_with (table_of_type 8 ∷ [])))
  pub of_zeros : placed_for alone (table_of_type 8 ∷ []) ≡ Some (Err BadSection)
  pub with_a_byte : placed_for alone (with_bytes at_line (0 ∷ []) (table_of_type 1) ∷ []) ≡ Some (Err BadSection)
  pub bytes : of_table (λ held. held.bytes) one_row
      ≡ Some (unit_with 0x00 0x28 dot two_a_c (0x00 ∷ 0x09 ∷ 0x02 ∷ (address_blank ++ 0x05 ∷ 0x05 ∷ 0x03 ∷ 0x02 ∷ 0x01 ∷ 0x02 ∷ 0x00 ∷ 0x01 ∷ 0x01 ∷ [])))
  pub offsets : of_table (λ held. map (λ field. field.offset) held.fields) one_row ≡ Some (0 ∷ 55 ∷ 69 ∷ [])
  pub items : of_table (λ held. map (λ item. item.offset) held.items) one_row ≡ Some (0 ∷ 69 ∷ 69 ∷ [])
  pub made : of_table header one_row ≡ Some (codes ".debug_line", 0, 1, 0)
