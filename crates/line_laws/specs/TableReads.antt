-- A line table as it stands in the file (DWARF 5, section 6.2).
use Rattle.std.specs.Prelude.{◌≡◌, ℕ, ◌+◌, ◌≤◌, ◌==◌, true, false, List, [], ◌∷◌, codes, length, map, take, Option, None, Some, Ok, IsSomeAnd, slice_get}
use Rattle.asm_base.specs.declared.places.Place.{Place}
use Rattle.asm_base.specs.declared.positions.Pos.{Pos}
use Rattle.asm_frags.specs.Fields.{own_place}
use Rattle.asm_frags.specs.SectionOf.{SectionOf, is_section_named}
use Rattle.asm_frags.specs.Writing.{LooseSection}
use Rattle.asm_symbols.specs.SymbolMap.{SymbolMap}
use Rattle.asm_relax.specs.Settling.{LaidItem, LaidSections, layout_of}
use Rattle.elf_file.specs.Places.{PieceAt}
use Rattle.elf_file.specs.Sections.{no_bits}
use Rattle.elf_object.specs.Image.{image_of}
use Rattle.elf_object.specs.Places.{section_offset, moved}
use Rattle.line_rows.specs.declared.rows.LineRow.{LineRow}
use Rattle.line_rows.specs.Header.{line_at}
use Rattle.line_rows.specs.Places.{PlacedRow, placed_due}
use Rattle.line_rows.specs.Tables.{table_bytes}
use Rattle.line_rows.specs.Writing as writing
use Rattle.line_rows.specs.Writing.{program_bytes}
use Rattle.line_directives.specs.declared.sequences.Sequence.{Sequence}
use Rattle.line_directives.specs.Meanings.{RowAt, rows_of}
use Rattle.line_directives.specs.Taking.{LineTable, LineDirective, table_of}
use Rattle.table_pieces.specs.Pieces.{Tables}
use Rattle.line_table.specs.Header.{directories_of, files_of}
use Rattle.line_table.specs.Placing.{placed}
use Rattle.line_table.specs.Sequences.{place_in, end_in}
use Rattle.piece_laws.specs.LaidTables.{IsLow, place_address}
use Rattle.piece_laws.specs.Pointers.{HoldsAddress}
use Rattle.line_laws.specs.PlacedLines.{RowsReady, TablesReady}

-- ROWS

-- a row at its place in the layout; how its distance is written does not matter here
abbrev pub laid_row : LaidSections → ℕ → RowAt → PlacedRow
laid_row laid section row = record { place = place_address laid (place_in section row.0); digits = []; row = row.1 }

-- the row that is due so many bytes behind the first one of a section that ends there: the last one at or before that place, and none from the end on
abbrev pub row_meant : LaidSections → ℕ → Place → List RowAt → ℕ → Option LineRow
row_meant laid section end [] at = None
row_meant laid section end (row ∷ rows) at = placed_due at (record {
  start = place_address laid (place_in section row.0);
  first = row.1;
  others = map (laid_row laid section) rows;
  end = place_address laid (place_in section end);
  digits = [];
})

-- THE TABLE

-- how many of these are there
abbrev pub how_many : List (Option Sequence) → ℕ
how_many [] = 0
how_many (None ∷ sequences) = how_many sequences
how_many (Some sequence ∷ sequences) = how_many sequences + 1

-- how many sections before that of this number have rows
abbrev pub rows_before : ℕ → LineTable → ℕ
rows_before section lines = how_many (take section lines.sequences)

-- the table of the files that directives gave, with these sequences
abbrev pub written_table : LineTable → List writing.Sequence → List ℕ
written_table lines sequences = table_bytes (directories_of lines.files) (files_of lines.files) (program_bytes sequences)

-- where in the table the address of a sequence is that stands behind these: three bytes into it
abbrev pub address_behind : LineTable → List writing.Sequence → ℕ
address_behind lines sequences = length (written_table lines sequences) + 3

-- the sequence of a section with these rows, up to its end: at each distance from the first row the table gives the row that is due there, and the sequence's
-- address field has one relocation, to the place of the first row
pub record SequenceReads (map : SymbolMap) (laid : LaidSections) (number : ℕ) (lines : LineTable) (sequences : List writing.Sequence) (section : ℕ) (end : Place) (row : RowAt)
    (rows : List RowAt) : Type 0 where
  pub start : IsSomeAnd (slice_get laid number)
      (λ held. HoldsAddress map laid number held (address_behind lines (take (rows_before section lines) sequences)) (place_in section row.0))
  pub reads : (at : ℕ) → line_at (written_table lines sequences) (rows_before section lines) at ≡ row_meant laid section end (row ∷ rows) at

-- the section is `.debug_line`, and has bytes in the file
pub record IsLineSection (section : SectionOf LaidItem) : Type 0 where
  pub named : is_section_named (codes ".debug_line") section ≡ true
  pub filed : (section.kind == no_bits) ≡ false

-- the table of the directives is all of `.debug_line` in the file; for each section with rows it has a sequence, in the order of their numbers, and no others, which reads as
-- the directives mean, up to where the section ended before the table was put
pub record LineTableReads (file : List ℕ) (map : SymbolMap) (laid : LaidSections) (sections : List LooseSection) (directives : List LineDirective) (lines : LineTable) : Type 0 where
  pub number : ℕ
  pub section : IsSomeAnd (slice_get laid number) IsLineSection
  pub sequences : List writing.Sequence
  pub count : length sequences ≡ how_many lines.sequences
  pub stands : PieceAt file (section_offset map laid number) (written_table lines sequences)
  pub whole : IsSomeAnd (slice_get laid number)
      (λ held. moved held.items (length held.items) (length held.bytes) ≡ length (written_table lines sequences))
  pub each : (section : ℕ) (row : RowAt) (rows : List RowAt) → rows_of section directives ≡ row ∷ rows
      → SequenceReads map laid number lines sequences section (end_in section sections) row rows

-- where what was placed is ready for a table, rows stand in order, and there are not too many symbols and no section is too large: the table reads in the file
-- as the directives mean
abbrev pub LineTablesRead : Type 0
LineTablesRead = (pos : Pos) (directives : List LineDirective) (lines : LineTable) (tables after : Tables) (laid : LaidSections) → table_of directives ≡ Ok lines
    → lines.first ≡ Some pos → TablesReady tables → RowsReady tables.sections directives → placed lines tables ≡ Ok after
    → length after.symbols.symbols ≤ own_place → layout_of after.symbols after.sections ≡ Ok laid → IsLow after laid
    → LineTableReads (image_of after.symbols laid) after.symbols laid tables.sections directives lines
