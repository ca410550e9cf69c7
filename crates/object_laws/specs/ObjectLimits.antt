-- What lets the numbers of an object fit their fields (gABI, chapter 4, "Data Representation").
use Rattle.std.specs.Prelude.{◌≡◌, ℕ, ◌+◌, ◌^◌, ◌<◌, List, length, Some, slice_get}
use Rattle.asm_frags.specs.SectionOf.{SectionOf}
use Rattle.asm_symbols.specs.SymbolMap.{SymbolMap}
use Rattle.asm_relax.specs.Settling.{LaidItem, LaidSections}
use Rattle.elf_file.specs.Image.{all_names, file_with}
use Rattle.elf_file.specs.Sections.{SectionEntry}
use Rattle.elf_file.specs.StringTable.{string_table_of}
use Rattle.elf_symbols.specs.Limits.{SymbolFits}
use Rattle.elf_symbols.specs.SymbolTable.{SymbolEntry, symbol_names}
use Rattle.elf_object.specs.Contents.{relocations_of}
use Rattle.elf_object.specs.Image.{file_sections, image_of}
use Rattle.elf_object.specs.Limits.{SourceFits}
use Rattle.elf_object.specs.Sections.{first_header, next_header}
use Rattle.elf_object.specs.TableLaws.{table_in}
use Rattle.object_laws.specs.Limits.{FileFits}

-- the sections of the file up to the table of their names
abbrev pub entries_of : SymbolMap → LaidSections → List SectionEntry
entries_of symbols sections = file_sections symbols sections (relocations_of symbols sections)

-- where the header of the symbol table stands: behind those of groups, of the sections of the source and of their relocations
abbrev pub symbol_table_index : SymbolMap → LaidSections → ℕ
symbol_table_index symbols sections = next_header (first_header sections) (relocations_of symbols sections)

-- the headers, symbols, names and bytes are few enough; behind the symbol table stand the headers of the names of
-- symbols and of sections. The limits of a source keep them so: 2^26 bytes, 30,000 sections and groups, 2^24 symbols
pub record ObjectFits (symbols : SymbolMap) (sections : LaidSections) : Type 0 where
  pub source_sections : (number : ℕ) (section : SectionOf LaidItem) → slice_get sections number ≡ Some section → SourceFits section
  pub symbol_values : (index : ℕ) (entry : SymbolEntry) → slice_get (table_in symbols sections) index ≡ Some entry → SymbolFits entry
  pub header_count : symbol_table_index symbols sections + 3 < 2 ^ 16
  pub symbol_count : length (table_in symbols sections) + 1 < 2 ^ 32
  pub symbol_names_size : length (string_table_of (symbol_names (table_in symbols sections))) < 2 ^ 32
  pub section_names_size : length (string_table_of (all_names (entries_of symbols sections))) < 2 ^ 32
  pub file_size : length (image_of symbols sections) < 2 ^ 64

-- an object is the file of these sections, and all that is read of files whose numbers fit is read of it
abbrev pub ObjectsAreFiles : Type 0
ObjectsAreFiles = (symbols : SymbolMap) (sections : LaidSections) → ObjectFits symbols sections
    → (image_of symbols sections ≡ file_with (entries_of symbols sections)) × FileFits (entries_of symbols sections)
