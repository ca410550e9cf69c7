-- What a reader finds of the sections and symbols of each object (gABI, chapter 4, "Sections" and "Symbol Table").
use Rattle.std.specs.Prelude.{◌≡◌, ℕ, ◌+◌, ◌/◌, ◌%◌, ◌<◌, ◌≤◌, ◌≢◌, true, List, length, Option, None, Some, codes, slice_get, slice_index_or, option_and_then}
use Rattle.std.specs.List.{list_all}
use Rattle.asm_frags.specs.SectionOf.{SectionOf}
use Rattle.asm_symbols.specs.SymbolMap.{SymbolMap}
use Rattle.asm_relax.specs.Settling.{LaidItem, LaidSections}
use Rattle.elf_file.specs.declared.reader.SectionHeader.{SectionHeader}
use Rattle.elf_file.specs.declared.reader.SymbolRecord.{SymbolRecord}
use Rattle.elf_file.specs.Reader.{content_at, section_header_of, symbol_record, text_from}
use Rattle.elf_file.specs.Sections.{SectionEntry, string_section, symbol_section}
use Rattle.elf_file.specs.StringTable.{is_no_end, string_table_of}
use Rattle.elf_symbols.specs.SymbolTable.{SymbolEntry, binding_number, section_index_of, symbol_names, symbol_table_of, type_number, visibility_number}
use Rattle.elf_object.specs.Contents.{relocations_of}
use Rattle.elf_object.specs.Image.{image_of}
use Rattle.elf_object.specs.Sections.{header_indices, source_section}
use Rattle.elf_object.specs.TableLaws.{info_in, table_in}
use Rattle.object_laws.specs.FileReading.{SectionRead}
use Rattle.object_laws.specs.ObjectLimits.{ObjectFits, symbol_table_index}

-- the index of the header of the section of this number of the source
abbrev pub header_index : SymbolMap → LaidSections → ℕ → ℕ
header_index symbols sections number = slice_index_or (header_indices sections (relocations_of symbols sections)) number 0

-- the header of each section of the source says what that section is, and leads to its bytes
abbrev pub SourceSectionsRead : Type 0
SourceSectionsRead = (symbols : SymbolMap) (sections : LaidSections) (number : ℕ) (section : SectionOf LaidItem) → ObjectFits symbols sections
    → slice_get sections number ≡ Some section
    → SectionRead (image_of symbols sections) (header_index symbols sections number) (source_section symbols sections section)

-- the symbol table: its sh_link is the index of the string table behind it, its sh_info the number of the first symbol
-- that is not local
abbrev pub symbol_table_section : SymbolMap → LaidSections → SectionEntry
symbol_table_section symbols sections =
    symbol_section (symbol_table_index symbols sections + 1) (info_in symbols sections)
    (symbol_table_of (header_indices sections (relocations_of symbols sections)) (table_in symbols sections))

-- the string table of the names of symbols
abbrev pub symbol_names_section : SymbolMap → LaidSections → SectionEntry
symbol_names_section symbols sections = string_section (codes ".strtab") (string_table_of (symbol_names (table_in symbols sections)))

-- the header of the symbol table, and that of the names of symbols behind it
abbrev pub SymbolTablesRead : Type 0
SymbolTablesRead = (symbols : SymbolMap) (sections : LaidSections) → ObjectFits symbols sections
    → SectionRead (image_of symbols sections) (symbol_table_index symbols sections) (symbol_table_section symbols sections)
    × SectionRead (image_of symbols sections) (symbol_table_index symbols sections + 1) (symbol_names_section symbols sections)

-- where no section of the source has type SHT_SYMTAB, the one header of that type is that of the symbol table
abbrev pub SymbolTablesFound : Type 0
SymbolTablesFound = (symbols : SymbolMap) (sections : LaidSections) (index : ℕ) (header : SectionHeader) → ObjectFits symbols sections
    → ((number : ℕ) (section : SectionOf LaidItem) → slice_get sections number ≡ Some section → section.kind ≢ 2)
    → section_header_of (image_of symbols sections) index ≡ Some header → header.kind ≡ 2 → index ≡ symbol_table_index symbols sections

-- the symbol of this number, where the symbol table has the header of this index
abbrev pub read_symbol : List ℕ → ℕ → ℕ → Option SymbolRecord
read_symbol file table number = option_and_then (λ bytes. symbol_record bytes number) (content_at file table)

-- the text at this offset of the string table that sh_link names
abbrev pub linked_text : List ℕ → ℕ → SectionHeader → Option (List ℕ)
linked_text file offset header = option_and_then (λ bytes. text_from bytes offset) (content_at file header.link)

-- the name of a symbol
abbrev pub read_symbol_name : List ℕ → ℕ → SymbolRecord → Option (List ℕ)
read_symbol_name file table symbol = option_and_then (linked_text file symbol.name) (section_header_of file table)

-- the symbol of this number has all that the entry says; binding and type are the high and the low half of st_info
pub record SymbolRead (file : List ℕ) (table number : ℕ) (headers : List ℕ) (entry : SymbolEntry) : Type 0 where
  pub symbol : SymbolRecord
  pub found : read_symbol file table number ≡ Some symbol
  pub binding : symbol.info / 16 ≡ binding_number entry.binding
  pub kind : symbol.info % 16 ≡ type_number entry.kind
  pub visibility : symbol.other ≡ visibility_number entry.visibility
  pub section : symbol.section ≡ section_index_of headers entry.section
  pub value : symbol.value ≡ entry.value
  pub size : symbol.size ≡ entry.size
  pub name : list_all is_no_end entry.name ≡ true → read_symbol_name file table symbol ≡ Some entry.name

-- the symbol of this number of the object has all that the entry says
abbrev pub ObjectSymbolRead : SymbolMap → LaidSections → ℕ → SymbolEntry → Type 0
ObjectSymbolRead symbols sections number entry =
    SymbolRead (image_of symbols sections) (symbol_table_index symbols sections) number (header_indices sections (relocations_of symbols sections)) entry

-- so for each entry of the symbol table; the null symbol stands before them
abbrev pub SymbolsRead : Type 0
SymbolsRead = (symbols : SymbolMap) (sections : LaidSections) (index : ℕ) (entry : SymbolEntry) → ObjectFits symbols sections
    → slice_get (table_in symbols sections) index ≡ Some entry → ObjectSymbolRead symbols sections (index + 1) entry

-- the null symbol: all zero
abbrev pub null_symbol : SymbolRecord
null_symbol = record { name = 0; info = 0; other = 0; section = 0; value = 0; size = 0 }

-- symbol 0 is the null symbol
abbrev pub NullSymbolsRead : Type 0
NullSymbolsRead = (symbols : SymbolMap) (sections : LaidSections) → ObjectFits symbols sections
    → read_symbol (image_of symbols sections) (symbol_table_index symbols sections) 0 ≡ Some null_symbol

-- there are no other symbols
abbrev pub SymbolsEnd : Type 0
SymbolsEnd = (symbols : SymbolMap) (sections : LaidSections) (number : ℕ) → ObjectFits symbols sections → length (table_in symbols sections) < number
    → read_symbol (image_of symbols sections) (symbol_table_index symbols sections) number ≡ None

-- each symbol that is there has binding STB_LOCAL if its number is below sh_info, and another one else
abbrev pub LocalsRead : Type 0
LocalsRead = (symbols : SymbolMap) (sections : LaidSections) (number : ℕ) (symbol : SymbolRecord) → ObjectFits symbols sections
    → read_symbol (image_of symbols sections) (symbol_table_index symbols sections) number ≡ Some symbol
    → (number < info_in symbols sections → symbol.info / 16 ≡ 0) × (info_in symbols sections ≤ number → symbol.info / 16 ≢ 0)
