-- What the bytes of an ELF64 file say, by the offsets of fields (gABI, chapter 4, "Object Files").
use Rattle.std.specs.Prelude.{ℕ, ◌+◌, ◌*◌, ◌==◌, ◌&&◌, Bool, false, List, [], length, take, drop, nat_eq, nat_le, nat_lt, Option, None, Some, option_map, option_and_then, find, if◌then◌else◌}
use Rattle.std.specs.List.{prefix_len, range_with_len, starts_with}
use Rattle.std.specs.Str.{bytes_eq}
use Rattle.elf_file.specs.declared.reader.HeaderTable.{HeaderTable}
use Rattle.elf_file.specs.declared.reader.SectionHeader.{SectionHeader}
use Rattle.elf_file.specs.declared.reader.SymbolRecord.{SymbolRecord}
use Rattle.elf_file.specs.declared.reader.RelocationRecord.{RelocationRecord}
use Rattle.elf_file.specs.declared.offsets.TheConstants.{EHDR_SIZE, E_SHNUM, E_SHOFF, E_SHSTRNDX, RELA_SIZE, R_ADDEND, R_OFFSET, R_SYM, R_TYPE, SHDR_SIZE, SH_ADDR, SH_ADDRALIGN, SH_ENTSIZE, SH_FLAGS, SH_INFO, SH_LINK, SH_NAME, SH_OFFSET, SH_SIZE, SH_TYPE, ST_INFO, ST_NAME, ST_OTHER, ST_SHNDX, ST_SIZE, ST_VALUE, SYM_SIZE}
use Rattle.elf_file.specs.Sections.{no_bits}
use Rattle.elf_file.specs.Fields.{byte_at, half_at, magic, word_at, xword_at}
use Rattle.elf_file.specs.StringTable.{is_no_end, string_at}

-- so many bytes at this offset, where that many stand there
abbrev pub piece_at : List ℕ → ℕ → ℕ → Option (List ℕ)
piece_at bytes offset size =
    if nat_le (offset + size) (length bytes) then Some (take size (drop offset bytes)) else None

-- the entry of this index, of a table of entries of this size
abbrev pub table_entry : List ℕ → ℕ → ℕ → Option (List ℕ)
table_entry table size index = piece_at table (size * index) size

-- the file is as long as an ELF header and begins with the magic bytes; its class and byte order are taken for granted
abbrev pub has_file_header : List ℕ → Bool
has_file_header file = nat_le EHDR_SIZE (length file) && starts_with nat_eq file magic

-- e_shoff, e_shnum and e_shstrndx of an ELF header (Elf64_Ehdr)
abbrev pub header_table_in : List ℕ → HeaderTable
header_table_in header = record {
  offset = xword_at header E_SHOFF;
  count = half_at header E_SHNUM;
  names = half_at header E_SHSTRNDX;
}

-- where the header table of a file stands, if it is an ELF file
unfoldable pub header_table_of : List ℕ → Option HeaderTable
header_table_of file = if has_file_header file then Some (header_table_in file) else None

-- the fields of a section header (Elf64_Shdr)
unfoldable pub header_in : List ℕ → SectionHeader
header_in entry = record {
  name = word_at entry SH_NAME;
  kind = word_at entry SH_TYPE;
  flags = xword_at entry SH_FLAGS;
  address = xword_at entry SH_ADDR;
  offset = xword_at entry SH_OFFSET;
  size = xword_at entry SH_SIZE;
  link = word_at entry SH_LINK;
  info = word_at entry SH_INFO;
  alignment = xword_at entry SH_ADDRALIGN;
  entry_size = xword_at entry SH_ENTSIZE;
}

-- the entry of this index in the header table, if there are more than that
abbrev pub header_at : List ℕ → ℕ → HeaderTable → Option SectionHeader
header_at file index table =
    if nat_lt index table.count
    then option_map header_in (table_entry (drop table.offset file) SHDR_SIZE index) else None

-- the header of the section of this index
unfoldable pub section_header_of : List ℕ → ℕ → Option SectionHeader
section_header_of file index = option_and_then (header_at file index) (header_table_of file)

-- the bytes of a section; one of type SHT_NOBITS has none in the file
unfoldable pub section_content : List ℕ → SectionHeader → Option (List ℕ)
section_content file header =
    if header.kind == no_bits then Some [] else piece_at file header.offset header.size

-- the text at this offset of a string table, if a zero byte ends it (gABI, chapter 4, "String Table")
unfoldable pub text_from : List ℕ → ℕ → Option (List ℕ)
text_from strings offset =
    if nat_lt (prefix_len is_no_end (drop offset strings)) (length (drop offset strings))
    then Some (string_at offset strings) else None

-- the bytes of the section of this index
abbrev pub content_at : List ℕ → ℕ → Option (List ℕ)
content_at file index = option_and_then (section_content file) (section_header_of file index)

-- the name of a section with this header: sh_name is its offset in the section of e_shstrndx
abbrev pub name_by : List ℕ → SectionHeader → HeaderTable → Option (List ℕ)
name_by file header table =
    option_and_then (λ strings. text_from strings header.name) (content_at file table.names)

-- the name of a section with this header
abbrev pub header_name : List ℕ → SectionHeader → Option (List ℕ)
header_name file header = option_and_then (name_by file header) (header_table_of file)

-- the name of the section of this index
unfoldable pub section_name_of : List ℕ → ℕ → Option (List ℕ)
section_name_of file index = option_and_then (header_name file) (section_header_of file index)

-- the name is there, and is this one
abbrev pub is_same_name : List ℕ → Option (List ℕ) → Bool
is_same_name name None = false
is_same_name name (Some found) = bytes_eq found name

-- the first of so many sections that has this name
abbrev pub first_named : List ℕ → List ℕ → ℕ → Option ℕ
first_named file name count =
    find (λ index. is_same_name name (section_name_of file index)) (range_with_len 0 count)

-- the index of the first section of this name
unfoldable pub named_section : List ℕ → List ℕ → Option ℕ
named_section file name =
    option_and_then (λ table. first_named file name table.count) (header_table_of file)

-- the fields of an entry of the symbol table (Elf64_Sym)
unfoldable pub symbol_in : List ℕ → SymbolRecord
symbol_in entry = record {
  name = word_at entry ST_NAME;
  info = byte_at entry ST_INFO;
  other = byte_at entry ST_OTHER;
  section = half_at entry ST_SHNDX;
  value = xword_at entry ST_VALUE;
  size = xword_at entry ST_SIZE;
}

-- the symbol of this index, in the bytes of a symbol table
unfoldable pub symbol_record : List ℕ → ℕ → Option SymbolRecord
symbol_record symbols index = option_map symbol_in (table_entry symbols SYM_SIZE index)

-- the fields of a relocation (Elf64_Rela); r_info is the type in its low half and the symbol above it
unfoldable pub relocation_in : List ℕ → RelocationRecord
relocation_in entry = record {
  offset = xword_at entry R_OFFSET;
  kind = word_at entry R_TYPE;
  symbol = word_at entry R_SYM;
  addend = xword_at entry R_ADDEND;
}

-- the relocation of this index, in the bytes of a section of type SHT_RELA
unfoldable pub relocation_record : List ℕ → ℕ → Option RelocationRecord
relocation_record entries index = option_map relocation_in (table_entry entries RELA_SIZE index)
