-- What a reader finds in the bytes of each file of sections (gABI, chapter 4, "ELF Header" and "Sections").
use Rattle.std.specs.Prelude.{◌≡◌, ℕ, ◌+◌, ◌-◌, ◌*◌, ◌<◌, ◌≤◌, true, List, length, None, Some, slice_get, option_map, position}
use Rattle.std.specs.List.{list_all}
use Rattle.std.specs.Str.{bytes_eq}
use Rattle.elf_file.specs.declared.reader.HeaderTable.{HeaderTable}
use Rattle.elf_file.specs.declared.reader.SectionHeader.{SectionHeader}
use Rattle.elf_file.specs.Image.{file_with, with_names}
use Rattle.elf_file.specs.Reader.{header_table_of, section_header_of, section_content, section_name_of, named_section}
use Rattle.elf_file.specs.Sections.{SectionEntry, content_size, file_bytes}
use Rattle.elf_file.specs.StringTable.{is_no_end}
use Rattle.object_laws.specs.Limits.{FileFits}

-- a table of so many headers that ends the file; the last of them is that of the names
abbrev pub table_ending : List ℕ → ℕ → HeaderTable
table_ending file count = record { offset = length file - 64 * count; count = count; names = count - 1 }

-- e_shoff says where the header table stands, e_shnum how many headers it has, and e_shstrndx which one is that of the
-- names: besides the sections there are the null header and the names
abbrev pub HeaderTablesRead : Type 0
HeaderTablesRead = (entries : List SectionEntry) → FileFits entries
    → header_table_of (file_with entries) ≡ Some (table_ending (file_with entries) (length entries + 2))

-- the header of no section: all zero
abbrev pub null_fields : SectionHeader
null_fields = record {
  name = 0;
  kind = 0;
  flags = 0;
  address = 0;
  offset = 0;
  size = 0;
  link = 0;
  info = 0;
  alignment = 0;
  entry_size = 0;
}

-- the header at index 0 is that of no section
abbrev pub NullHeadersRead : Type 0
NullHeadersRead = (entries : List SectionEntry) → FileFits entries → section_header_of (file_with entries) 0 ≡ Some null_fields

-- there are no other headers
abbrev pub HeadersEnd : Type 0
HeadersEnd = (entries : List SectionEntry) (index : ℕ) → FileFits entries → length entries + 2 ≤ index → section_header_of (file_with entries) index ≡ None

-- what the header says of the section, but for where its name and bytes stand; a relocatable file has no addresses
pub record Describes (h : SectionHeader) (s : SectionEntry) : Type 0 where
  pub kind : h.kind ≡ s.kind
  pub flags : h.flags ≡ s.flags
  pub address : h.address ≡ 0
  pub size : h.size ≡ content_size s.content
  pub link : h.link ≡ s.link
  pub info : h.info ≡ s.info
  pub alignment : h.alignment ≡ s.alignment
  pub entry_size : h.entry_size ≡ s.entry_size

-- the header of this index describes the section, and leads to just its bytes by sh_offset and sh_size, and to just its
-- name, if that has no zero byte, by sh_name
pub record SectionRead (file : List ℕ) (index : ℕ) (s : SectionEntry) : Type 0 where
  pub header : SectionHeader
  pub found : section_header_of file index ≡ Some header
  pub describes : Describes header s
  pub bytes : section_content file header ≡ Some (file_bytes s.content)
  pub name : list_all is_no_end s.name ≡ true → section_name_of file index ≡ Some s.name

-- so for each section of a file, the names at its end too; the null header stands before them
abbrev pub SectionsRead : Type 0
SectionsRead = (entries : List SectionEntry) (index : ℕ) (s : SectionEntry) → FileFits entries → slice_get (with_names entries) index ≡ Some s
    → SectionRead (file_with entries) (index + 1) s

-- a look for a name finds the first section of that name, and none where there is none
abbrev pub NamedSectionsRead : Type 0
NamedSectionsRead = (entries : List SectionEntry) (name : List ℕ) → FileFits entries → list_all (λ s. list_all is_no_end s.name) entries ≡ true → 0 < length name
    → named_section (file_with entries) name ≡ option_map (λ index. index + 1) (position (λ s. bytes_eq s.name name) (with_names entries))
