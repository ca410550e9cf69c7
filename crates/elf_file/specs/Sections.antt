-- Sections and their headers (gABI, chapter 4, "Sections").
use Rattle.std.specs.Prelude.{ℕ, ◌+◌, List, [], ◌++◌, length, map, flat_map, bit_and, Bool, codes, if◌then◌else◌}
use Rattle.elf_file.specs.Fields.{word, xword}

-- SHT_NOBITS: the section takes no bytes in the file (gABI, chapter 4, "Sections")
abbrev pub no_bits : ℕ
no_bits = 8

-- what a section holds: bytes, or space that takes none in the file
pub data Content : Type 0 where
  stored : List ℕ → Content
  nobits : ℕ → Content

-- the bytes in the file
abbrev pub file_bytes : Content → List ℕ
file_bytes (stored bytes) = bytes
file_bytes (nobits size) = []

-- the size in memory
abbrev pub content_size : Content → ℕ
content_size (stored bytes) = length bytes
content_size (nobits size) = size

-- a section, and what its header says of it
pub record SectionEntry : Type 0 where
  pub name : List ℕ
  pub kind : ℕ
  pub flags : ℕ
  pub alignment : ℕ
  pub entry_size : ℕ
  pub link : ℕ
  pub info : ℕ
  pub content : Content

-- the header of a section whose name and bytes stand at these offsets (Elf64_Shdr)
abbrev pub section_header : ℕ → ℕ → SectionEntry → List ℕ
section_header name offset s =
    word name ++ word s.kind ++ xword s.flags ++ xword 0 ++ xword offset ++ xword (content_size s.content)
    ++ word s.link ++ word s.info ++ xword s.alignment ++ xword s.entry_size

-- a group of sections (SHT_GROUP), with the index of the symbol table and the number there of its signature's symbol (gABI, chapter 4, "Section Groups")
abbrev pub group_section : ℕ → ℕ → List ℕ → SectionEntry
group_section symbols signature bytes = record {
  name = codes ".group";
  kind = 17;
  flags = 0;
  alignment = 4;
  entry_size = 4;
  link = symbols;
  info = signature;
  content = stored bytes;
}

-- the words of a group: GRP_COMDAT, where a linker keeps one alone of the groups of a signature, or none, and the indices of its sections
abbrev pub group_bytes : Bool → List ℕ → List ℕ
group_bytes comdat members = word (if comdat then 1 else 0) ++ flat_map word members

-- SHF_GROUP: the section is in a group
abbrev pub in_group : ℕ
in_group = 0x200

-- the relocations of the section of these flags, this name and this index (SHT_RELA, SHF_INFO_LINK), with the index of the symbol table; they are in its group,
-- if it is in one
abbrev pub relocation_section : ℕ → ℕ → ℕ → List ℕ → List ℕ → SectionEntry
relocation_section flags symbols index name bytes = record {
  name = codes ".rela" ++ name;
  kind = 4;
  flags = 0x40 + bit_and flags in_group;
  alignment = 8;
  entry_size = 24;
  link = symbols;
  info = index;
  content = stored bytes;
}

-- the symbol table (SHT_SYMTAB), with the index of its string table and that of its first symbol that is not local
abbrev pub symbol_section : ℕ → ℕ → List ℕ → SectionEntry
symbol_section strings first bytes = record {
  name = codes ".symtab";
  kind = 2;
  flags = 0;
  alignment = 8;
  entry_size = 24;
  link = strings;
  info = first;
  content = stored bytes;
}

-- a string table (SHT_STRTAB)
abbrev pub string_section : List ℕ → List ℕ → SectionEntry
string_section name bytes = record {
  name = name;
  kind = 3;
  flags = 0;
  alignment = 1;
  entry_size = 0;
  link = 0;
  info = 0;
  content = stored bytes;
}

-- the names of the sections
unfoldable pub section_names : List SectionEntry → List (List ℕ)
section_names sections = map (λ s. s.name) sections
