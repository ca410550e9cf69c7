-- What lets the numbers of a file fit their fields (gABI, chapter 4, "Data Representation").
use Rattle.std.specs.Prelude.{◌≡◌, ℕ, ◌+◌, ◌^◌, ◌<◌, ◌==◌, Bool, true, false, List, length, Some, slice_get}
use Rattle.elf_file.specs.Image.{all_names, file_with}
use Rattle.elf_file.specs.Sections.{Content, stored, nobits, SectionEntry, no_bits}
use Rattle.elf_file.specs.StringTable.{string_table_of}

-- what is held takes no bytes in the file
abbrev pub is_space : Content → Bool
is_space (stored bytes) = false
is_space (nobits size) = true

-- the size of such space
abbrev pub space_size : Content → ℕ
space_size (stored bytes) = 0
space_size (nobits size) = size

-- each number fits its Elf64_Word or Elf64_Xword, as those of the program do; just space has type SHT_NOBITS
pub record SectionFits (s : SectionEntry) : Type 0 where
  pub kind : s.kind < 2 ^ 32
  pub flags : s.flags < 2 ^ 64
  pub space : space_size s.content < 2 ^ 64
  pub link : s.link < 2 ^ 32
  pub info : s.info < 2 ^ 32
  pub alignment : s.alignment < 2 ^ 64
  pub entry_size : s.entry_size < 2 ^ 64
  pub agrees : (s.kind == no_bits) ≡ is_space s.content

-- e_shnum is an Elf64_Half, and counts the null header and that of the names too; sh_name is an Elf64_Word, and
-- sh_offset an Elf64_Xword
pub record FileFits (entries : List SectionEntry) : Type 0 where
  pub sections : (index : ℕ) (s : SectionEntry) → slice_get entries index ≡ Some s → SectionFits s
  pub count : length entries + 2 < 2 ^ 16
  pub names : length (string_table_of (all_names entries)) < 2 ^ 32
  pub size : length (file_with entries) < 2 ^ 64
