-- What holds of the bytes of each object: names and sections stand where the tables say.
use Rattle.std.specs.Prelude.{◌≡◌, ℕ, ◌+◌, ◌*◌, true, List, Some, slice_get, slice_index_or}
use Rattle.std.specs.List.{list_all}
use Rattle.elf_file.specs.Image.{header_end, elf_header, with_names, file_with}
use Rattle.elf_file.specs.Places.{PieceAt, body_offset}
use Rattle.elf_file.specs.Sections.{SectionEntry, file_bytes, section_header}
use Rattle.elf_file.specs.StringTable.{is_no_end, name_offsets, string_at, string_table_of}

-- a name without a zero byte is read from its table at its offset; so st_name and sh_name name just the symbol's or the section's name
abbrev pub NamesStand : Type 0
NamesStand = (names : List (List ℕ)) (index : ℕ) (name : List ℕ) → slice_get names index ≡ Some name → list_all is_no_end name ≡ true
    → string_at (slice_index_or (name_offsets names) index 0) (string_table_of names) ≡ name

-- the ELF header says where the header table stands; there the section's header says where its bytes stand, and there they do
pub record SectionStands (file : List ℕ) (index : ℕ) (s : SectionEntry) : Type 0 where
  pub table : ℕ
  pub count : ℕ
  pub name : ℕ
  pub offset : ℕ
  pub first : PieceAt file 0 (elf_header table count)
  pub header : PieceAt file (table + 64 * (index + 1)) (section_header name offset s)
  pub bytes : PieceAt file offset (file_bytes s.content)

-- so for each section of a file, the tables at its end too
abbrev pub SectionsStand : Type 0
SectionsStand = (entries : List SectionEntry) (index : ℕ) (s : SectionEntry) → slice_get (with_names entries) index ≡ Some s → SectionStands (file_with entries) index s

-- and the bytes of each of the given sections stand behind those before it
abbrev pub BodiesStand : Type 0
BodiesStand = (entries : List SectionEntry) (index : ℕ) (s : SectionEntry) → slice_get entries index ≡ Some s → PieceAt (file_with entries) (body_offset header_end entries index) (file_bytes s.content)
