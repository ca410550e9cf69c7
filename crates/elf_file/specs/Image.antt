-- The bytes of an ELF64 relocatable object file (gABI, chapter 4; psABI for AMD64, chapter 4).
use Rattle.std.specs.Prelude.{ℕ, ◌+◌, ◌-◌, List, [], ◌∷◌, ◌++◌, length, max, replicate, codes}
use Rattle.std.specs.Int.{next_multiple_of}
use Rattle.elf_file.specs.Fields.{half, magic, word, xword}
use Rattle.elf_file.specs.StringTable.{string_table_of, name_offsets}
use Rattle.elf_file.specs.Sections.{SectionEntry, file_bytes, section_header, string_section, section_names}

-- the least multiple of the alignment that is not below the position; 0 and 1 both ask for no alignment
abbrev pub next_multiple : ℕ → ℕ → ℕ
next_multiple alignment position = next_multiple_of position (max 1 alignment)

-- zeros from the position up to the alignment
abbrev pub gap : ℕ → ℕ → List ℕ
gap alignment position = replicate (next_multiple alignment position - position) 0

-- what stands from the position on for a section
abbrev pub body_from : ℕ → SectionEntry → List ℕ
body_from position s = gap s.alignment position ++ file_bytes s.content

-- what stands from the position on for the sections, up to the header table
abbrev pub bodies_from : ℕ → List SectionEntry → List ℕ
bodies_from position [] = gap 8 position
bodies_from position (s ∷ ss) = body_from position s ++ bodies_from (position + length (body_from position s)) ss

-- the header of a section whose body stands from the position on, and whose name at this offset
abbrev pub header_from : ℕ → ℕ → SectionEntry → List ℕ
header_from position name s = section_header name (next_multiple s.alignment position) s

-- the headers of sections whose bodies stand from the position on, and whose names at these offsets
abbrev pub headers_from : ℕ → List ℕ → List SectionEntry → List ℕ
headers_from position [] sections = []
headers_from position (name ∷ names) [] = []
headers_from position (name ∷ names) (s ∷ ss) =
    header_from position name s ++ headers_from (position + length (body_from position s)) names ss

-- where the ELF header ends
abbrev pub header_end : ℕ
header_end = 64

-- the header at index 0, of no section
unfoldable pub null_header : List ℕ
null_header = replicate 64 0

-- the header table, which begins with the null header
unfoldable pub header_table : List ℕ → List SectionEntry → List ℕ
header_table names sections = null_header ++ headers_from header_end names sections

-- e_ident: the magic bytes, 64 bits, low byte first, version 1, System V
abbrev pub identification : List ℕ
identification = magic ++ 2 ∷ 1 ∷ 1 ∷ replicate 9 0

-- the header of a relocatable file for x86-64; its header table has this offset and count, and names in the last section
unfoldable pub elf_header : ℕ → ℕ → List ℕ
elf_header offset count =
    identification ++ half 1 ++ half 62 ++ word 1 ++ xword 0 ++ xword 0 ++ xword offset ++ word 0
    ++ half 64 ++ half 0 ++ half 0 ++ half 64 ++ half count ++ half (count - 1)

-- the file of sections whose names stand at these offsets
unfoldable pub file_of : List ℕ → List SectionEntry → List ℕ
file_of names sections =
    let bodies = bodies_from header_end sections in
    elf_header (header_end + length bodies) (1 + length sections) ++ bodies ++ header_table names sections

-- the names of all sections, and last that of the table of these names
unfoldable pub all_names : List SectionEntry → List (List ℕ)
all_names sections = section_names sections ++ codes ".shstrtab" ∷ []

-- the sections, and last the table of their names
unfoldable pub with_names : List SectionEntry → List SectionEntry
with_names sections = sections ++ string_section (codes ".shstrtab") (string_table_of (all_names sections)) ∷ []

-- the file of these sections, and last the table of their names
unfoldable pub file_with : List SectionEntry → List ℕ
file_with sections = file_of (name_offsets (all_names sections)) (with_names sections)
