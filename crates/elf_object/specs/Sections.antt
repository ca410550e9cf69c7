-- The sections of an object with their relocations, and the indices of their headers (gABI, chapter 4, "Sections").
use Rattle.std.specs.Prelude.{ℕ, ◌+◌, ◌==◌, List, [], ◌∷◌, ◌++◌, length, flat_map, if◌then◌else◌}
use Rattle.asm_frags.specs.Alignments.{alignment_of_all}
use Rattle.asm_frags.specs.SectionOf.{SectionOf}
use Rattle.asm_frags.specs.declared.groups.Group.{Group}
use Rattle.asm_frags.specs.Groups.{groups_of, is_in}
use Rattle.asm_symbols.specs.SymbolMap.{SymbolMap}
use Rattle.asm_relax.specs.Final.{section_size}
use Rattle.asm_relax.specs.Settling.{LaidItem, LaidSections}
use Rattle.elf_file.specs.Sections.{no_bits, SectionEntry, stored, nobits, relocation_section, group_section, group_bytes}
use Rattle.elf_symbols.specs.Numbers.{NumbersOf, target_number, group_symbol}
use Rattle.elf_object.specs.declared.relocations.Relocation.{Relocation}
use Rattle.elf_object.specs.Relocations.{relocation_entry}
use Rattle.elf_object.specs.Contents.{section_bytes}

-- a section of the source; one without bytes in the file has a size alone
abbrev pub source_section : SymbolMap → LaidSections → SectionOf LaidItem → SectionEntry
source_section map sections section = record {
  name = section.name;
  kind = section.kind;
  flags = section.flags.0;
  alignment = alignment_of_all section.items;
  entry_size = section.entry_size;
  link = 0;
  info = 0;
  content = if section.kind == no_bits then nobits (section_size section) else stored (section_bytes map sections section);
}

-- the bytes of relocations, by the numbers of their symbols
abbrev pub relocation_bytes : NumbersOf → List Relocation → List ℕ
relocation_bytes numbers found = flat_map (λ r. relocation_entry (target_number numbers r.target) r) found

-- a section and its relocations behind it, where it has any; its header has this index
abbrev pub with_relocations : NumbersOf → ℕ → ℕ → SectionEntry → List Relocation → List SectionEntry
with_relocations numbers symbols index s [] = s ∷ []
with_relocations numbers symbols index s (r ∷ found) = s ∷ relocation_section s.flags symbols index s.name (relocation_bytes numbers (r ∷ found)) ∷ []

-- how many headers a section with these relocations has
abbrev pub header_count : List Relocation → ℕ
header_count [] = 1
header_count (r ∷ found) = 2

-- the sections of the source with their relocations; the first header has this index
abbrev pub entries_from : NumbersOf → ℕ → ℕ → List SectionEntry → List (List Relocation) → List SectionEntry
entries_from numbers symbols index [] found = []
entries_from numbers symbols index (s ∷ more) [] = []
entries_from numbers symbols index (s ∷ more) (own ∷ found) =
    with_relocations numbers symbols index s own ++ entries_from numbers symbols (index + header_count own) more found

-- the index of the header of each section; the first header has this index
abbrev pub header_indices_from : ℕ → List (List Relocation) → List ℕ
header_indices_from index [] = []
header_indices_from index (own ∷ found) = index ∷ header_indices_from (index + header_count own) found

-- the index of the header of the first section of the source: the header at index 0 is that of no section, and those of groups stand behind it
abbrev pub first_header : LaidSections → ℕ
first_header sections = 1 + length (groups_of sections)

-- the index of the header of each section
abbrev pub header_indices : LaidSections → List (List Relocation) → List ℕ
header_indices sections found = header_indices_from (first_header sections) found

-- the header behind those of the sections and their relocations
abbrev pub next_header : ℕ → List (List Relocation) → ℕ
next_header index [] = index
next_header index (own ∷ found) = next_header (index + header_count own) found

-- the index of the header of a section, and that of the header of its relocations behind it, where it has any
abbrev pub own_headers : ℕ → List Relocation → List ℕ
own_headers index [] = index ∷ []
own_headers index (r ∷ found) = index ∷ (index + 1) ∷ []

-- the indices of the headers of the sections in the group of this signature, and of their relocations; the first section has this index
abbrev pub members_from : List ℕ → ℕ → LaidSections → List (List Relocation) → List ℕ
members_from signature index [] found = []
members_from signature index (section ∷ more) [] = []
members_from signature index (section ∷ more) (own ∷ found) =
    (if is_in signature section.group then own_headers index own else []) ++ members_from signature (index + header_count own) more found

-- the same of all sections: what a group lists
abbrev pub members_of : List ℕ → LaidSections → List (List Relocation) → List ℕ
members_of signature sections found = members_from signature (first_header sections) sections found

-- the sections of groups, the first of which has this index, with the index of the symbol table
abbrev pub group_entries : NumbersOf → ℕ → LaidSections → List (List Relocation) → ℕ → List Group → List SectionEntry
group_entries numbers symbols sections found index [] = []
group_entries numbers symbols sections found index (group ∷ groups) =
    group_section symbols (group_symbol numbers index) (group_bytes group.comdat (members_of group.signature sections found))
    ∷ group_entries numbers symbols sections found (index + 1) groups
