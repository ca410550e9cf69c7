-- The object file of sections and symbols (gABI, chapter 4; psABI for AMD64, chapter 4).
use Rattle.std.specs.Prelude.{ℕ, ◌+◌, List, [], ◌∷◌, ◌++◌, length, map, codes}
use Rattle.asm_frags.specs.Groups.{groups_of}
use Rattle.asm_symbols.specs.SymbolMap.{SymbolMap}
use Rattle.asm_relax.specs.Settling.{LaidSections}
use Rattle.elf_file.specs.StringTable.{string_table_of}
use Rattle.elf_file.specs.Sections.{SectionEntry, symbol_section, string_section}
use Rattle.elf_file.specs.Image.{file_with}
use Rattle.elf_symbols.specs.Targets.{NamedOf}
use Rattle.elf_symbols.specs.SymbolTable.{table_of, symbol_names, symbol_table_of}
use Rattle.elf_symbols.specs.Numbers.{numbers_of, first_other}
use Rattle.elf_object.specs.declared.relocations.Relocation.{Relocation}
use Rattle.elf_object.specs.Contents.{relocations_of}
use Rattle.elf_object.specs.Naming.{named_of}
use Rattle.elf_object.specs.Sections.{source_section, entries_from, group_entries, first_header, header_indices, next_header}

-- groups, the sections with their relocations, and behind them the symbol table and its names; relocations name what is marked
unfoldable pub before_names : SymbolMap → LaidSections → List (List Relocation) → NamedOf → List SectionEntry
before_names symbols sections found named =
    let tables = next_header (first_header sections) found in
    let table = table_of symbols sections named in
    group_entries (numbers_of symbols sections named) tables sections found 0 (groups_of sections)
    ++ entries_from (numbers_of symbols sections named) tables (first_header sections) (map (source_section symbols sections) sections) found
    ++ symbol_section (tables + 1) (first_other symbols sections named) (symbol_table_of (header_indices sections found) table)
    ∷ string_section (codes ".strtab") (string_table_of (symbol_names table)) ∷ []

-- the sections of the file up to the table of their names, where the sections of the source have these relocations
abbrev pub file_sections : SymbolMap → LaidSections → List (List Relocation) → List SectionEntry
file_sections symbols sections found = before_names symbols sections found (named_of found (length symbols.symbols))

-- the object file of sections with these relocations
unfoldable pub image_with : SymbolMap → LaidSections → List (List Relocation) → List ℕ
image_with symbols sections found = file_with (file_sections symbols sections found)

-- the object file of the sections and symbols
unfoldable pub image_of : SymbolMap → LaidSections → List ℕ
image_of symbols sections = image_with symbols sections (relocations_of symbols sections)
