-- The sections of a file, put together.
use Rattle.std.proofs.Common.{◌≡◌, ℕ, ◌+◌, List, [], ◌∷◌, ◌++◌, map, refl, ap, ◌∙◌, append_assoc}
use Rattle.std.proofs.lemmas.List.{map-append}
use Rattle.std.specs.Prelude.{codes}
use Rattle.asm_frags.specs.Groups.{groups_of}
use Rattle.asm_symbols.specs.SymbolMap.{SymbolMap}
use Rattle.asm_relax.specs.Settling.{LaidSections}
use Rattle.elf_object.specs.declared.relocations.Relocation.{Relocation}
use Rattle.elf_file.specs.declared.sections.FileSection.{FileSection}
use Rattle.elf_symbols.specs.SymbolTable.{symbol_names, symbol_table_of, SymbolEntry, table_of}
use Rattle.elf_object.specs.Image.{before_names}
use Rattle.elf_symbols.specs.Targets.{NamedOf}
use Rattle.elf_symbols.specs.Numbers.{NumbersOf, numbers_of, first_other}
use Rattle.elf_file.specs.Sections.{SectionEntry, symbol_section, string_section}
use Rattle.elf_object.specs.Sections.{source_section, entries_from, group_entries, first_header, header_indices_from, next_header}
use Rattle.elf_file.specs.StringTable.{string_table_of}
use Rattle.elf_file.specs.Views.{section_view}

pub sections_made : (symbols : SymbolMap) (sections : LaidSections) (found : List (List Relocation)) (named : NamedOf) (numbers : NumbersOf) (begin tables first : ℕ)
    (headers entries strings : List ℕ) (table : List SymbolEntry) (held : List SectionEntry) (groups made pushed last : List FileSection) (s t : FileSection)
    → numbers ≡ numbers_of symbols sections named → begin ≡ first_header sections → tables ≡ next_header begin found → first ≡ first_other symbols sections named
    → headers ≡ header_indices_from begin found
    → table ≡ table_of symbols sections named → held ≡ map (source_section symbols sections) sections → entries ≡ symbol_table_of headers table
    → strings ≡ string_table_of (symbol_names table) → map section_view groups ≡ group_entries numbers tables sections found 0 (groups_of sections)
    → map section_view made ≡ map section_view groups ++ entries_from numbers tables begin held found
    → section_view s ≡ symbol_section (tables + 1) first entries → pushed ≡ made ++ s ∷ [] → section_view t ≡ string_section (codes ".strtab") strings → last ≡ pushed ++ t ∷ []
    → map section_view last ≡ before_names symbols sections found named
unfolding before_names
sections_made symbols sections found named numbers begin tables first headers entries strings table held groups made pushed last s t
    number own next other index listed kept filled texts first_ones begun symbol more string most =
    let front : map section_view last ≡ (map section_view made ++ section_view s ∷ []) ++ section_view t ∷ [] =
    ap (λ (xs : List FileSection). map section_view xs) most ∙ map-append section_view pushed (t ∷ [])
    ∙ ap (λ (xs : List SectionEntry). xs ++ section_view t ∷ []) (ap (λ (xs : List FileSection). map section_view xs) more ∙ map-append section_view made (s ∷ [])) in
    let row : map section_view last ≡ map section_view made ++ section_view s ∷ section_view t ∷ [] =
    front ∙ append_assoc (map section_view made) (section_view s ∷ []) (section_view t ∷ []) in
    rw (row, begun, first_ones, symbol, string, filled, texts, number, kept, other, index, listed, next, own) refl
