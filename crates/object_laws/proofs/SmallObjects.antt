-- The numbers of the objects of small sources fit.
use Rattle.std.proofs.Common.{◌≡◌, ℕ, zero, suc, ◌+◌, ◌*◌, ◌^◌, ◌<◌, ◌≤◌, Bool, true, false, List, [], ◌∷◌, ◌++◌, Some, All, length, map, refl, ap, ◌∙◌, subst, arith, length-append}
use Rattle.std.specs.Prelude.{slice_get, codes}
use Rattle.std.proofs.lemmas.List.{length-map}
use Rattle.std.proofs.lemmas.List.Elements.{All-head, All-tail}
use Rattle.std.proofs.lemmas.Option.{slice_get_within}
use Rattle.asm_frags.specs.Groups.{groups_of}
use Rattle.asm_frags.specs.SectionOf.{SectionOf}
use Rattle.asm_symbols.specs.SymbolMap.{SymbolMap}
use Rattle.asm_relax.specs.Settling.{LaidItem, LaidSections}
use Rattle.elf_file.specs.Image.{all_names, with_names}
use Rattle.elf_file.specs.Sections.{section_names}
use Rattle.elf_file.specs.StringTable.{strings, string_table_of}
use Rattle.elf_symbols.specs.Limits.{SymbolFits}
use Rattle.elf_symbols.specs.Numbers.{numbers_of}
use Rattle.elf_symbols.specs.SymbolTable.{file_entry, section_entries, part, listed_all, own_signatures, table_of, symbol_names}
use Rattle.elf_object.specs.declared.relocations.Relocation.{Relocation}
use Rattle.elf_object.specs.Contents.{section_relocations, relocations_of}
use Rattle.elf_object.specs.Image.{image_of}
use Rattle.elf_object.specs.Limits.{SourceFits}
use Rattle.elf_object.specs.Naming.{marks_from, named_of}
use Rattle.elf_object.specs.Sections.{source_section, header_count, entries_from, first_header, next_header}
use Rattle.elf_object.specs.TableLaws.{named_targets, table_in}
use Rattle.object_laws.specs.ObjectLimits.{symbol_table_index, entries_of}
use Rattle.object_laws.specs.SmallSources.{IsSmallSource, ObjectsFit}
use Rattle.object_laws.specs.SymbolReading.{header_index, symbol_table_section, symbol_names_section}
use Rattle.object_laws.proofs.FileParts.{names_section}
use Rattle.object_laws.proofs.ObjectParts.{groups_in, source_entries, entries_are, relocations_long, sources_long, relocations_there, placed}
use Rattle.object_laws.proofs.TakenNames.{taken, strings-append, taken-append, entry_name, files_taken, sections_taken, sections_few, parts_few, listed_few, symbols_taken, signatures_taken, section_name, groups_taken, sources_taken}

-- what holds of all holds of each
each_of : {A : Type 0} (P : A → Type 0) (xs : List A) → All P xs → (i : ℕ) (x : A) → slice_get xs i ≡ Some x → P x
each_of P [] all i x is = absurd cc
each_of P (y ∷ ys) all zero x is =
    let same : y ≡ x = cc in
    subst P same (All-head P y ys all)
each_of P (y ∷ ys) all (suc i) x is = each_of P ys (All-tail P y ys all) i x is

-- HEADERS

two_at_most : (own : List Relocation) → header_count own ≤ 2
two_at_most [] = omega arith
two_at_most (r ∷ own) = omega arith

next_few : (index : ℕ) (found : List (List Relocation)) → next_header index found ≤ index + 2 * length found
next_few index [] = omega arith
next_few index (own ∷ found) =
    let one = two_at_most own in
    let more = next_few (index + header_count own) found in
    omega (arith, one, more)

headers_few : (symbols : SymbolMap) (sections : LaidSections) → IsSmallSource symbols sections → symbol_table_index symbols sections + 3 ≤ 2 * 30005 + 4
headers_few symbols sections small =
    let few = next_few (first_header sections) (relocations_of symbols sections) in
    let long = relocations_long symbols sections 0 sections in
    let most = small.section_count in
    omega (arith, few, long, most)

-- the header of a section stands among them, behind the null header
header_within : (symbols : SymbolMap) (sections : LaidSections) (number : ℕ) (section : SectionOf LaidItem) → slice_get sections number ≡ Some section
    → (0 < header_index symbols sections number) × (header_index symbols sections number < symbol_table_index symbols sections + 3)
unfolding with_names
header_within symbols sections number section is =
    let at = placed symbols sections number section (section_relocations symbols sections (0 + number) section) is (relocations_there symbols sections 0 sections number section is) in
    let entries = entries_of symbols sections in
    let last = names_section entries ∷ [] in
    let within = slice_get_within (entries ++ last) at.place (source_section symbols sections section) at.there in
    let header = at.header in
    let all : length (entries ++ last) ≡ length entries + 1 = length-append entries last in
    let own = source_entries symbols sections in
    let tail = symbol_table_section symbols sections ∷ symbol_names_section symbols sections ∷ [] in
    let parts : length entries ≡ length own + 2 = ap length (entries_are symbols sections) ∙ length-append own tail in
    let first = sources_long symbols sections in
    (omega (arith, header), omega (arith, within, header, all, parts, first))

-- SYMBOLS

marks_long : (is_so : ℕ → Bool) (number count : ℕ) → length (marks_from is_so number count) ≡ count
marks_long is_so number zero = refl
marks_long is_so number (suc count) = ap suc (marks_long is_so (number + 1) count)

section_marks : (symbols : SymbolMap) (sections : LaidSections) → length (named_targets symbols sections).sections ≡ length sections
unfolding named_of
section_marks symbols sections = marks_long _ 0 (length (relocations_of symbols sections)) ∙ relocations_long symbols sections 0 sections

symbols_few : (symbols : SymbolMap) (sections : LaidSections) → IsSmallSource symbols sections
    → length (table_in symbols sections) ≤ length symbols.files + length sections + length (groups_of sections) + length symbols.symbols
unfolding table_of
symbols_few symbols sections small =
    let named = named_targets symbols sections in
    let all = listed_all symbols sections named in
    let files = map file_entry symbols.files in
    let own = section_entries 0 named.sections in
    let signatures = own_signatures symbols sections named in
    let front = files ++ own ++ part true all in
    let first : length ((front ++ signatures) ++ part false all) ≡ length (front ++ signatures) + length (part false all) = length-append (front ++ signatures) (part false all) in
    let again : length (front ++ signatures) ≡ length front + length signatures = length-append front signatures in
    let second : length front ≡ length (files ++ own) + length (part true all) = length-append (files ++ own) (part true all) in
    let third : length (files ++ own) ≡ length files + length own = length-append files own in
    let fourth : length files ≡ length symbols.files = length-map symbols.files file_entry in
    let fifth = sections_few 0 named.sections in
    let marks = section_marks symbols sections in
    let parts = parts_few all in
    let listed = listed_few symbols sections named.symbols named.thread_locals symbols.symbols in
    let signed = (signatures_taken symbols sections 0 (groups_of sections) small.signatures).1 in
    omega (arith, first, again, second, third, fourth, fifth, marks, parts, listed, signed)

names_few : (symbols : SymbolMap) (sections : LaidSections) → IsSmallSource symbols sections → length (string_table_of (symbol_names (table_in symbols sections))) < 2 ^ 32
unfolding table_of symbol_names string_table_of
names_few symbols sections small =
    let named = named_targets symbols sections in
    let all = listed_all symbols sections named in
    let files = map file_entry symbols.files in
    let own = section_entries 0 named.sections in
    let signatures = own_signatures symbols sections named in
    let front = files ++ own ++ part true all in
    let first : taken entry_name ((front ++ signatures) ++ part false all) ≡ taken entry_name (front ++ signatures) + taken entry_name (part false all) =
    taken-append entry_name (front ++ signatures) (part false all) in
    let again : taken entry_name (front ++ signatures) ≡ taken entry_name front + taken entry_name signatures = taken-append entry_name front signatures in
    let second : taken entry_name front ≡ taken entry_name (files ++ own) + taken entry_name (part true all) = taken-append entry_name (files ++ own) (part true all) in
    let third : taken entry_name (files ++ own) ≡ taken entry_name files + taken entry_name own = taken-append entry_name files own in
    let fourth = files_taken symbols.files in
    let fifth = sections_taken 0 named.sections in
    let parts = symbols_taken symbols sections named.symbols named.thread_locals symbols.symbols in
    let most = small.name_bytes in
    let signed = (signatures_taken symbols sections 0 (groups_of sections) small.signatures).0 in
    let count = small.section_count in
    let sum : suc (taken entry_name ((front ++ signatures) ++ part false all)) < 2 ^ 32 = omega (arith, first, again, second, third, fourth, fifth, parts, most, signed, count) in
    sum

-- SECTIONS

section_names_few : (symbols : SymbolMap) (sections : LaidSections) → IsSmallSource symbols sections → length (string_table_of (all_names (entries_of symbols sections))) < 2 ^ 32
unfolding all_names section_names string_table_of
section_names_few symbols sections small =
    let own = source_entries symbols sections in
    let tail = symbol_table_section symbols sections ∷ symbol_names_section symbols sections ∷ [] in
    let entries = entries_of symbols sections in
    let last : length (strings (map section_name entries ++ codes ".shstrtab" ∷ [])) ≡ taken section_name entries + 10 = strings-append (map section_name entries) (codes ".shstrtab" ∷ []) in
    let parts : taken section_name entries ≡ taken section_name own + taken section_name tail =
    ap (taken section_name) (entries_are symbols sections) ∙ taken-append section_name own tail in
    let two : taken section_name tail ≡ 16 = refl in
    let named = named_targets symbols sections in
    let numbers = numbers_of symbols sections named in
    let tables = symbol_table_index symbols sections in
    let first = sources_taken symbols sections numbers tables (first_header sections) sections (relocations_of symbols sections) small.section_names in
    let groups = groups_taken numbers tables sections (relocations_of symbols sections) 0 (groups_of sections) in
    let both : taken section_name own ≡ taken section_name (groups_in symbols sections)
    + taken section_name (entries_from numbers tables (first_header sections) (map (source_section symbols sections) sections) (relocations_of symbols sections)) =
    taken-append section_name (groups_in symbols sections) _ in
    let most = small.section_count in
    let sum : suc (length (strings (map section_name entries ++ codes ".shstrtab" ∷ []))) < 2 ^ 32 = omega (arith, last, parts, two, first, groups, both, most) in
    sum

-- ALL

pub objects_fit : ObjectsFit
unfolding image_of
objects_fit symbols sections numbers small =
    let headers = headers_few symbols sections small in
    let few = symbols_few symbols sections small in
    let count = small.symbol_count in
    let most = small.section_count in (
      record {
        source_sections = each_of SourceFits sections numbers.source_sections;
        symbol_values = each_of SymbolFits (table_in symbols sections) numbers.symbol_values;
        header_count = omega (arith, headers);
        symbol_count = omega (arith, few, count, most);
        symbol_names_size = names_few symbols sections small;
        section_names_size = section_names_few symbols sections small;
        file_size = numbers.file_size;
      },
      record {
        count = headers;
        all = omega (arith, headers);
        own = λ number section is.
            let there = header_within symbols sections number section is in
            let below = there.1 in
            (there.0, omega (arith, below, headers));
      },
    )
