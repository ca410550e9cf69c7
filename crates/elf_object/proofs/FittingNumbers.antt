-- The numbers of an object fit where those of its sections and symbols do.
use Rattle.std.proofs.Common.{◌≡◌, ℕ, ◌+◌, ◌^◌, ◌<◌, List, [], ◌∷◌, ◌++◌, All, Result, Ok, Err, length, map, ap, ◌∙◌, subst, append_assoc}
use Rattle.std.specs.Prelude.{codes}
use Rattle.std.specs.Result.{IfOk, OnOk}
use Rattle.std.proofs.lemmas.List.Elements.{All-nil, All-cons, All-head, All-tail}
use Rattle.asm_frags.specs.Groups.{groups_of, IsFlagged}
use Rattle.asm_frags.specs.SectionOf.{SectionOf}
use Rattle.asm_symbols.specs.SymbolMap.{SymbolMap}
use Rattle.asm_relax.specs.Settling.{LaidItem, LaidSections}
use Rattle.elf_file.specs.Image.{file_with}
use Rattle.elf_file.specs.Limits.{EntryFits}
use Rattle.elf_file.specs.Sections.{SectionEntry, relocation_section, string_section, symbol_section}
use Rattle.elf_file.specs.StringTable.{string_table_of}
use Rattle.elf_symbols.specs.Limits.{SymbolFits}
use Rattle.elf_symbols.specs.Numbers.{NumbersOf, first_other, numbers_of}
use Rattle.elf_symbols.specs.SymbolTable.{SymbolEntry, symbol_names, symbol_table_of, table_of}
use Rattle.elf_object.specs.declared.relocations.Relocation.{Relocation}
use Rattle.elf_object.specs.Image.{before_names, image_with}
use Rattle.elf_object.specs.Limits.{SourceFits, NumbersFitWith}
use Rattle.elf_object.specs.Naming.{named_of}
use Rattle.elf_object.specs.Sections.{source_section, relocation_bytes, entries_from, group_entries, first_header, header_indices, next_header}

-- the numbers of a section of the source are those of its header
source_fits : (symbols : SymbolMap) (sections : LaidSections) (section : SectionOf LaidItem) → IsFlagged section
    → EntryFits (source_section symbols sections section) → SourceFits section
source_fits symbols sections section flagged fits = record {
  kind = fits.kind;
  flags = fits.flags;
  flagged = flagged;
  alignment = fits.alignment;
  entry_size = fits.entry_size;
}

-- the sections of the source are among those of the file
sources_fit : (symbols : SymbolMap) (all : LaidSections) (numbers : NumbersOf) (tables index : ℕ) (sections : LaidSections) (found : List (List Relocation)) (rest : List SectionEntry)
    → All IsFlagged sections → length sections ≡ length found → All EntryFits (entries_from numbers tables index (map (source_section symbols all) sections) found ++ rest) → All SourceFits sections
sources_fit symbols all numbers tables index [] found rest flagged long fit = All-nil SourceFits
sources_fit symbols all numbers tables index (s ∷ ss) [] rest flagged long fit = absurd cc
sources_fit symbols all numbers tables index (s ∷ ss) ([] ∷ found) rest flagged long fit =
    let first = source_section symbols all s in
    let more = entries_from numbers tables (index + 1) (map (source_section symbols all) ss) found ++ rest in
    let fewer : length ss ≡ length found = cc in
    All-cons SourceFits s ss (source_fits symbols all s (All-head IsFlagged s ss flagged) (All-head EntryFits first more fit))
    (sources_fit symbols all numbers tables (index + 1) ss found rest (All-tail IsFlagged s ss flagged) fewer (All-tail EntryFits first more fit))
sources_fit symbols all numbers tables index (s ∷ ss) ((r ∷ own) ∷ found) rest flagged long fit =
    let first = source_section symbols all s in
    let second = relocation_section s.flags.0 tables index s.name (relocation_bytes numbers (r ∷ own)) in
    let more = entries_from numbers tables (index + 2) (map (source_section symbols all) ss) found ++ rest in
    let fewer : length ss ≡ length found = cc in
    All-cons SourceFits s ss (source_fits symbols all s (All-head IsFlagged s ss flagged) (All-head EntryFits first (second ∷ more) fit))
    (sources_fit symbols all numbers tables (index + 2) ss found rest (All-tail IsFlagged s ss flagged) fewer (All-tail EntryFits second more (All-tail EntryFits first (second ∷ more) fit)))

-- what fits behind groups
behind_groups : (front rest : List SectionEntry) → All EntryFits (front ++ rest) → All EntryFits rest
behind_groups [] rest fit = fit
behind_groups (s ∷ front) rest fit = behind_groups front rest (All-tail EntryFits s (front ++ rest) fit)

-- so the numbers of the object fit, where those of the sections of its file and of the symbols of its table do
pub numbers_fit : {E : Type 0} (symbols : SymbolMap) (sections : LaidSections) (found : List (List Relocation)) (entries : List SectionEntry) (table : List SymbolEntry)
    (made : Result (List ℕ) E) → All IsFlagged sections → entries ≡ before_names symbols sections found (named_of found (length symbols.symbols)) → length sections ≡ length found
    → table ≡ table_of symbols sections (named_of found (length symbols.symbols)) → All SymbolFits table → IfOk made (λ f. f ≡ file_with entries)
    → OnOk made (All EntryFits entries) → IfOk made (λ f. length f < 2 ^ 64) → OnOk made (NumbersFitWith symbols sections found)
unfolding before_names image_with
numbers_fit symbols sections found entries table (Err e) flagged is long listed values file numbers small = tt
numbers_fit symbols sections found entries table (Ok f) flagged is long listed values file numbers small =
    let named = named_of found (length symbols.symbols) in
    let first = first_header sections in
    let tables = next_header first found in
    let these = numbers_of symbols sections named in
    let groups = group_entries these tables sections found 0 (groups_of sections) in
    let own = entries_from these tables first (map (source_section symbols sections) sections) found in
    let all = table_of symbols sections named in
    let rest = symbol_section (tables + 1) (first_other symbols sections named) (symbol_table_of (header_indices sections found) all)
    ∷ string_section (codes ".strtab") (string_table_of (symbol_names all)) ∷ [] in
    record {
      source_sections = sources_fit symbols sections these tables first sections found rest flagged long
          (behind_groups groups (own ++ rest) (subst (All EntryFits) (is ∙ append_assoc groups own rest) numbers));
      symbol_values = subst (All SymbolFits) listed values;
      file_size = subst (λ (bytes : List ℕ). length bytes < 2 ^ 64) (file ∙ ap file_with is) small;
    }
