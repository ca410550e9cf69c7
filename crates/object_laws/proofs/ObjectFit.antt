-- The numbers of the sections of an object fit.
use Rattle.std.proofs.Common.{◌≡◌, ℕ, zero, suc, ◌+◌, ◌-◌, ◌^◌, ◌<◌, ◌≤◌, ◌==◌, Bool, true, false, cond, List, [], ◌∷◌, ◌++◌, Some, length, map, refl, sym, ap, ◌∙◌, subst, arith, length-append, mod-lt}
use Rattle.std.proofs.lemmas.List.{length-map}
use Rattle.std.proofs.lemmas.Option.{slice_get-map}
use Rattle.std.specs.Prelude.{slice_get}
use Rattle.asm_frags.specs.declared.groups.Group.{Group}
use Rattle.asm_frags.specs.Groups.{groups_of}
use Rattle.asm_frags.specs.SectionOf.{SectionOf}
use Rattle.asm_symbols.specs.SymbolMap.{SymbolMap}
use Rattle.asm_relax.specs.Final.{section_size, shift_in}
use Rattle.asm_relax.specs.Settling.{LaidItem, LaidSections}
use Rattle.std.proofs.lemmas.Nat.{and_le_r}
use Rattle.elf_file.specs.Sections.{in_group, no_bits, stored, nobits, SectionEntry, relocation_section}
use Rattle.elf_symbols.specs.Numbers.{NumbersOf, numbers_of, group_symbol}
use Rattle.elf_symbols.specs.SymbolTable.{file_entry, section_entries, part, listed_all, own_signatures, table_of}
use Rattle.elf_object.specs.declared.relocations.Relocation.{Relocation}
use Rattle.elf_object.specs.Contents.{section_bytes, relocations_of}
use Rattle.elf_object.specs.Limits.{SourceFits}
use Rattle.elf_object.specs.Sections.{source_section, relocation_bytes, header_count, entries_from, first_header, next_header}
use Rattle.elf_object.specs.TableLaws.{named_targets, table_in, info_in}
use Rattle.object_laws.specs.Limits.{is_space, space_size, SectionFits, FileFits}
use Rattle.object_laws.specs.ObjectLimits.{entries_of, symbol_table_index, ObjectFits, ObjectsAreFiles}
use Rattle.object_laws.specs.SymbolReading.{symbol_table_section, symbol_names_section}
use Rattle.object_laws.proofs.ObjectParts.{mapped, groups_in, group_at, in_parts, source_entries, entries_are, image_is, sources_long}
use Rattle.object_laws.proofs.EntryNumbers.{signature_numbered}
use Rattle.object_laws.proofs.SectionReads.{got_inside}

space_small : (b : Bool) (size : ℕ) (bytes : List ℕ) → size < 2 ^ 64 → space_size (cond b (nobits size) (stored bytes)) < 2 ^ 64
space_small true size bytes small = small
space_small false size bytes small = omega arith

space_same : (b : Bool) (size : ℕ) (bytes : List ℕ) → b ≡ is_space (cond b (nobits size) (stored bytes))
space_same true size bytes = refl
space_same false size bytes = refl

-- sh_size is taken modulo 2 ^ 64
size_small : (section : SectionOf LaidItem) → section_size section < 2 ^ 64
unfolding section_size
size_small section = mod-lt (length section.bytes + shift_in section.items (length section.items)) (omega arith)

source_fits : (symbols : SymbolMap) (sections : LaidSections) (section : SectionOf LaidItem) → SourceFits section → SectionFits (source_section symbols sections section)
source_fits symbols sections section fits = record {
  kind = fits.kind;
  flags = fits.flags;
  space = space_small (section.kind == no_bits) (section_size section) (section_bytes symbols sections section) (size_small section);
  link = omega arith;
  info = omega arith;
  alignment = fits.alignment;
  entry_size = fits.entry_size;
  agrees = space_same (section.kind == no_bits) (section_size section) (section_bytes symbols sections section);
}

relocations_fit : (flags tables index : ℕ) (name bytes : List ℕ) → tables < 2 ^ 32 → index < 2 ^ 32 → SectionFits (relocation_section flags tables index name bytes)
relocations_fit flags tables index name bytes table_low low = record {
  kind = omega arith;
  flags = let least = and_le_r flags in_group in omega (arith, least);
  space = omega arith;
  link = table_low;
  info = low;
  alignment = omega arith;
  entry_size = omega arith;
  agrees = refl;
}

counts : (own : List Relocation) → 1 ≤ header_count own
counts [] = omega arith
counts (r ∷ own) = omega arith

pub next_behind : (index : ℕ) (found : List (List Relocation)) → index ≤ next_header index found
next_behind index [] = omega arith
next_behind index (own ∷ found) =
    let later : index + header_count own ≤ next_header (index + header_count own) found = next_behind (index + header_count own) found in
    omega arith

each_fits : (numbers : NumbersOf) (tables index : ℕ) (list : List SectionEntry) (found : List (List Relocation)) → tables < 2 ^ 32 → next_header index found < 2 ^ 32
    → ((i : ℕ) (s : SectionEntry) → slice_get list i ≡ Some s → SectionFits s)
    → (i : ℕ) (s : SectionEntry) → slice_get (entries_from numbers tables index list found) i ≡ Some s → SectionFits s
each_fits numbers tables index [] found low few each i s is = absurd cc
each_fits numbers tables index (t ∷ list) [] low few each i s is = absurd cc
each_fits numbers tables index (t ∷ list) ([] ∷ found) low few each zero s is = each 0 s is
each_fits numbers tables index (t ∷ list) ([] ∷ found) low few each (suc i) s is =
    each_fits numbers tables (index + 1) list found low few (λ j e at. each (suc j) e at) i s is
each_fits numbers tables index (t ∷ list) ((r ∷ own) ∷ found) low few each zero s is = each 0 s is
each_fits numbers tables index (t ∷ list) ((r ∷ own) ∷ found) low few each (suc zero) s is =
    let same : relocation_section t.flags tables index t.name (relocation_bytes numbers (r ∷ own)) ≡ s = cc in
    let behind : index + 2 ≤ next_header (index + 2) found = next_behind (index + 2) found in
    subst SectionFits same (relocations_fit t.flags tables index t.name (relocation_bytes numbers (r ∷ own)) low (omega arith))
each_fits numbers tables index (t ∷ list) ((r ∷ own) ∷ found) low few each (suc (suc i)) s is =
    each_fits numbers tables (index + 2) list found low few (λ j e at. each (suc j) e at) i s is

listed_fit : (symbols : SymbolMap) (sections : LaidSections) → ObjectFits symbols sections → (i : ℕ) (s : SectionEntry)
    → slice_get (map (source_section symbols sections) sections) i ≡ Some s → SectionFits s
listed_fit symbols sections fits i s is =
    let view = source_section symbols sections in
    mapped view (slice_get sections i) s (sym (slice_get-map view sections i) ∙ is) (λ section there same.
    subst SectionFits same (source_fits symbols sections section (fits.source_sections i section there)))

-- the symbol table has as many local symbols as sh_info says, the null symbol among them
pub info_within : (symbols : SymbolMap) (sections : LaidSections) → info_in symbols sections ≤ length (table_in symbols sections) + 1
unfolding table_of
info_within symbols sections =
    let named = named_targets symbols sections in
    let all = listed_all symbols sections named in
    let files = map file_entry symbols.files in
    let own = section_entries 0 named.sections in
    let signatures = own_signatures symbols sections named in
    let front = files ++ own ++ part true all in
    let first : length ((front ++ signatures) ++ part false all) ≡ length (front ++ signatures) + length (part false all) = length-append (front ++ signatures) (part false all) in
    let again : length (front ++ signatures) ≡ length front + length signatures = length-append front signatures in
    let second : length front ≡ length (files ++ own) + length (part true all) = length-append (files ++ own) (part true all) in
    let third : length (files ++ own) ≡ length files + length own = length-append files own in
    let fourth : length files ≡ length symbols.files = length-map symbols.files file_entry in
    omega arith

two_fit : (P : SectionEntry → Type 0) (these : List SectionEntry) (first second : SectionEntry) → ((i : ℕ) (s : SectionEntry) → slice_get these i ≡ Some s → P s) → P first → P second
    → (i : ℕ) (s : SectionEntry) → slice_get (these ++ first ∷ second ∷ []) i ≡ Some s → P s
two_fit P [] first second each one other zero s is = let same : first ≡ s = cc in subst P same one
two_fit P [] first second each one other (suc zero) s is = let same : second ≡ s = cc in subst P same other
two_fit P [] first second each one other (suc (suc i)) s is = absurd cc
two_fit P (e ∷ these) first second each one other zero s is = each 0 s is
two_fit P (e ∷ these) first second each one other (suc i) s is = two_fit P these first second (λ j t at. each (suc j) t at) one other i s is

symbols_fit : (symbols : SymbolMap) (sections : LaidSections) → ObjectFits symbols sections → SectionFits (symbol_table_section symbols sections)
symbols_fit symbols sections fits =
    let few = fits.header_count in
    let within : info_in symbols sections ≤ length (table_in symbols sections) + 1 = info_within symbols sections in
    let low = fits.symbol_count in
    record {
      kind = omega arith;
      flags = omega arith;
      space = omega arith;
      link = omega arith;
      info = omega arith;
      alignment = omega arith;
      entry_size = omega arith;
      agrees = refl;
    }

texts_fit : (symbols : SymbolMap) (sections : LaidSections) → SectionFits (symbol_names_section symbols sections)
texts_fit symbols sections = record {
  kind = omega arith;
  flags = omega arith;
  space = omega arith;
  link = omega arith;
  info = omega arith;
  alignment = omega arith;
  entry_size = omega arith;
  agrees = refl;
}

-- the number of the symbol of a signature is at most that of the last one
group_small : (symbols : SymbolMap) (sections : LaidSections) → ObjectFits symbols sections → (place : ℕ) (group : Group) → slice_get (groups_of sections) place ≡ Some group
    → group_symbol (numbers_of symbols sections (named_targets symbols sections)) place < 2 ^ 32
group_small symbols sections fits place group is =
    let has = signature_numbered symbols sections place group is in
    let numbered = has.numbered in
    let number = group_symbol (numbers_of symbols sections (named_targets symbols sections)) place in
    let some : 0 < number = numbered.some in
    let inside : number - 1 < length (table_in symbols sections) = got_inside (table_in symbols sections) (number - 1) has.entry numbered.there in
    let few = fits.symbol_count in
    omega (arith, some, inside, few)

-- the sections of groups
groups_fit : (symbols : SymbolMap) (sections : LaidSections) → ObjectFits symbols sections → (i : ℕ) (s : SectionEntry) → slice_get (groups_in symbols sections) i ≡ Some s → SectionFits s
groups_fit symbols sections fits i s is =
    let at = group_at symbols sections i s is in
    let low = group_small symbols sections fits i at.group at.there in
    let few = fits.header_count in
    subst SectionFits (sym at.same) (record {
      kind = omega arith;
      flags = omega arith;
      space = omega arith;
      link = omega (arith, few);
      info = low;
      alignment = omega arith;
      entry_size = omega arith;
      agrees = refl;
    })

-- the file of an object whose numbers fit
pub file_fits : (symbols : SymbolMap) (sections : LaidSections) → ObjectFits symbols sections → FileFits (entries_of symbols sections)
file_fits symbols sections fits =
    let entries = entries_of symbols sections in
    let own = source_entries symbols sections in
    let tables = symbol_table_index symbols sections in
    let tail = symbol_table_section symbols sections ∷ symbol_names_section symbols sections ∷ [] in
    let few : tables + 3 < 2 ^ 16 = fits.header_count in
    let long : 1 + length own ≡ tables = sources_long symbols sections in
    let all : length entries ≡ length own + 2 = ap length (entries_are symbols sections) ∙ length-append own tail in
    record {
      sections = λ i s is.
          two_fit SectionFits own (symbol_table_section symbols sections) (symbol_names_section symbols sections)
          (in_parts SectionFits (groups_in symbols sections) _ (groups_fit symbols sections fits)
          (each_fits (numbers_of symbols sections (named_targets symbols sections)) tables (first_header sections) (map (source_section symbols sections) sections) (relocations_of symbols sections)
          (omega arith) (omega arith) (listed_fit symbols sections fits)))
          (symbols_fit symbols sections fits) (texts_fit symbols sections) i s (sym (ap (λ (es : List SectionEntry). slice_get es i) (entries_are symbols sections)) ∙ is);
      count = omega arith;
      names = fits.section_names_size;
      size = subst (λ (bytes : List ℕ). length bytes < 2 ^ 64) (image_is symbols sections) fits.file_size;
    }

pub objects_are_files : ObjectsAreFiles
objects_are_files symbols sections fits = (image_is symbols sections, file_fits symbols sections fits)
