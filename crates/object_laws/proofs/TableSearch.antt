-- The symbol table is the one section of its type.
use Rattle.std.proofs.Common.{◌≡◌, ℕ, zero, suc, ◌+◌, ◌<◌, ◌≢◌, Bool, true, false, cond, List, [], ◌∷◌, ◌++◌, Option, Some, None, length, map, nat_lt, drop, option_map, option_and_then, refl, sym, ap, ◌∙◌, subst, arith}
use Rattle.std.proofs.lemmas.Bool.{ltb-true}
use Rattle.std.proofs.lemmas.Option.{slice_get-map}
use Rattle.std.specs.Prelude.{slice_get}
use Rattle.asm_frags.specs.SectionOf.{SectionOf}
use Rattle.asm_symbols.specs.SymbolMap.{SymbolMap}
use Rattle.asm_relax.specs.Settling.{LaidItem, LaidSections}
use Rattle.elf_file.specs.declared.reader.SectionHeader.{SectionHeader}
use Rattle.elf_file.specs.Image.{with_names, file_with}
use Rattle.elf_file.specs.Reader.{header_in, table_entry, header_at, section_header_of}
use Rattle.elf_file.specs.Sections.{SectionEntry, relocation_section}
use Rattle.elf_symbols.specs.Numbers.{NumbersOf, numbers_of}
use Rattle.elf_object.specs.declared.relocations.Relocation.{Relocation}
use Rattle.elf_object.specs.Contents.{relocations_of}
use Rattle.elf_object.specs.Image.{image_of}
use Rattle.elf_object.specs.Sections.{source_section, relocation_bytes, entries_from, first_header}
use Rattle.elf_object.specs.TableLaws.{named_targets}
use Rattle.object_laws.specs.Limits.{FileFits}
use Rattle.object_laws.specs.FileReading.{null_fields, Describes, SectionRead}
use Rattle.object_laws.specs.ObjectLimits.{entries_of, symbol_table_index, ObjectFits}
use Rattle.object_laws.specs.SymbolReading.{symbol_table_section, symbol_names_section, SymbolTablesFound}
use Rattle.object_laws.proofs.FileParts.{names_section, count_all}
use Rattle.object_laws.proofs.SectionReads.{own_table, file_read, null_headers_read}
use Rattle.object_laws.proofs.NameReads.{sections_read}
use Rattle.object_laws.proofs.ObjectParts.{mapped, in_parts, groups_in, group_at, source_entries, entries_are, image_is, sources_long}
use Rattle.object_laws.proofs.ObjectFit.{file_fits}
use Rattle.object_laws.proofs.LocalReads.{got, same_some}

chosen : {A B : Type 0} (f : A → B) (b : Bool) (o : Option A) (y : B) → cond b (option_map f o) None ≡ Some y → b ≡ true
chosen f true o y is = refl
chosen f false o y is = absurd cc

-- a header that is read is one of the table
header_within : (entries : List SectionEntry) (index : ℕ) (header : SectionHeader) → FileFits entries → section_header_of (file_with entries) index ≡ Some header → index < length entries + 2
unfolding section_header_of
header_within entries index header fits is =
    let file = file_with entries in
    let table = own_table entries in
    let read : header_at file index table ≡ Some header = sym (ap (option_and_then (header_at file index)) (file_read entries fits)) ∙ is in
    ltb-true index (length entries + 2) (chosen header_in (nat_lt index (length entries + 2)) (table_entry (drop table.offset file) 64 index) header read)

-- no section of these has this type
abbrev pub NoKind : ℕ → List SectionEntry → Type 0
NoKind other these = (index : ℕ) (s : SectionEntry) → slice_get these index ≡ Some s → s.kind ≢ other

abbrev NoTable : List SectionEntry → Type 0
NoTable these = NoKind 2 these

pub sources_other : (other : ℕ) → 4 ≢ other → (numbers : NumbersOf) (tables index : ℕ) (list : List SectionEntry) (found : List (List Relocation)) → NoKind other list
    → NoKind other (entries_from numbers tables index list found)
sources_other other apart numbers tables index [] found each i s is kind = absurd cc
sources_other other apart numbers tables index (t ∷ list) [] each i s is kind = absurd cc
sources_other other apart numbers tables index (t ∷ list) ([] ∷ found) each zero s is kind = each 0 s is kind
sources_other other apart numbers tables index (t ∷ list) ([] ∷ found) each (suc i) s is kind =
    sources_other other apart numbers tables (index + 1) list found (λ j e at. each (suc j) e at) i s is kind
sources_other other apart numbers tables index (t ∷ list) ((r ∷ own) ∷ found) each zero s is kind = each 0 s is kind
sources_other other apart numbers tables index (t ∷ list) ((r ∷ own) ∷ found) each (suc zero) s is kind =
    let same : relocation_section t.flags tables index t.name (relocation_bytes numbers (r ∷ own)) ≡ s = cc in
    apart (ap (λ (e : SectionEntry). e.kind) same ∙ kind)
sources_other other apart numbers tables index (t ∷ list) ((r ∷ own) ∷ found) each (suc (suc i)) s is kind =
    sources_other other apart numbers tables (index + 2) list found (λ j e at. each (suc j) e at) i s is kind

-- behind sections of other types stands the one of this type, and two of other types behind that
only_there : (these : List SectionEntry) (table first second : SectionEntry) (index : ℕ) (s : SectionEntry) → NoTable these → first.kind ≢ 2 → second.kind ≢ 2
    → slice_get ((these ++ table ∷ first ∷ []) ++ second ∷ []) index ≡ Some s → s.kind ≡ 2 → index ≡ length these
only_there [] table first second zero s each one other is kind = refl
only_there [] table first second (suc zero) s each one other is kind =
    let same : first ≡ s = cc in absurd (one (ap (λ (e : SectionEntry). e.kind) same ∙ kind))
only_there [] table first second (suc (suc zero)) s each one other is kind =
    let same : second ≡ s = cc in absurd (other (ap (λ (e : SectionEntry). e.kind) same ∙ kind))
only_there [] table first second (suc (suc (suc i))) s each one other is kind = absurd cc
only_there (t ∷ these) table first second zero s each one other is kind = absurd (each 0 s is kind)
only_there (t ∷ these) table first second (suc i) s each one other is kind =
    ap suc (only_there these table first second i s (λ j e at. each (suc j) e at) one other is kind)

pub listed_other : (symbols : SymbolMap) (sections : LaidSections) (other : ℕ) → ((number : ℕ) (section : SectionOf LaidItem) → slice_get sections number ≡ Some section → section.kind ≢ other)
    → NoKind other (map (source_section symbols sections) sections)
listed_other symbols sections other each i s is kind =
    let view = source_section symbols sections in
    mapped view (slice_get sections i) s (sym (slice_get-map view sections i) ∙ is) (λ section there same.
    each i section there (ap (λ (e : SectionEntry). e.kind) same ∙ kind))

-- a group is no symbol table
groups_other : (symbols : SymbolMap) (sections : LaidSections) → NoTable (groups_in symbols sections)
groups_other symbols sections i s is kind =
    let group : s.kind ≡ 17 = ap (λ (e : SectionEntry). e.kind) (group_at symbols sections i s is).same in
    absurd (omega (arith, group, kind))

place_of : (symbols : SymbolMap) (sections : LaidSections) (index : ℕ) (s : SectionEntry)
    → ((number : ℕ) (section : SectionOf LaidItem) → slice_get sections number ≡ Some section → section.kind ≢ 2)
    → slice_get (with_names (entries_of symbols sections)) index ≡ Some s → s.kind ≡ 2 → index ≡ length (source_entries symbols sections)
unfolding with_names
place_of symbols sections index s each is kind =
    let numbers = numbers_of symbols sections (named_targets symbols sections) in
    let last = names_section (entries_of symbols sections) in
    only_there (source_entries symbols sections) (symbol_table_section symbols sections) (symbol_names_section symbols sections) last index s
    (in_parts (λ (e : SectionEntry). e.kind ≢ 2) (groups_in symbols sections) _ (groups_other symbols sections)
    (sources_other 2 (λ (e : 4 ≡ 2). absurd (omega arith)) numbers (symbol_table_index symbols sections) (first_header sections) (map (source_section symbols sections) sections) (relocations_of symbols sections)
    (listed_other symbols sections 2 each)))
    (λ (e : 3 ≡ 2). absurd (omega arith)) (λ (e : 3 ≡ 2). absurd (omega arith))
    (sym (ap (λ (es : List SectionEntry). slice_get (es ++ last ∷ []) index) (entries_are symbols sections)) ∙ is) kind

-- a header behind the null header is that of a section of the file
pub record HeaderOf (symbols : SymbolMap) (sections : LaidSections) (index : ℕ) (header : SectionHeader) : Type 0 where
  pub section : SectionEntry
  pub there : slice_get (with_names (entries_of symbols sections)) index ≡ Some section
  pub describes : Describes header section

pub header_found : (symbols : SymbolMap) (sections : LaidSections) (index : ℕ) (header : SectionHeader) → ObjectFits symbols sections
    → section_header_of (image_of symbols sections) (suc index) ≡ Some header → HeaderOf symbols sections index header
header_found symbols sections index header fits in_image =
    let entries = entries_of symbols sections in
    let own = file_fits symbols sections fits in
    let is : section_header_of (file_with entries) (suc index) ≡ Some header = sym (ap (λ (bytes : List ℕ). section_header_of bytes (suc index)) (image_is symbols sections)) ∙ in_image in
    let all : length (with_names entries) ≡ length entries + 1 = count_all entries in
    let inside : suc index < length entries + 2 = header_within entries (suc index) header own is in
    let (s, there) = got (with_names entries) index (omega arith) in
    let one : index + 1 ≡ suc index = omega arith in
    let read = subst (λ n. SectionRead (file_with entries) n s) one (sections_read entries index s own there) in
    let same : read.header ≡ header = same_some read.header header (sym read.found ∙ is) in
    record { section = s; there = there; describes = subst (λ (h : SectionHeader). Describes h s) {x = read.header} same read.describes }

-- the header at index 0 is the null header
pub null_found : (symbols : SymbolMap) (sections : LaidSections) (header : SectionHeader) → ObjectFits symbols sections → section_header_of (image_of symbols sections) 0 ≡ Some header → null_fields ≡ header
null_found symbols sections header fits is =
    same_some null_fields header
    (sym (null_headers_read (entries_of symbols sections) (file_fits symbols sections fits)) ∙ sym (ap (λ (bytes : List ℕ). section_header_of bytes 0) (image_is symbols sections)) ∙ is)

pub symbol_tables_found : SymbolTablesFound
symbol_tables_found symbols sections zero header fits each is kind =
    let none : header.kind ≡ 0 = sym (ap (λ (h : SectionHeader). h.kind) (null_found symbols sections header fits is)) in
    absurd (omega arith)
symbol_tables_found symbols sections (suc index) header fits each is kind =
    let found = header_found symbols sections index header fits is in
    let two : found.section.kind ≡ 2 = sym found.describes.kind ∙ kind in
    let place : index ≡ length (source_entries symbols sections) = place_of symbols sections index found.section each found.there two in
    let long : 1 + length (source_entries symbols sections) ≡ symbol_table_index symbols sections = sources_long symbols sections in
    omega arith
