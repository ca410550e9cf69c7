-- Where the bytes of a section begin, by its header.
use Rattle.std.proofs.Common.{◌≡◌, ℕ, zero, suc, ◌+◌, ◌-◌, ◌<◌, ◌≤◌, List, [], ◌∷◌, ◌++◌, Option, Some, length, refl, sym, ap, ◌∙◌, subst, arith, length-append}
use Rattle.std.specs.Prelude.{slice_get, slice_index_or}
use Rattle.elf_file.specs.declared.reader.SectionHeader.{SectionHeader}
use Rattle.elf_file.specs.Image.{body_from, header_end, with_names, file_with}
use Rattle.elf_file.specs.Places.{body_offset}
use Rattle.elf_file.specs.Reader.{section_header_of}
use Rattle.elf_file.specs.Sections.{SectionEntry}
use Rattle.elf_object.specs.declared.relocations.Relocation.{Relocation}
use Rattle.elf_object.specs.Contents.{relocations_of, section_relocations}
use Rattle.elf_object.specs.Image.{image_of}
use Rattle.elf_object.specs.Places.{section_offset}
use Rattle.elf_object.specs.Sections.{first_header, header_indices_from, next_header, source_section}
use Rattle.object_laws.specs.FileReading.{SectionRead}
use Rattle.object_laws.specs.ObjectLimits.{entries_of, symbol_table_index}
use Rattle.object_laws.specs.SectionPlaces.{SourceSectionsFound}
use Rattle.object_laws.specs.SymbolReading.{header_index, symbol_table_section, symbol_names_section}
use Rattle.object_laws.proofs.FileParts.{names_section}
use Rattle.object_laws.proofs.SectionReads.{own_header, own_header_read, own_offset}
use Rattle.object_laws.proofs.ObjectParts.{source_entries, entries_are, image_is, sources_long, relocations_there, placed}
use Rattle.object_laws.proofs.ObjectFit.{next_behind, file_fits}
use Rattle.object_laws.proofs.SymbolReads.{source_sections_read}

-- the index of a header that is there is below the next one
index_below : (index : ℕ) (found : List (List Relocation)) (number : ℕ) (own : List Relocation) → slice_get found number ≡ Some own
    → slice_index_or (header_indices_from index found) number 0 < next_header index found
index_below index [] number own is = absurd cc
index_below index ([] ∷ found) zero own is =
    let later : index + 1 ≤ next_header (index + 1) found = next_behind (index + 1) found in
    omega arith
index_below index ((r ∷ others) ∷ found) zero own is =
    let later : index + 2 ≤ next_header (index + 2) found = next_behind (index + 2) found in
    omega arith
index_below index ([] ∷ found) (suc number) own is = index_below (index + 1) found number own is
index_below index ((r ∷ others) ∷ found) (suc number) own is = index_below (index + 2) found number own is

-- a section behind does not move one that is there
front_offset : (position : ℕ) (sections more : List SectionEntry) (index : ℕ) → index < length sections
    → body_offset position (sections ++ more) index ≡ body_offset position sections index
unfolding body_offset
front_offset position [] more index inside = absurd (omega arith)
front_offset position (s ∷ sections) more zero inside = refl
front_offset position (s ∷ sections) more (suc index) inside = front_offset (position + length (body_from position s)) sections more index (omega arith)

all_front : (position : ℕ) (entries : List SectionEntry) (index : ℕ) → index < length entries → body_offset position (with_names entries) index ≡ body_offset position entries index
unfolding with_names
all_front position entries index inside = front_offset position entries (names_section entries ∷ []) index inside

-- one header stands at an index
one_header : (found : Option SectionHeader) (one other : SectionHeader) → found ≡ Some one → found ≡ Some other → other ≡ one
one_header found one other is also = cc

-- the header of a section says where its bytes begin
pub sections_found : SourceSectionsFound
unfolding section_offset
sections_found symbols sections fits number section is =
    let entries = entries_of symbols sections in
    let s = source_section symbols sections section in
    let own = section_relocations symbols sections (0 + number) section in
    let listed = relocations_there symbols sections 0 sections number section is in
    let at = placed symbols sections number section own is listed in
    let place = at.place in
    let same : place + 1 ≡ header_index symbols sections number = at.header in
    let below : header_index symbols sections number < symbol_table_index symbols sections = index_below (first_header sections) (relocations_of symbols sections) number own listed in
    let long : 1 + length (source_entries symbols sections) ≡ symbol_table_index symbols sections = sources_long symbols sections in
    let all : length entries ≡ length (source_entries symbols sections) + 2 =
    ap length (entries_are symbols sections) ∙ length-append (source_entries symbols sections) (symbol_table_section symbols sections ∷ symbol_names_section symbols sections ∷ []) in
    let inside : place < length entries = omega arith in
    let number_is : place ≡ header_index symbols sections number - 1 = omega arith in
    let file = file_fits symbols sections fits in
    let header = own_header entries place s in
    let found : section_header_of (image_of symbols sections) (header_index symbols sections number) ≡ Some header =
    subst (λ (bytes : List ℕ). section_header_of bytes (header_index symbols sections number) ≡ Some header) (sym (image_is symbols sections))
    (subst (λ n. section_header_of (file_with entries) n ≡ Some header) same (own_header_read entries place s file at.there)) in
    let read : SectionRead (image_of symbols sections) (header_index symbols sections number) s = source_sections_read symbols sections number section fits is in
    record {
      read = read;
      begins = ap (λ (h : SectionHeader). h.offset) (one_header _ header read.header found read.found)
          ∙ (own_offset entries place s file at.there ∙ (all_front header_end entries place inside ∙ ap (body_offset header_end entries) number_is));
    }
