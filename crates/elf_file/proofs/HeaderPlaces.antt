-- The header of a section says where its bytes stand.
use Rattle.std.proofs.Common.{◌≡◌, ℕ, zero, suc, ◌+◌, ◌*◌, List, [], ◌∷◌, ◌++◌, Some, length, map, replicate, refl, sym, ap, ◌∙◌, subst, arith, append-nil, append_assoc, length-append}
use Rattle.std.proofs.lemmas.List.{length-map}
use Rattle.std.specs.Prelude.{slice_get, codes}
use Rattle.elf_file.specs.Fields.{word, xword}
use Rattle.elf_file.specs.FileLaws.{SectionStands, SectionsStand}
use Rattle.elf_file.specs.Image.{next_multiple, body_from, bodies_from, header_from, headers_from, header_end, null_header, header_table, elf_header, file_of, all_names, with_names, file_with}
use Rattle.elf_file.specs.Places.{PieceAt, body_offset}
use Rattle.elf_file.specs.Sections.{SectionEntry, section_header, section_names, string_section}
use Rattle.elf_file.specs.StringTable.{ended_name, name_offsets_after, name_offsets, string_table_of}
use Rattle.elf_file.proofs.FilePlaces.{stands_in, behind_front, body_stands, header_length}

section_header_length : (name offset : ℕ) (s : SectionEntry) → length (section_header name offset s) ≡ 64
unfolding word xword
section_header_length name offset s = refl

offsets_long : (before : ℕ) (names : List (List ℕ)) → length (name_offsets_after before names) ≡ length names
offsets_long before [] = refl
offsets_long before (name ∷ names) = ap suc (offsets_long (before + length (ended_name name)) names)

-- a header, and the offset that it says
record HeaderIn (headers : List ℕ) (at offset : ℕ) (s : SectionEntry) : Type 0 where
  name : ℕ
  there : PieceAt headers at (section_header name offset s)

header_in : (position : ℕ) (names : List ℕ) (entries : List SectionEntry) (index : ℕ) (s : SectionEntry) (front headers : List ℕ) → slice_get entries index ≡ Some s
    → length names ≡ length entries → headers ≡ front ++ headers_from position names entries
    → HeaderIn headers (length front + 64 * index) (body_offset position entries index) s
unfolding body_offset
header_in position names [] index s front headers is long all = absurd cc
header_in position [] (t ∷ ts) index s front headers is long all = absurd cc
header_in position (name ∷ names) (t ∷ ts) zero s front headers is long all =
    let same : t ≡ s = cc in
    let place : length front + 64 * 0 ≡ length front = omega arith in
    let offset = next_multiple t.alignment position in
    let here = behind_front headers front (section_header name offset t) (headers_from (position + length (body_from position t)) names ts) (length front) all refl in
    record { name = name; there = rw (place, ← same) here }
header_in position (name ∷ names) (t ∷ ts) (suc index) s front headers is long all =
    let first = header_from position name t in
    let next = position + length (body_from position t) in
    let wide : length first ≡ 64 = section_header_length name (next_multiple t.alignment position) t in
    let later = header_in next names ts index s (front ++ first) headers is (let fewer : length names ≡ length ts = cc in fewer)
    (all ∙ sym (append_assoc front first (headers_from next names ts))) in
    let place : length (front ++ first) + 64 * index ≡ length front + 64 * suc index = omega (arith, length-append front first, wide) in
    record { name = later.name; there = subst (λ n. PieceAt headers n (section_header later.name (body_offset next ts index) s)) place later.there }

-- in a file of sections, whose names stand at offsets
in_file : (names : List ℕ) (entries : List SectionEntry) (index : ℕ) (s : SectionEntry) → slice_get entries index ≡ Some s → length names ≡ length entries
    → SectionStands (file_of names entries) index s
unfolding file_of header_table null_header
in_file names entries index s is long =
    let bodies = bodies_from header_end entries in
    let table = header_end + length bodies in
    let count = 1 + length entries in
    let header = elf_header table count in
    let headers = header_table names entries in
    let file = file_of names entries in
    let blank : List ℕ = replicate 64 0 in
    let found = header_in header_end names entries index s blank headers is long refl in
    let front_long : length (header ++ bodies) ≡ table = length-append header bodies ∙ ap (λ n. n + length bodies) (header_length table count) in
    let outer : PieceAt file table headers = record { front = header ++ bodies; rest = []; long = front_long; whole = ap (λ (xs : List ℕ). (header ++ bodies) ++ xs) (sym (append-nil headers)) } in
    let inner = stands_in file headers (section_header found.name (body_offset header_end entries index) s) table (64 + 64 * index) outer found.there in
    let place : table + (64 + 64 * index) ≡ table + 64 * (index + 1) = omega arith in
    let same : entries ≡ entries ++ [] = sym (append-nil entries) in
    record {
      table = table;
      count = count;
      name = found.name;
      offset = body_offset header_end entries index;
      first = record { front = []; rest = bodies ++ headers; long = refl; whole = append_assoc header bodies headers };
      header = subst (λ n. PieceAt file n (section_header found.name (body_offset header_end entries index) s)) place inner;
      bytes = body_stands entries [] index header_end s header headers file is (header_length table count)
          (append_assoc header bodies headers ∙ ap (λ (es : List SectionEntry). header ++ (bodies_from header_end es ++ headers)) same);
    }

pub sections_stand : SectionsStand
unfolding file_with with_names name_offsets all_names section_names
sections_stand entries index s is =
    let last = string_section (codes ".shstrtab") (string_table_of (all_names entries)) ∷ [] in
    let long : length (name_offsets (all_names entries)) ≡ length (with_names entries) =
    offsets_long 1 (all_names entries) ∙ length-append (map (λ (e : SectionEntry). e.name) entries) (codes ".shstrtab" ∷ [])
    ∙ ap (λ n. n + 1) (length-map entries (λ (e : SectionEntry). e.name)) ∙ sym (length-append entries last) in
    in_file (name_offsets (all_names entries)) (with_names entries) index s is long
