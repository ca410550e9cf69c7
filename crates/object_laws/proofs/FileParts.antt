-- The parts of a file, and where they stand.
use Rattle.std.proofs.Common.{◌≡◌, ℕ, zero, suc, ◌+◌, ◌-◌, ◌*◌, List, [], ◌∷◌, ◌++◌, Some, length, map, drop, replicate, refl, sym, ap, ◌∙◌, subst, arith, append_assoc, length-append}
use Rattle.std.proofs.lemmas.List.{drop_at, length-map, length-replicate}
use Rattle.std.specs.Prelude.{slice_get, slice_index_or, codes}
use Rattle.elf_file.specs.Fields.{half, word, xword}
use Rattle.elf_file.specs.Image.{next_multiple, gap, body_from, bodies_from, header_from, headers_from, header_end, null_header, header_table, elf_header, file_of, all_names, with_names, file_with}
use Rattle.elf_file.specs.Places.{PieceAt, body_offset}
use Rattle.elf_file.specs.Sections.{SectionEntry, file_bytes, section_header, section_names, string_section}
use Rattle.elf_file.specs.StringTable.{ended_name, name_offsets_after, name_offsets, string_table_of}

-- a piece stands where the front before it ends
pub behind_front : (bytes front piece rest : List ℕ) (at : ℕ) → bytes ≡ front ++ (piece ++ rest) → length front ≡ at → PieceAt bytes at piece
behind_front bytes front piece rest at e long = record { front = front; rest = rest; long = long; whole = e }

-- the table of the names, last of the sections
abbrev pub names_section : List SectionEntry → SectionEntry
names_section entries = string_section (codes ".shstrtab") (string_table_of (all_names entries))

abbrev pub bodies : List SectionEntry → List ℕ
bodies entries = bodies_from header_end (with_names entries)

-- where the header table stands
abbrev pub table_place : List SectionEntry → ℕ
table_place entries = header_end + length (bodies entries)

abbrev pub offsets : List SectionEntry → List ℕ
offsets entries = name_offsets (all_names entries)

abbrev pub headers : List SectionEntry → List ℕ
headers entries = header_table (offsets entries) (with_names entries)

-- the ELF header, the bodies and the header table
pub file_parts : (entries : List SectionEntry) → file_with entries ≡ elf_header (table_place entries) (1 + length (with_names entries)) ++ (bodies entries ++ headers entries)
unfolding file_with file_of
file_parts entries = append_assoc (elf_header (table_place entries) (1 + length (with_names entries))) (bodies entries) (headers entries)

pub elf_header_long : (offset count : ℕ) → length (elf_header offset count) ≡ header_end
unfolding elf_header half word xword
elf_header_long offset count = refl

pub section_header_long : (name offset : ℕ) (s : SectionEntry) → length (section_header name offset s) ≡ 64
unfolding word xword
section_header_long name offset s = refl

offsets_long : (before : ℕ) (names : List (List ℕ)) → length (name_offsets_after before names) ≡ length names
offsets_long before [] = refl
offsets_long before (name ∷ names) = ap suc (offsets_long (before + length (ended_name name)) names)

-- one more section than were given
pub count_all : (entries : List SectionEntry) → length (with_names entries) ≡ length entries + 1
unfolding with_names
count_all entries = length-append entries (names_section entries ∷ [])

-- each section has a name
pub as_many : (entries : List SectionEntry) → length (offsets entries) ≡ length (with_names entries)
unfolding name_offsets all_names section_names with_names
as_many entries =
    offsets_long 1 (all_names entries) ∙ length-append (map (λ (e : SectionEntry). e.name) entries) (codes ".shstrtab" ∷ [])
    ∙ ap (λ n. n + 1) (length-map entries (λ (e : SectionEntry). e.name)) ∙ sym (length-append entries (names_section entries ∷ []))

headers_long : (position : ℕ) (names : List ℕ) (entries : List SectionEntry) → length names ≡ length entries → length (headers_from position names entries) ≡ 64 * length entries
headers_long position [] [] long = omega arith
headers_long position [] (s ∷ ss) long = absurd cc
headers_long position (name ∷ names) [] long = absurd cc
headers_long position (name ∷ names) (s ∷ ss) long =
    let first = header_from position name s in
    let next = position + length (body_from position s) in
    let later : length (headers_from next names ss) ≡ 64 * length ss = headers_long next names ss (let fewer : length names ≡ length ss = cc in fewer) in
    let wide : length first ≡ 64 = section_header_long name (next_multiple s.alignment position) s in
    omega (arith, length-append first (headers_from next names ss), later, wide)

-- 64 bytes for each header, the null header too
pub table_long : (entries : List SectionEntry) → length (headers entries) ≡ 64 * (length entries + 2)
unfolding header_table null_header
table_long entries =
    let blank : List ℕ = replicate 64 0 in
    let more = headers_from header_end (offsets entries) (with_names entries) in
    let long : length more ≡ 64 * length (with_names entries) = headers_long header_end (offsets entries) (with_names entries) (as_many entries) in
    let count : length (with_names entries) ≡ length entries + 1 = count_all entries in
    let both : length (blank ++ more) ≡ 64 + length more = length-append blank more in
    both ∙ (let sum : 64 + length more ≡ 64 * (length entries + 2) = omega arith in sum)

-- the header table ends the file
pub file_long : (entries : List SectionEntry) → length (file_with entries) ≡ table_place entries + 64 * (length entries + 2)
file_long entries =
    let first = elf_header (table_place entries) (1 + length (with_names entries)) in
    let wide : length first ≡ 64 = elf_header_long (table_place entries) (1 + length (with_names entries)) in
    let whole : length (file_with entries) ≡ length first + (length (bodies entries) + length (headers entries)) =
    ap length (file_parts entries) ∙ length-append first (bodies entries ++ headers entries) ∙ ap (λ n. length first + n) (length-append (bodies entries) (headers entries)) in
    let table : length (headers entries) ≡ 64 * (length entries + 2) = table_long entries in
    omega arith

-- from its place on, the file is the header table
pub table_there : (entries : List SectionEntry) → drop (table_place entries) (file_with entries) ≡ headers entries
table_there entries =
    let first = elf_header (table_place entries) (1 + length (with_names entries)) in
    let wide : length first ≡ 64 = elf_header_long (table_place entries) (1 + length (with_names entries)) in
    ap (drop (table_place entries)) (file_parts entries ∙ sym (append_assoc first (bodies entries) (headers entries)))
    ∙ drop_at (first ++ bodies entries) (headers entries) (table_place entries) (length-append first (bodies entries) ∙ ap (λ n. n + length (bodies entries)) wide)

-- the header of a section stands in the table of those whose bodies stand from the position on
header_there : (position : ℕ) (names : List ℕ) (entries : List SectionEntry) (index : ℕ) (s : SectionEntry) (front table : List ℕ) → slice_get entries index ≡ Some s
    → length names ≡ length entries → table ≡ front ++ headers_from position names entries
    → PieceAt table (length front + 64 * index) (section_header (slice_index_or names index 0) (body_offset position entries index) s)
unfolding body_offset
header_there position names [] index s front table is long all = absurd cc
header_there position [] (t ∷ ts) index s front table is long all = absurd cc
header_there position (name ∷ names) (t ∷ ts) zero s front table is long all =
    let same : t ≡ s = cc in
    let place : length front ≡ length front + 64 * 0 = omega arith in
    let offset = next_multiple t.alignment position in
    let here = behind_front table front (section_header name offset t) (headers_from (position + length (body_from position t)) names ts) (length front) all refl in
    subst (λ (e : SectionEntry). PieceAt table (length front + 64 * 0) (section_header name offset e)) same
    (subst (λ n. PieceAt table n (section_header name offset t)) place here)
header_there position (name ∷ names) (t ∷ ts) (suc index) s front table is long all =
    let first = header_from position name t in
    let next = position + length (body_from position t) in
    let wide : length first ≡ 64 = section_header_long name (next_multiple t.alignment position) t in
    let later = header_there next names ts index s (front ++ first) table is (let fewer : length names ≡ length ts = cc in fewer)
    (all ∙ sym (append_assoc front first (headers_from next names ts))) in
    let place : length (front ++ first) + 64 * index ≡ length front + 64 * suc index = omega (arith, length-append front first, wide) in
    subst (λ n. PieceAt table n (section_header (slice_index_or names index 0) (body_offset next ts index) s)) place later

-- the header of a section, behind the null header
pub header_stands : (entries : List SectionEntry) (index : ℕ) (s : SectionEntry) → slice_get (with_names entries) index ≡ Some s
    → PieceAt (headers entries) (64 * (index + 1)) (section_header (slice_index_or (offsets entries) index 0) (body_offset header_end (with_names entries) index) s)
unfolding header_table null_header
header_stands entries index s is =
    let blank : List ℕ = replicate 64 0 in
    let place : 64 + 64 * index ≡ 64 * (index + 1) = omega arith in
    subst (λ n. PieceAt (headers entries) n (section_header (slice_index_or (offsets entries) index 0) (body_offset header_end (with_names entries) index) s)) place
    (header_there header_end (offsets entries) (with_names entries) index s blank (headers entries) is (as_many entries) refl)

-- the null header
pub null_stands : (entries : List SectionEntry) → PieceAt (headers entries) (64 * 0) (replicate 64 0)
unfolding header_table null_header
null_stands entries = record { front = []; rest = headers_from header_end (offsets entries) (with_names entries); long = refl; whole = refl }

gap_long : (alignment position : ℕ) → position + length (gap alignment position) ≡ next_multiple alignment position
gap_long alignment position =
    let long = length-replicate {A = ℕ} (next_multiple alignment position - position) 0 in
    omega arith

-- the body of a section stands at its offset
body_there : (entries : List SectionEntry) (index position : ℕ) (s : SectionEntry) (front rest bytes : List ℕ) → slice_get entries index ≡ Some s → length front ≡ position
    → bytes ≡ front ++ (bodies_from position entries ++ rest) → PieceAt bytes (body_offset position entries index) (file_bytes s.content)
unfolding body_offset
body_there [] index position s front rest bytes is long e = absurd cc
body_there (t ∷ ts) zero position s front rest bytes is long e =
    let same : t ≡ s = cc in
    let space = gap t.alignment position in
    let later = bodies_from (position + length (body_from position t)) ts in
    let parts : bytes ≡ (front ++ space) ++ (file_bytes t.content ++ (later ++ rest)) =
    e ∙ ap (λ (xs : List ℕ). front ++ xs) (append_assoc (space ++ file_bytes t.content) later rest ∙ append_assoc space (file_bytes t.content) (later ++ rest))
    ∙ sym (append_assoc front space (file_bytes t.content ++ (later ++ rest))) in
    let filled = gap_long t.alignment position in
    rw (← same) (behind_front bytes (front ++ space) (file_bytes t.content) (later ++ rest) (next_multiple t.alignment position) parts
    (length-append front space ∙ ap (λ n. n + length space) long ∙ filled))
body_there (t ∷ ts) (suc index) position s front rest bytes is long e =
    let body = body_from position t in
    let later = bodies_from (position + length body) ts in
    body_there ts index (position + length body) s (front ++ body) rest bytes is (length-append front body ∙ ap (λ n. n + length body) long)
    (e ∙ ap (λ (xs : List ℕ). front ++ xs) (append_assoc body later rest) ∙ sym (append_assoc front body (later ++ rest)))

pub body_stands : (entries : List SectionEntry) (index : ℕ) (s : SectionEntry) → slice_get (with_names entries) index ≡ Some s
    → PieceAt (file_with entries) (body_offset header_end (with_names entries) index) (file_bytes s.content)
body_stands entries index s is =
    let first = elf_header (table_place entries) (1 + length (with_names entries)) in
    body_there (with_names entries) index header_end s first (headers entries) (file_with entries) is
    (elf_header_long (table_place entries) (1 + length (with_names entries))) (file_parts entries)
