-- The header table, headers and the bytes of sections are read back.
use Rattle.std.proofs.Common.{◌≡◌, ℕ, zero, suc, ◌+◌, ◌-◌, ◌*◌, ◌^◌, ◌<◌, ◌≤◌, ◌==◌, ◌&&◌, Bool, true, cond, List, [], ◌∷◌, ◌++◌, Some, None, length, drop, replicate, nat_eq, option_map, option_and_then, refl, sym, ap, ◌∙◌, subst, arith, length-append}
use Rattle.std.proofs.lemmas.Bool.{le-leb, le-ltb, lt-ltb}
use Rattle.std.specs.Prelude.{slice_get, slice_index_or}
use Rattle.std.specs.List.{starts_with}
use Rattle.elf_file.specs.declared.reader.HeaderTable.{HeaderTable}
use Rattle.elf_file.specs.declared.reader.SectionHeader.{SectionHeader}
use Rattle.elf_file.specs.Fields.{half, word, xword, half_at, word_at, xword_at, magic}
use Rattle.elf_file.specs.Image.{elf_header, header_end, with_names, file_with}
use Rattle.elf_file.specs.Places.{PieceAt, body_offset}
use Rattle.elf_file.specs.Reader.{piece_at, table_entry, has_file_header, header_table_in, header_table_of, header_in, header_at, section_header_of, section_content}
use Rattle.elf_file.specs.Sections.{Content, stored, nobits, no_bits, SectionEntry, content_size, file_bytes, section_header}
use Rattle.object_laws.specs.Limits.{is_space, space_size, SectionFits, FileFits}
use Rattle.object_laws.specs.FileReading.{HeaderTablesRead, HeadersEnd, null_fields, NullHeadersRead, Describes}
use Rattle.object_laws.proofs.FieldReads.{half_read, word_read, xword_read, ends_within, piece_read}
use Rattle.object_laws.proofs.FileParts.{names_section, bodies, table_place, offsets, headers, file_parts, elf_header_long, section_header_long, count_all, file_long, table_there, header_stands, null_stands, body_stands}

abbrev table_of : ℕ → ℕ → ℕ → HeaderTable
table_of offset count names = record { offset = offset; count = count; names = names }

same_table : (a b c x y z : ℕ) → a ≡ x → b ≡ y → c ≡ z → table_of a b c ≡ table_of x y z
same_table a b c x y z first second third =
    ap (λ n. table_of n b c) first ∙ ap (λ n. table_of x n c) second ∙ ap (λ n. table_of x y n) third

-- the fields of the ELF header, whatever stands behind it
fields_read : (offset count : ℕ) (rest : List ℕ) → offset < 2 ^ 64 → count < 2 ^ 16 → count - 1 < 2 ^ 16
    → header_table_in (elf_header offset count ++ rest) ≡ table_of offset count (count - 1)
unfolding elf_header half word xword half_at xword_at
fields_read offset count rest far many names =
    same_table (xword_at (elf_header offset count ++ rest) 40) (half_at (elf_header offset count ++ rest) 60) (half_at (elf_header offset count ++ rest) 62) offset count (count - 1)
    (xword_read offset [] far) (half_read count [] many) (half_read (count - 1) [] names)

begins : (offset count : ℕ) (rest : List ℕ) → starts_with nat_eq (elf_header offset count ++ rest) magic ≡ true
unfolding elf_header
begins offset count rest = refl

is_file : (offset count : ℕ) (rest : List ℕ) → has_file_header (elf_header offset count ++ rest) ≡ true
is_file offset count rest =
    let file = elf_header offset count ++ rest in
    let wide : length (elf_header offset count) ≡ 64 = elf_header_long offset count in
    let long : length file ≡ length (elf_header offset count) + length rest = length-append (elf_header offset count) rest in
    ap (λ (b : Bool). b && starts_with nat_eq file magic) (le-leb 64 (length file) (omega arith)) ∙ begins offset count rest

table_read : (offset count : ℕ) (rest : List ℕ) → offset < 2 ^ 64 → count < 2 ^ 16 → count - 1 < 2 ^ 16
    → header_table_of (elf_header offset count ++ rest) ≡ Some (table_of offset count (count - 1))
unfolding header_table_of
table_read offset count rest far many names =
    ap (λ (b : Bool). cond b (Some (header_table_in (elf_header offset count ++ rest))) None) (is_file offset count rest)
    ∙ ap Some (fields_read offset count rest far many names)

-- the table that is read of a file
abbrev pub own_table : List SectionEntry → HeaderTable
own_table entries = table_of (table_place entries) (length entries + 2) (length entries + 1)

pub file_read : (entries : List SectionEntry) → FileFits entries → header_table_of (file_with entries) ≡ Some (own_table entries)
file_read entries fits =
    let place = table_place entries in
    let count = 1 + length (with_names entries) in
    let all : length (with_names entries) ≡ length entries + 1 = count_all entries in
    let long : length (file_with entries) ≡ place + 64 * (length entries + 2) = file_long entries in
    let small = fits.size in
    let few = fits.count in
    ap header_table_of (file_parts entries) ∙ table_read place count (bodies entries ++ headers entries) (omega arith) (omega arith) (omega arith)
    ∙ ap Some (same_table place count (count - 1) place (length entries + 2) (length entries + 1) refl (omega arith) (omega arith))

pub header_tables_read : HeaderTablesRead
header_tables_read entries fits =
    let place = table_place entries in
    let file = file_with entries in
    let count = length entries + 2 in
    let long : length file ≡ place + 64 * count = file_long entries in
    file_read entries fits ∙ ap Some (same_table place count (length entries + 1) (length file - 64 * count) count (count - 1) (omega arith) refl (omega arith))

-- a header is read where it stands in the table of a file
pub header_read : (entries : List SectionEntry) (index : ℕ) (entry : List ℕ) → FileFits entries → index < length entries + 2 → PieceAt (headers entries) (64 * index) entry
    → length entry ≡ 64 → section_header_of (file_with entries) index ≡ Some (header_in entry)
unfolding section_header_of
header_read entries index entry fits inside stands long =
    let file = file_with entries in
    let table = own_table entries in
    ap (option_and_then (header_at file index)) (file_read entries fits)
    ∙ ap (λ (b : Bool). cond b (option_map header_in (table_entry (drop table.offset file) 64 index)) None) (lt-ltb index (length entries + 2) inside)
    ∙ ap (λ (xs : List ℕ). option_map header_in (table_entry xs 64 index)) (table_there entries)
    ∙ ap (option_map header_in) (piece_read (headers entries) (64 * index) 64 entry stands long)

pub headers_end : HeadersEnd
unfolding section_header_of
headers_end entries index fits past =
    let file = file_with entries in
    let table = own_table entries in
    ap (option_and_then (header_at file index)) (file_read entries fits)
    ∙ ap (λ (b : Bool). cond b (option_map header_in (table_entry (drop table.offset file) 64 index)) None) (le-ltb index (length entries + 2) past)

null_in : header_in (replicate 64 0) ≡ null_fields
unfolding header_in word_at xword_at
null_in = refl

pub null_headers_read : NullHeadersRead
null_headers_read entries fits = header_read entries 0 (replicate 64 0) fits (omega arith) (null_stands entries) refl ∙ ap Some null_in

-- the fields of a section's header
described : (name offset : ℕ) (s : SectionEntry) → SectionFits s → content_size s.content < 2 ^ 64 → Describes (header_in (section_header name offset s)) s
unfolding header_in word_at xword_at word xword
described name offset s fits small = record {
  kind = word_read s.kind [] fits.kind;
  flags = xword_read s.flags [] fits.flags;
  address = refl;
  size = xword_read (content_size s.content) [] small;
  link = word_read s.link [] fits.link;
  info = word_read s.info [] fits.info;
  alignment = xword_read s.alignment [] fits.alignment;
  entry_size = xword_read s.entry_size [] fits.entry_size;
}

pub name_in : (name offset : ℕ) (s : SectionEntry) → name < 2 ^ 32 → (header_in (section_header name offset s)).name ≡ name
unfolding header_in word_at word
name_in name offset s low = word_read name [] low

offset_in : (name offset : ℕ) (s : SectionEntry) → offset < 2 ^ 64 → (header_in (section_header name offset s)).offset ≡ offset
unfolding header_in xword_at word xword
offset_in name offset s low = xword_read offset [] low

-- the bytes that a header leads to
content_read : (file : List ℕ) (h : SectionHeader) (content : Content) → (h.kind == no_bits) ≡ is_space content → h.size ≡ content_size content
    → PieceAt file h.offset (file_bytes content) → section_content file h ≡ Some (file_bytes content)
unfolding section_content
content_read file h (stored bytes) agrees size there =
    ap (λ (b : Bool). cond b (Some []) (piece_at file h.offset h.size)) agrees ∙ piece_read file h.offset h.size bytes there (sym size)
content_read file h (nobits size) agrees same there = ap (λ (b : Bool). cond b (Some []) (piece_at file h.offset h.size)) agrees

-- the section of the names fits
names_fit : (entries : List SectionEntry) → SectionFits (names_section entries)
names_fit entries =
    record {
      kind = omega arith;
      flags = omega arith;
      space = omega arith;
      link = omega arith;
      info = omega arith;
      alignment = omega arith;
      entry_size = omega arith;
      agrees = refl;
    }

-- what is so of each of the given sections, and of the last one
all_so : (P : SectionEntry → Type 0) (entries : List SectionEntry) (last : SectionEntry)
    → ((index : ℕ) (s : SectionEntry) → slice_get entries index ≡ Some s → P s) → P last
    → (index : ℕ) (s : SectionEntry) → slice_get (entries ++ last ∷ []) index ≡ Some s → P s
all_so P [] last each own zero s is = let same : last ≡ s = cc in subst P same own
all_so P [] last each own (suc index) s is = absurd cc
all_so P (e ∷ entries) last each own zero s is = each 0 s is
all_so P (e ∷ entries) last each own (suc index) s is = all_so P entries last (λ i t at. each (suc i) t at) own index s is

pub all_fit : (entries : List SectionEntry) (index : ℕ) (s : SectionEntry) → FileFits entries → slice_get (with_names entries) index ≡ Some s → SectionFits s
unfolding with_names
all_fit entries index s fits is = all_so SectionFits entries (names_section entries) fits.sections (names_fit entries) index s is

pub got_inside : {A : Type 0} (xs : List A) (i : ℕ) (x : A) → slice_get xs i ≡ Some x → i < length xs
got_inside [] i x is = absurd cc
got_inside (y ∷ xs) zero x is = omega arith
got_inside (y ∷ xs) (suc i) x is = let inner = got_inside xs i x is in omega arith

-- the header of a section of the file, as it is read
abbrev pub own_header : List SectionEntry → ℕ → SectionEntry → SectionHeader
own_header entries index s = header_in (section_header (slice_index_or (offsets entries) index 0) (body_offset header_end (with_names entries) index) s)

pub own_header_read : (entries : List SectionEntry) (index : ℕ) (s : SectionEntry) → FileFits entries → slice_get (with_names entries) index ≡ Some s
    → section_header_of (file_with entries) (index + 1) ≡ Some (own_header entries index s)
own_header_read entries index s fits is =
    let inside : index < length (with_names entries) = got_inside (with_names entries) index s is in
    let all : length (with_names entries) ≡ length entries + 1 = count_all entries in
    header_read entries (index + 1) (section_header (slice_index_or (offsets entries) index 0) (body_offset header_end (with_names entries) index) s) fits (omega arith)
    (header_stands entries index s is) (section_header_long (slice_index_or (offsets entries) index 0) (body_offset header_end (with_names entries) index) s)

-- bytes are not larger than the file
size_fits : (content : Content) (most : ℕ) → length (file_bytes content) ≤ most → most < 2 ^ 64 → space_size content < 2 ^ 64 → content_size content < 2 ^ 64
size_fits (stored bytes) most within small space = omega arith
size_fits (nobits size) most within small space = space

-- the header says where the bytes begin
pub own_offset : (entries : List SectionEntry) (index : ℕ) (s : SectionEntry) → FileFits entries → slice_get (with_names entries) index ≡ Some s
    → (own_header entries index s).offset ≡ body_offset header_end (with_names entries) index
own_offset entries index s fits is =
    let file = file_with entries in
    let offset = body_offset header_end (with_names entries) index in
    let within : offset + length (file_bytes s.content) ≤ length file = ends_within file offset (file_bytes s.content) (body_stands entries index s is) in
    let small : length file < 2 ^ 64 = fits.size in
    offset_in (slice_index_or (offsets entries) index 0) offset s (omega arith)

-- what the header says, and the bytes that it leads to
pub record HeaderRead (file : List ℕ) (h : SectionHeader) (s : SectionEntry) : Type 0 where
  pub describes : Describes h s
  pub bytes : section_content file h ≡ Some (file_bytes s.content)

pub headers_read : (entries : List SectionEntry) (index : ℕ) (s : SectionEntry) → FileFits entries → slice_get (with_names entries) index ≡ Some s
    → HeaderRead (file_with entries) (own_header entries index s) s
headers_read entries index s fits is =
    let file = file_with entries in
    let name = slice_index_or (offsets entries) index 0 in
    let offset = body_offset header_end (with_names entries) index in
    let own = all_fit entries index s fits is in
    let there = body_stands entries index s is in
    let within : offset + length (file_bytes s.content) ≤ length file = ends_within file offset (file_bytes s.content) there in
    let within_file : length (file_bytes s.content) ≤ length file = omega arith in
    let small : length file < 2 ^ 64 = fits.size in
    let says = described name offset s own (size_fits s.content (length file) within_file small own.space) in
    let place : (own_header entries index s).offset ≡ offset = own_offset entries index s fits is in
    record {
      describes = says;
      bytes = content_read file (own_header entries index s) s.content (ap (λ n. n == no_bits) says.kind ∙ own.agrees) says.size
          (subst (λ n. PieceAt file n (file_bytes s.content)) (sym place) there);
    }
