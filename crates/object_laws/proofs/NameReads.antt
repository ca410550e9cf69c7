-- Names are read back from their table.
use Rattle.std.proofs.Common.{◌≡◌, ℕ, zero, suc, ◌+◌, ◌-◌, ◌<◌, ◌^◌, ◌&&◌, Bool, true, false, cond, List, [], ◌∷◌, ◌++◌, Option, Some, None, length, map, take, drop, nat_lt, option_and_then, codes, refl, sym, ap, ◌∙◌, subst, arith, append_assoc, length-append}
use Rattle.std.proofs.lemmas.Bool.{lt-ltb}
use Rattle.std.proofs.lemmas.List.{drop_at, take_at, length-drop}
use Rattle.std.proofs.lemmas.Option.{slice_get-map}
use Rattle.std.specs.Prelude.{slice_get, slice_index_or, option_map}
use Rattle.std.specs.List.{list_all, prefix_len}
use Rattle.elf_file.specs.declared.reader.SectionHeader.{SectionHeader}
use Rattle.elf_file.specs.Image.{all_names, with_names, file_with, header_end}
use Rattle.elf_file.specs.Places.{body_offset}
use Rattle.elf_file.specs.Reader.{text_from, content_at, name_by, header_name, section_name_of, section_header_of, section_content}
use Rattle.elf_file.specs.Sections.{SectionEntry, section_names}
use Rattle.elf_file.specs.StringTable.{is_no_end, ended_name, strings, string_table_of, name_offset_after, name_offsets_after, name_offsets}
use Rattle.object_laws.specs.Limits.{FileFits}
use Rattle.object_laws.specs.FileReading.{null_fields, SectionsRead}
use Rattle.object_laws.proofs.FileParts.{names_section, offsets}
use Rattle.object_laws.proofs.SectionReads.{file_read, null_headers_read, own_header, own_header_read, headers_read, name_in}

-- from this offset on, the table begins with the name and a zero byte
pub record NameAt (table : List ℕ) (offset : ℕ) (name : List ℕ) : Type 0 where
  pub rest : List ℕ
  pub there : drop offset table ≡ name ++ 0 ∷ rest

pub both_so : (a b : Bool) → (a && b) ≡ true → (a ≡ true) × (b ≡ true)
both_so true b e = (refl, e)
both_so false b e = absurd cc

-- the zero byte behind the name is the first
front_of : (name rest : List ℕ) → list_all is_no_end name ≡ true → prefix_len is_no_end (name ++ 0 ∷ rest) ≡ length name
front_of [] rest all = refl
front_of (c ∷ cs) rest all =
    let (first, others) = both_so (is_no_end c) (list_all is_no_end cs) all in
    let later : prefix_len is_no_end (cs ++ 0 ∷ rest) ≡ length cs = front_of cs rest others in
    ap (λ (b : Bool). cond b (1 + prefix_len is_no_end (cs ++ 0 ∷ rest)) 0) first ∙ (let sum : 1 + prefix_len is_no_end (cs ++ 0 ∷ rest) ≡ suc (length cs) = omega arith in sum)

-- the text up to the first zero byte
abbrev text_in : List ℕ → Option (List ℕ)
text_in bytes = cond (nat_lt (prefix_len is_no_end bytes) (length bytes)) (Some (take (prefix_len is_no_end bytes) bytes)) None

text_here : (name rest : List ℕ) → list_all is_no_end name ≡ true → text_in (name ++ 0 ∷ rest) ≡ Some name
text_here name rest all =
    let bytes = name ++ 0 ∷ rest in
    let long : length bytes ≡ length name + length (0 ∷ rest) = length-append name (0 ∷ rest) in
    let one : length (0 ∷ rest) ≡ length rest + 1 = omega arith in
    ap (λ n. cond (nat_lt n (length bytes)) (Some (take n bytes)) None) (front_of name rest all)
    ∙ ap (λ (b : Bool). cond b (Some (take (length name) bytes)) None) (lt-ltb (length name) (length bytes) (omega arith))
    ∙ ap Some (take_at name (0 ∷ rest) (length name) refl)

pub text_read : (table : List ℕ) (offset : ℕ) (name : List ℕ) → NameAt table offset name → list_all is_no_end name ≡ true → text_from table offset ≡ Some name
unfolding text_from
text_read table offset name there all = ap text_in there.there ∙ text_here name there.rest all

-- the name begins within the table
pub begins_within : (table : List ℕ) (offset : ℕ) (name : List ℕ) → NameAt table offset name → offset < length table
begins_within table offset name at =
    let rest = at.rest in
    let left : length table - offset ≡ length name + length (0 ∷ rest) = sym (length-drop offset table) ∙ ap length at.there ∙ length-append name (0 ∷ rest) in
    let one : length (0 ∷ rest) ≡ length rest + 1 = omega arith in
    omega arith

first_there : (before : List ℕ) (name : List ℕ) (more : List (List ℕ)) → NameAt (0 ∷ (before ++ strings (name ∷ more))) (name_offset_after (suc (length before)) name) name
first_there before [] more = record { rest = before ++ strings ([] ∷ more); there = refl }
first_there before (c ∷ cs) more =
    let bytes = (c ∷ cs) ++ 0 ∷ [] in record {
      rest = strings more;
      there = drop_at before (bytes ++ strings more) (length before) refl ∙ append_assoc (c ∷ cs) (0 ∷ []) (strings more);
    }

names_there : (before : List ℕ) (names : List (List ℕ)) (index : ℕ) (name : List ℕ) → slice_get names index ≡ Some name
    → NameAt (0 ∷ (before ++ strings names)) (slice_index_or (name_offsets_after (suc (length before)) names) index 0) name
names_there before [] index name is = absurd cc
names_there before (n ∷ names) zero name is = let same : n ≡ name = cc in rw (← same) (first_there before n names)
names_there before (n ∷ names) (suc index) name is =
    let next = before ++ ended_name n in
    let long : suc (length before) + length (ended_name n) ≡ suc (length next) = omega (arith, length-append before (ended_name n)) in
    let row : 0 ∷ (before ++ (ended_name n ++ strings names)) ≡ 0 ∷ (next ++ strings names) = ap (λ (xs : List ℕ). 0 ∷ xs) (sym (append_assoc before (ended_name n) (strings names))) in
    let later = names_there next names index name is in
    let place : slice_index_or (name_offsets_after (suc (length before) + length (ended_name n)) names) index 0 ≡ slice_index_or (name_offsets_after (suc (length next)) names) index 0 =
    ap (λ m. slice_index_or (name_offsets_after m names) index 0) long in
    record {
      rest = later.rest;
      there = ap (λ m. drop m (0 ∷ (before ++ (ended_name n ++ strings names)))) place
          ∙ ap (drop (slice_index_or (name_offsets_after (suc (length next)) names) index 0)) row ∙ later.there;
    }

-- each name stands in the table of the names at its offset
pub name_there : (names : List (List ℕ)) (index : ℕ) (name : List ℕ) → slice_get names index ≡ Some name
    → NameAt (string_table_of names) (slice_index_or (name_offsets names) index 0) name
unfolding string_table_of name_offsets
name_there names index name is = names_there [] names index name is

-- the name of a section stands among the names
own_name : (entries : List SectionEntry) (index : ℕ) (s : SectionEntry) → slice_get (with_names entries) index ≡ Some s → slice_get (all_names entries) index ≡ Some s.name
unfolding with_names all_names section_names
own_name entries index s is =
    let last = names_section entries in
    let mapped : map (λ (e : SectionEntry). e.name) (entries ++ last ∷ []) ≡ map (λ (e : SectionEntry). e.name) entries ++ codes ".shstrtab" ∷ [] = pushed entries last in
    ap (λ (xs : List (List ℕ)). slice_get xs index) (sym mapped) ∙ slice_get-map (λ (e : SectionEntry). e.name) (entries ++ last ∷ []) index ∙ ap (option_map (λ (e : SectionEntry). e.name)) is
  where
    pushed : (these : List SectionEntry) (last : SectionEntry) → map (λ (e : SectionEntry). e.name) (these ++ last ∷ []) ≡ map (λ (e : SectionEntry). e.name) these ++ last.name ∷ []
    pushed [] last = refl
    pushed (s ∷ these) last = ap (λ (xs : List (List ℕ)). s.name ∷ xs) (pushed these last)

-- the last section is that of the names
pub last_there : (entries : List SectionEntry) → slice_get (with_names entries) (length entries) ≡ Some (names_section entries)
unfolding with_names
last_there entries = last_of entries (names_section entries)
  where
    last_of : (these : List SectionEntry) (last : SectionEntry) → slice_get (these ++ last ∷ []) (length these) ≡ Some last
    last_of [] last = refl
    last_of (s ∷ these) last = last_of these last

-- the table of the names is read
pub names_content : (entries : List SectionEntry) → FileFits entries → content_at (file_with entries) (length entries + 1) ≡ Some (string_table_of (all_names entries))
names_content entries fits =
    let n = length entries in
    let last = names_section entries in
    ap (option_and_then (section_content (file_with entries))) (own_header_read entries n last fits (last_there entries)) ∙ (headers_read entries n last fits (last_there entries)).bytes

-- the name of a section whose header has this offset
named_by : (entries : List SectionEntry) (h : SectionHeader) (index : ℕ) (name : List ℕ) → FileFits entries → section_header_of (file_with entries) index ≡ Some h
    → NameAt (string_table_of (all_names entries)) h.name name → list_all is_no_end name ≡ true → section_name_of (file_with entries) index ≡ Some name
unfolding section_name_of
named_by entries h index name fits found there all =
    let file = file_with entries in
    ap (option_and_then (header_name file)) found ∙ ap (option_and_then (name_by file h)) (file_read entries fits)
    ∙ ap (option_and_then (λ (table : List ℕ). text_from table h.name)) (names_content entries fits) ∙ text_read (string_table_of (all_names entries)) h.name name there all

name_read : (entries : List SectionEntry) (index : ℕ) (s : SectionEntry) → FileFits entries → slice_get (with_names entries) index ≡ Some s
    → list_all is_no_end s.name ≡ true → section_name_of (file_with entries) (index + 1) ≡ Some s.name
name_read entries index s fits is all =
    let table = string_table_of (all_names entries) in
    let offset = slice_index_or (offsets entries) index 0 in
    let place = body_offset header_end (with_names entries) index in
    let there = name_there (all_names entries) index s.name (own_name entries index s is) in
    let inside : offset < length table = begins_within table offset s.name there in
    let small : length table < 2 ^ 32 = fits.names in
    let same : (own_header entries index s).name ≡ offset = name_in offset place s (omega arith) in
    named_by entries (own_header entries index s) (index + 1) s.name fits (own_header_read entries index s fits is) (subst (λ n. NameAt table n s.name) (sym same) there) all

pub sections_read : SectionsRead
sections_read entries index s fits is =
    let read = headers_read entries index s fits is in
    record {
      header = own_header entries index s;
      found = own_header_read entries index s fits is;
      describes = read.describes;
      bytes = read.bytes;
      name = name_read entries index s fits is;
    }

-- the null section has no name
pub null_name_read : (entries : List SectionEntry) → FileFits entries → section_name_of (file_with entries) 0 ≡ Some []
unfolding string_table_of
null_name_read entries fits =
    named_by entries null_fields 0 [] fits (null_headers_read entries fits) (record { rest = strings (all_names entries); there = refl }) refl
