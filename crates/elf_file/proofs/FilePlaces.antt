-- Where the bodies of sections stand in the file, and pieces in their bodies.
use Rattle.std.proofs.Common.{◌≡◌, ℕ, zero, suc, ◌+◌, ◌-◌, List, [], ◌∷◌, ◌++◌, Some, length, refl, sym, ap, ◌∙◌, arith, append_assoc, length-append}
use Rattle.std.proofs.lemmas.List.{length-replicate}
use Rattle.std.specs.Prelude.{slice_get, codes}
use Rattle.elf_file.specs.Fields.{half, word, xword}
use Rattle.elf_file.specs.StringTable.{name_offsets, string_table_of}
use Rattle.elf_file.specs.Sections.{SectionEntry, file_bytes, string_section}
use Rattle.elf_file.specs.Image.{next_multiple, gap, body_from, bodies_from, header_end, header_table, elf_header, file_of, all_names, with_names, file_with}
use Rattle.elf_file.specs.Places.{PieceAt, body_offset}

-- what stands in a part stands in the whole
pub stands_in : (bytes part piece : List ℕ) (at more : ℕ) → PieceAt bytes at part → PieceAt part more piece → PieceAt bytes (at + more) piece
stands_in bytes part piece at more outer inner = record {
  front = outer.front ++ inner.front;
  rest = inner.rest ++ outer.rest;
  long = length-append outer.front inner.front ∙ ap (λ n. n + length inner.front) outer.long ∙ ap (λ n. at + n) inner.long;
  whole = outer.whole ∙ ap (λ (xs : List ℕ). outer.front ++ (xs ++ outer.rest)) inner.whole
      ∙ ap (λ (xs : List ℕ). outer.front ++ xs) (append_assoc inner.front (piece ++ inner.rest) outer.rest
      ∙ ap (λ (xs : List ℕ). inner.front ++ xs) (append_assoc piece inner.rest outer.rest))
      ∙ sym (append_assoc outer.front inner.front (piece ++ (inner.rest ++ outer.rest)));
}

-- a piece stands where the front before it ends
pub behind_front : (bytes front piece rest : List ℕ) (at : ℕ) → bytes ≡ front ++ (piece ++ rest) → length front ≡ at → PieceAt bytes at piece
behind_front bytes front piece rest at e long = record { front = front; rest = rest; long = long; whole = e }

gap_length : (alignment position : ℕ) → position + length (gap alignment position) ≡ next_multiple alignment position
gap_length alignment position =
    let long = length-replicate {A = ℕ} (next_multiple alignment position - position) 0 in
    omega arith

-- the body of a section stands at its offset
pub body_stands : (entries more : List SectionEntry) (n position : ℕ) (s : SectionEntry) (front rest bytes : List ℕ) → slice_get entries n ≡ Some s → length front ≡ position
    → bytes ≡ front ++ (bodies_from position (entries ++ more) ++ rest) → PieceAt bytes (body_offset position entries n) (file_bytes s.content)
unfolding body_offset
body_stands [] more n position s front rest bytes is long e = absurd cc
body_stands (t ∷ ts) more zero position s front rest bytes is long e =
    let same : t ≡ s = cc in
    let space = gap t.alignment position in
    let later = bodies_from (position + length (body_from position t)) (ts ++ more) in
    let parts : bytes ≡ (front ++ space) ++ (file_bytes t.content ++ (later ++ rest)) =
    e ∙ ap (λ (xs : List ℕ). front ++ xs) (append_assoc (space ++ file_bytes t.content) later rest ∙ append_assoc space (file_bytes t.content) (later ++ rest))
    ∙ sym (append_assoc front space (file_bytes t.content ++ (later ++ rest))) in
    let filled = gap_length t.alignment position in
    rw (← same) (behind_front bytes (front ++ space) (file_bytes t.content) (later ++ rest) (next_multiple t.alignment position) parts
    (length-append front space ∙ ap (λ n. n + length space) long ∙ filled))
body_stands (t ∷ ts) more (suc n) position s front rest bytes is long e =
    let body = body_from position t in
    let later = bodies_from (position + length body) (ts ++ more) in
    body_stands ts more n (position + length body) s (front ++ body) rest bytes is (length-append front body ∙ ap (λ n. n + length body) long)
    (e ∙ ap (λ (xs : List ℕ). front ++ xs) (append_assoc body later rest) ∙ sym (append_assoc front body (later ++ rest)))

-- the header has 64 bytes
pub header_length : (offset count : ℕ) → length (elf_header offset count) ≡ header_end
unfolding elf_header half word xword
header_length offset count = refl

-- the body of a section stands in the file
pub file_stands : (entries : List SectionEntry) (index : ℕ) (s : SectionEntry) → slice_get entries index ≡ Some s
    → PieceAt (file_with entries) (body_offset header_end entries index) (file_bytes s.content)
unfolding file_with file_of with_names
file_stands entries index s is =
    let names = name_offsets (all_names entries) in
    let last = string_section (codes ".shstrtab") (string_table_of (all_names entries)) ∷ [] in
    let bodies = bodies_from header_end (entries ++ last) in
    let header = elf_header (header_end + length bodies) (1 + length (entries ++ last)) in
    let table = header_table names (entries ++ last) in
    body_stands entries last index header_end s header table (file_with entries) is (header_length (header_end + length bodies) (1 + length (entries ++ last)))
    (append_assoc header bodies table)
