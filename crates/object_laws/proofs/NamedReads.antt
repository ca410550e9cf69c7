-- A look for a name finds the first section of that name.
use Rattle.std.proofs.Common.{◌≡◌, ℕ, zero, suc, ◌+◌, ◌<◌, Bool, true, false, cond, not, List, [], ◌∷◌, ◌++◌, Option, Some, None, length, nat_lt, option_map, option_and_then, position, find, refl, sym, ap, ◌∙◌, inl, inr, arith}
use Rattle.std.proofs.lemmas.Bool.{lt-ltb, le-ltb, cases_lt}
use Rattle.std.specs.Prelude.{slice_get}
use Rattle.std.specs.List.{list_all, position_or_len, range_with_len}
use Rattle.std.specs.Str.{bytes_eq}
use Rattle.elf_file.specs.declared.reader.HeaderTable.{HeaderTable}
use Rattle.elf_file.specs.Image.{with_names, file_with}
use Rattle.elf_file.specs.Reader.{section_name_of, is_same_name, first_named, named_section}
use Rattle.elf_file.specs.Sections.{SectionEntry}
use Rattle.elf_file.specs.StringTable.{is_no_end}
use Rattle.object_laws.specs.FileReading.{NamedSectionsRead}
use Rattle.object_laws.proofs.FileParts.{names_section, count_all}
use Rattle.object_laws.proofs.SectionReads.{file_read}
use Rattle.object_laws.proofs.NameReads.{both_so, sections_read, null_name_read}

-- a place behind one more element
one_on : (n m from : ℕ) → cond (nat_lt (1 + n) (suc m)) (Some (from + (1 + n))) None ≡ cond (nat_lt n m) (Some (from + 1 + n)) None
one_on n m from = elim (cases_lt n m) [
  | inl below ↦
      let place : from + (1 + n) ≡ from + 1 + n = omega arith in
      ap (λ (b : Bool). cond b (Some (from + (1 + n))) None) (lt-ltb (1 + n) (suc m) (omega arith)) ∙ ap Some place
      ∙ sym (ap (λ (b : Bool). cond b (Some (from + 1 + n)) None) (lt-ltb n m below))
  | inr above ↦
      ap (λ (b : Bool). cond b (Some (from + (1 + n))) None) (le-ltb (1 + n) (suc m) (omega arith))
      ∙ sym (ap (λ (b : Bool). cond b (Some (from + 1 + n)) None) (le-ltb n m above))
]

-- the first place that passes, counted from another
abbrev place_from : (SectionEntry → Bool) → List SectionEntry → ℕ → Option ℕ
place_from test these from = cond (nat_lt (position_or_len test these) (length these)) (Some (from + position_or_len test these)) None

found_here : (test : SectionEntry → Bool) (s : SectionEntry) (these : List SectionEntry) (from : ℕ) (so : Bool)
    → cond so (Some from) (place_from test these (from + 1))
    ≡ cond (nat_lt (cond (not so) (1 + position_or_len test these) 0) (suc (length these))) (Some (from + cond (not so) (1 + position_or_len test these) 0)) None
found_here test s these from true =
    let none : from ≡ from + 0 = omega arith in
    ap Some none ∙ sym (ap (λ (b : Bool). cond b (Some (from + 0)) None) (lt-ltb 0 (suc (length these)) (omega arith)))
found_here test s these from false = sym (one_on (position_or_len test these) (length these) from)

-- a look through indices goes through the sections
found_in : (p : ℕ → Bool) (test : SectionEntry → Bool) (these : List SectionEntry) (from : ℕ)
    → ((index : ℕ) (s : SectionEntry) → slice_get these index ≡ Some s → p (from + index) ≡ test s)
    → find p (range_with_len from (length these)) ≡ place_from test these from
found_in p test [] from each = refl
found_in p test (s ∷ these) from each =
    let none : from ≡ from + 0 = omega arith in
    let first : p from ≡ test s = ap p none ∙ each 0 s refl in
    let later : find p (range_with_len (from + 1) (length these)) ≡ place_from test these (from + 1) =
    found_in p test these (from + 1) (λ index t is. let on : from + 1 + index ≡ from + suc index = omega arith in ap p on ∙ each (suc index) t is) in
    ap (λ (b : Bool). cond b (Some from) (find p (range_with_len (from + 1) (length these)))) first
    ∙ ap (λ (o : Option ℕ). cond (test s) (Some from) o) later ∙ found_here test s these from (test s)

counted : (test : SectionEntry → Bool) (these : List SectionEntry) → place_from test these 1 ≡ option_map (λ index. index + 1) (position test these)
counted test these = mapped (nat_lt (position_or_len test these) (length these)) (position_or_len test these)
  where
    mapped : (b : Bool) (m : ℕ) → cond b (Some (1 + m)) None ≡ option_map (λ (index : ℕ). index + 1) (cond b (Some m) None)
    mapped true m = let same : 1 + m ≡ m + 1 = omega arith in ap Some same
    mapped false m = refl

text_names : (these : List SectionEntry) (last : SectionEntry) (index : ℕ) (s : SectionEntry) → list_all (λ (e : SectionEntry). list_all is_no_end e.name) these ≡ true
    → list_all is_no_end last.name ≡ true → slice_get (these ++ last ∷ []) index ≡ Some s → list_all is_no_end s.name ≡ true
text_names [] last zero s all own is = let same : last ≡ s = cc in ap (λ (e : SectionEntry). list_all is_no_end e.name) (sym same) ∙ own
text_names [] last (suc index) s all own is = absurd cc
text_names (e ∷ these) last zero s all own is =
    let same : e ≡ s = cc in
    let (first, others) = both_so (list_all is_no_end e.name) (list_all (λ (t : SectionEntry). list_all is_no_end t.name) these) all in
    ap (λ (t : SectionEntry). list_all is_no_end t.name) (sym same) ∙ first
text_names (e ∷ these) last (suc index) s all own is =
    let (first, others) = both_so (list_all is_no_end e.name) (list_all (λ (t : SectionEntry). list_all is_no_end t.name) these) all in
    text_names these last index s others own is

not_empty : (name : List ℕ) → 0 < length name → is_same_name name (Some []) ≡ false
not_empty [] long = absurd (omega arith)
not_empty (c ∷ cs) long = refl

pub named_sections_read : NamedSectionsRead
unfolding named_section with_names
named_sections_read entries name fits all long =
    let file = file_with entries in
    let these = with_names entries in
    let p = λ (index : ℕ). is_same_name name (section_name_of file index) in
    let test = λ (s : SectionEntry). bytes_eq s.name name in
    let count : length entries + 2 ≡ suc (length these) = omega (arith, count_all entries) in
    let null : p 0 ≡ false = ap (is_same_name name) (null_name_read entries fits) ∙ not_empty name long in
    let each : (index : ℕ) (s : SectionEntry) → slice_get these index ≡ Some s → p (1 + index) ≡ test s =
    λ index s is.
    let place : 1 + index ≡ index + 1 = omega arith in
    ap p place ∙ ap (is_same_name name) ((sections_read entries index s fits is).name (text_names entries (names_section entries) index s all refl is)) in
    ap (option_and_then (λ (table : HeaderTable). first_named file name table.count)) (file_read entries fits)
    ∙ ap (λ n. find p (range_with_len 0 n)) count
    ∙ ap (λ (b : Bool). cond b (Some 0) (find p (range_with_len 1 (length these)))) null
    ∙ found_in p test these 1 each ∙ counted test these
