-- The sections of an object, and where each stands among them.
use Rattle.std.proofs.Common.{◌≡◌, ℕ, zero, suc, ◌+◌, ◌<◌, List, [], ◌∷◌, ◌++◌, Option, Some, None, length, map, option_map, refl, sym, ap, ◌∙◌, subst, arith, length-append}
use Rattle.std.proofs.lemmas.List.{length-map}
use Rattle.std.proofs.lemmas.Option.{slice_get-map}
use Rattle.std.specs.Prelude.{slice_get, slice_index_or}
use Rattle.asm_frags.specs.declared.groups.Group.{Group}
use Rattle.asm_frags.specs.Groups.{groups_of}
use Rattle.asm_frags.specs.SectionOf.{SectionOf}
use Rattle.asm_symbols.specs.SymbolMap.{SymbolMap}
use Rattle.asm_relax.specs.Settling.{LaidItem, LaidSections}
use Rattle.elf_file.specs.Image.{with_names, file_with}
use Rattle.elf_file.specs.Sections.{SectionEntry, group_section, group_bytes, relocation_section}
use Rattle.elf_symbols.specs.Numbers.{NumbersOf, numbers_of, group_symbol}
use Rattle.elf_object.specs.declared.relocations.Relocation.{Relocation}
use Rattle.elf_object.specs.Contents.{section_relocations, relocations_from, relocations_of}
use Rattle.elf_object.specs.Image.{before_names, image_with, image_of}
use Rattle.elf_object.specs.Sections.{source_section, relocation_bytes, with_relocations, header_count, entries_from, members_of, group_entries, first_header, header_indices_from, next_header}
use Rattle.elf_object.specs.TableLaws.{named_targets}
use Rattle.object_laws.specs.ObjectLimits.{entries_of, symbol_table_index}
use Rattle.object_laws.specs.SymbolReading.{header_index, symbol_table_section, symbol_names_section}
use Rattle.object_laws.proofs.FileParts.{names_section}

-- the sections of groups
abbrev pub groups_in : SymbolMap → LaidSections → List SectionEntry
groups_in symbols sections =
    group_entries (numbers_of symbols sections (named_targets symbols sections)) (symbol_table_index symbols sections) sections (relocations_of symbols sections) 0 (groups_of sections)

-- those of groups, of the source and of their relocations
abbrev pub source_entries : SymbolMap → LaidSections → List SectionEntry
source_entries symbols sections =
    groups_in symbols sections
    ++ entries_from (numbers_of symbols sections (named_targets symbols sections)) (symbol_table_index symbols sections) (first_header sections) (map (source_section symbols sections) sections) (relocations_of symbols sections)

pub entries_are : (symbols : SymbolMap) (sections : LaidSections)
    → entries_of symbols sections ≡ source_entries symbols sections ++ symbol_table_section symbols sections ∷ symbol_names_section symbols sections ∷ []
unfolding before_names
entries_are symbols sections = refl

pub image_is : (symbols : SymbolMap) (sections : LaidSections) → image_of symbols sections ≡ file_with (entries_of symbols sections)
unfolding image_of image_with
image_is symbols sections = refl

pub relocations_long : (symbols : SymbolMap) (all : LaidSections) (number : ℕ) (sections : LaidSections) → length (relocations_from symbols all number sections) ≡ length sections
relocations_long symbols all number [] = refl
relocations_long symbols all number (s ∷ ss) = ap suc (relocations_long symbols all (number + 1) ss)

with_long : (numbers : NumbersOf) (tables index : ℕ) (s : SectionEntry) (own : List Relocation) → length (with_relocations numbers tables index s own) ≡ header_count own
with_long numbers tables index s [] = refl
with_long numbers tables index s (r ∷ own) = refl

entries_long : (numbers : NumbersOf) (tables index : ℕ) (list : List SectionEntry) (found : List (List Relocation)) → length list ≡ length found
    → index + length (entries_from numbers tables index list found) ≡ next_header index found
entries_long numbers tables index [] [] long = omega arith
entries_long numbers tables index [] (own ∷ found) long = absurd cc
entries_long numbers tables index (s ∷ list) [] long = absurd cc
entries_long numbers tables index (s ∷ list) (own ∷ found) long =
    let first = with_relocations numbers tables index s own in
    let rest = entries_from numbers tables (index + header_count own) list found in
    let both : length (first ++ rest) ≡ length first + length rest = length-append first rest in
    let here : length first ≡ header_count own = with_long numbers tables index s own in
    let later : index + header_count own + length rest ≡ next_header (index + header_count own) found =
    entries_long numbers tables (index + header_count own) list found (let fewer : length list ≡ length found = cc in fewer) in
    omega arith

groups_long : (numbers : NumbersOf) (tables : ℕ) (sections : LaidSections) (found : List (List Relocation)) (index : ℕ) (groups : List Group)
    → length (group_entries numbers tables sections found index groups) ≡ length groups
groups_long numbers tables sections found index [] = refl
groups_long numbers tables sections found index (group ∷ groups) = ap suc (groups_long numbers tables sections found (index + 1) groups)

pub groups_count : (symbols : SymbolMap) (sections : LaidSections) → length (groups_in symbols sections) ≡ length (groups_of sections)
groups_count symbols sections =
    groups_long (numbers_of symbols sections (named_targets symbols sections)) (symbol_table_index symbols sections) sections (relocations_of symbols sections) 0 (groups_of sections)

pub sources_long : (symbols : SymbolMap) (sections : LaidSections) → 1 + length (source_entries symbols sections) ≡ symbol_table_index symbols sections
sources_long symbols sections =
    let own = entries_from (numbers_of symbols sections (named_targets symbols sections)) (symbol_table_index symbols sections) (first_header sections)
    (map (source_section symbols sections) sections) (relocations_of symbols sections) in
    let count = groups_count symbols sections in
    let both : length (groups_in symbols sections ++ own) ≡ length (groups_in symbols sections) + length own = length-append (groups_in symbols sections) own in
    let long : first_header sections + length own ≡ symbol_table_index symbols sections =
    entries_long (numbers_of symbols sections (named_targets symbols sections)) (symbol_table_index symbols sections) (first_header sections) (map (source_section symbols sections) sections) (relocations_of symbols sections)
    (length-map sections (source_section symbols sections) ∙ sym (relocations_long symbols sections 0 sections)) in
    omega (arith, count, both, long)

pub get_front : {A : Type 0} (xs ys : List A) (i : ℕ) (x : A) → slice_get xs i ≡ Some x → slice_get (xs ++ ys) i ≡ Some x
get_front [] ys i x is = absurd cc
get_front (y ∷ xs) ys zero x is = is
get_front (y ∷ xs) ys (suc i) x is = get_front xs ys i x is

pub get_behind : {A : Type 0} (xs ys : List A) (i n : ℕ) → n ≡ length xs + i → slice_get (xs ++ ys) n ≡ slice_get ys i
get_behind [] ys i n e = let same : n ≡ i = omega arith in ap (slice_get ys) same
get_behind (x ∷ xs) ys i zero e = absurd (omega arith)
get_behind (x ∷ xs) ys i (suc n) e = get_behind xs ys i n (omega arith)

-- where what is mapped is there, so is what it is made of
pub mapped : {A B : Type 0} {Goal : Type 0} (f : A → B) (o : Option A) (y : B) → option_map f o ≡ Some y → ((x : A) → o ≡ Some x → f x ≡ y → Goal) → Goal
mapped f None y is go = absurd cc
mapped f (Some x) y is go = go x refl cc

-- what holds of the elements of both holds of those of the whole
pub in_parts : {A : Type 0} (P : A → Type 0) (xs ys : List A) → ((i : ℕ) (x : A) → slice_get xs i ≡ Some x → P x) → ((i : ℕ) (x : A) → slice_get ys i ≡ Some x → P x)
    → (i : ℕ) (x : A) → slice_get (xs ++ ys) i ≡ Some x → P x
in_parts P [] ys first second i x is = second i x is
in_parts P (y ∷ xs) ys first second zero x is = first 0 x is
in_parts P (y ∷ xs) ys first second (suc i) x is = in_parts P xs ys (λ j z at. first (suc j) z at) second i x is

-- the section of a group, and that group
pub record GroupAt (symbols : SymbolMap) (sections : LaidSections) (place : ℕ) (s : SectionEntry) : Type 0 where
  pub group : Group
  pub there : slice_get (groups_of sections) place ≡ Some group
  pub same : s ≡ group_section (symbol_table_index symbols sections) (group_symbol (numbers_of symbols sections (named_targets symbols sections)) place)
      (group_bytes group.comdat (members_of group.signature sections (relocations_of symbols sections)))

-- the section of a group of this index
abbrev pub group_made : NumbersOf → ℕ → LaidSections → List (List Relocation) → ℕ → Group → SectionEntry
group_made numbers tables sections found index group = group_section tables (group_symbol numbers index) (group_bytes group.comdat (members_of group.signature sections found))

-- the section of a group stands where the group does
group_there : (numbers : NumbersOf) (tables : ℕ) (sections : LaidSections) (found : List (List Relocation)) (index : ℕ) (groups : List Group) (place : ℕ) (group : Group)
    → slice_get groups place ≡ Some group → slice_get (group_entries numbers tables sections found index groups) place ≡ Some (group_made numbers tables sections found (index + place) group)
group_there numbers tables sections found index [] place group is = absurd cc
group_there numbers tables sections found index (g ∷ groups) zero group is =
    let same : g ≡ group = cc in
    let here : index ≡ index + 0 = omega arith in
    ap (λ n. Some (group_made numbers tables sections found n g)) here ∙ ap (λ (one : Group). Some (group_made numbers tables sections found (index + 0) one)) same
group_there numbers tables sections found index (g ∷ groups) (suc place) group is =
    let here : index + 1 + place ≡ index + suc place = omega arith in
    group_there numbers tables sections found (index + 1) groups place group is ∙ ap (λ n. Some (group_made numbers tables sections found n group)) here

-- each section of the groups is that of one
group_got : (numbers : NumbersOf) (tables : ℕ) (sections : LaidSections) (found : List (List Relocation)) (index : ℕ) (groups : List Group) (place : ℕ) (s : SectionEntry)
    → slice_get (group_entries numbers tables sections found index groups) place ≡ Some s → (group : Group) × (slice_get groups place ≡ Some group)
group_got numbers tables sections found index [] place s is = absurd cc
group_got numbers tables sections found index (g ∷ groups) zero s is = (g, refl)
group_got numbers tables sections found index (g ∷ groups) (suc place) s is = group_got numbers tables sections found (index + 1) groups place s is

pub one_of : {A : Type 0} {o : Option A} (x y : A) → o ≡ Some x → o ≡ Some y → x ≡ y
one_of x y is also = cc

pub group_at : (symbols : SymbolMap) (sections : LaidSections) (place : ℕ) (s : SectionEntry) → slice_get (groups_in symbols sections) place ≡ Some s → GroupAt symbols sections place s
group_at symbols sections place s is =
    let numbers = numbers_of symbols sections (named_targets symbols sections) in
    let tables = symbol_table_index symbols sections in
    let found = relocations_of symbols sections in
    let (group, there) = group_got numbers tables sections found 0 (groups_of sections) place s is in
    let zero_plus : 0 + place ≡ place = omega arith in
    record {
      group = group;
      there = there;
      same = one_of s (group_made numbers tables sections found place group) is
          (group_there numbers tables sections found 0 (groups_of sections) place group there ∙ ap (λ n. Some (group_made numbers tables sections found n group)) zero_plus);
    }

-- the header of a section of the source, and that of its relocations behind it
record SourceAt (numbers : NumbersOf) (tables : ℕ) (entries : List SectionEntry) (index header : ℕ) (s : SectionEntry) (own : List Relocation) : Type 0 where
  place : ℕ
  is : header ≡ index + place
  there : slice_get entries place ≡ Some s
  behind : 0 < length own → slice_get entries (place + 1) ≡ Some (relocation_section s.flags tables header s.name (relocation_bytes numbers own))

first_at : (numbers : NumbersOf) (tables index : ℕ) (s : SectionEntry) (own : List Relocation) (rest : List SectionEntry)
    → SourceAt numbers tables (with_relocations numbers tables index s own ++ rest) index index s own
first_at numbers tables index s [] rest = record { place = 0; is = omega arith; there = refl; behind = λ some. absurd (omega arith) }
first_at numbers tables index s (r ∷ own) rest = record { place = 0; is = omega arith; there = refl; behind = λ some. refl }

source_at : (numbers : NumbersOf) (tables index : ℕ) (list : List SectionEntry) (found : List (List Relocation)) (number : ℕ) (s : SectionEntry) (own : List Relocation)
    → slice_get list number ≡ Some s → slice_get found number ≡ Some own
    → SourceAt numbers tables (entries_from numbers tables index list found) index (slice_index_or (header_indices_from index found) number 0) s own
source_at numbers tables index [] found number s own is also = absurd cc
source_at numbers tables index (t ∷ list) [] number s own is also = absurd cc
source_at numbers tables index (t ∷ list) (other ∷ found) zero s own is also =
    let same : t ≡ s = cc in
    let one : other ≡ own = cc in
    let rest = entries_from numbers tables (index + header_count other) list found in
    let here = first_at numbers tables index t other rest in
    let moved = subst (λ (e : SectionEntry). SourceAt numbers tables (with_relocations numbers tables index t other ++ rest) index index e other) same here in
    subst (λ (rs : List Relocation). SourceAt numbers tables (with_relocations numbers tables index t other ++ rest) index index s rs) one moved
source_at numbers tables index (t ∷ list) (other ∷ found) (suc number) s own is also =
    let first = with_relocations numbers tables index t other in
    let rest = entries_from numbers tables (index + header_count other) list found in
    let long : length first ≡ header_count other = with_long numbers tables index t other in
    let later = source_at numbers tables (index + header_count other) list found number s own is also in
    let place = later.place in
    let same = later.is in
    record {
      place = header_count other + place;
      is = omega arith;
      there = get_behind first rest place (header_count other + place) (omega arith) ∙ later.there;
      behind = λ some. get_behind first rest (place + 1) (header_count other + place + 1) (omega arith) ∙ later.behind some;
    }

-- the relocations of a section
pub relocations_there : (symbols : SymbolMap) (all : LaidSections) (from : ℕ) (sections : LaidSections) (number : ℕ) (section : SectionOf LaidItem)
    → slice_get sections number ≡ Some section → slice_get (relocations_from symbols all from sections) number ≡ Some (section_relocations symbols all (from + number) section)
relocations_there symbols all from [] number section is = absurd cc
relocations_there symbols all from (t ∷ ts) zero section is =
    let same : t ≡ section = cc in
    let place : from ≡ from + 0 = omega arith in
    ap (λ n. Some (section_relocations symbols all n t)) place ∙ ap (λ (s : SectionOf LaidItem). Some (section_relocations symbols all (from + 0) s)) same
relocations_there symbols all from (t ∷ ts) (suc number) section is =
    let place : from + 1 + number ≡ from + suc number = omega arith in
    relocations_there symbols all (from + 1) ts number section is ∙ ap (λ n. Some (section_relocations symbols all n section)) place

-- the place of a section of the source in the file, and of its relocations
pub record Placed (symbols : SymbolMap) (sections : LaidSections) (number : ℕ) (section : SectionOf LaidItem) (own : List Relocation) : Type 0 where
  pub place : ℕ
  pub header : place + 1 ≡ header_index symbols sections number
  pub there : slice_get (with_names (entries_of symbols sections)) place ≡ Some (source_section symbols sections section)
  pub behind : 0 < length own → slice_get (with_names (entries_of symbols sections)) (place + 1)
      ≡ Some (relocation_section section.flags.0 (symbol_table_index symbols sections) (header_index symbols sections number) section.name
      (relocation_bytes (numbers_of symbols sections (named_targets symbols sections)) own))

in_all : (symbols : SymbolMap) (sections : LaidSections) (place : ℕ) (s : SectionEntry) → slice_get (source_entries symbols sections) place ≡ Some s
    → slice_get (with_names (entries_of symbols sections)) place ≡ Some s
unfolding with_names
in_all symbols sections place s is =
    let tail = symbol_table_section symbols sections ∷ symbol_names_section symbols sections ∷ [] in
    get_front (entries_of symbols sections) (names_section (entries_of symbols sections) ∷ []) place s
    (ap (λ (es : List SectionEntry). slice_get es place) (entries_are symbols sections) ∙ get_front (source_entries symbols sections) tail place s is)

pub placed : (symbols : SymbolMap) (sections : LaidSections) (number : ℕ) (section : SectionOf LaidItem) (own : List Relocation) → slice_get sections number ≡ Some section
    → slice_get (relocations_of symbols sections) number ≡ Some own → Placed symbols sections number section own
placed symbols sections number section own is also =
    let numbers = numbers_of symbols sections (named_targets symbols sections) in
    let tables = symbol_table_index symbols sections in
    let view = source_section symbols sections in
    let got : slice_get (map view sections) number ≡ Some (view section) = slice_get-map view sections number ∙ ap (option_map view) is in
    let at = source_at numbers tables (first_header sections) (map view sections) (relocations_of symbols sections) number (view section) own got also in
    let same = at.is in
    let groups = groups_in symbols sections in
    let own_entries = entries_from numbers tables (first_header sections) (map view sections) (relocations_of symbols sections) in
    let count = groups_count symbols sections in
    let place = length groups + at.place in
    record {
      place = place;
      header = omega (arith, same, count);
      there = in_all symbols sections place (view section) (get_behind groups own_entries at.place place refl ∙ at.there);
      behind = λ some. in_all symbols sections (place + 1) _ (get_behind groups own_entries (at.place + 1) (place + 1) (omega arith) ∙ at.behind some);
    }

-- the section of a group stands among them
pub group_placed : (symbols : SymbolMap) (sections : LaidSections) (place : ℕ) (group : Group) → slice_get (groups_of sections) place ≡ Some group
    → slice_get (with_names (entries_of symbols sections)) place ≡ Some (group_made (numbers_of symbols sections (named_targets symbols sections)) (symbol_table_index symbols sections) sections (relocations_of symbols sections) place group)
group_placed symbols sections place group is =
    let numbers = numbers_of symbols sections (named_targets symbols sections) in
    let tables = symbol_table_index symbols sections in
    let found = relocations_of symbols sections in
    let own = entries_from numbers tables (first_header sections) (map (source_section symbols sections) sections) found in
    let made = group_made numbers tables sections found place group in
    let zero_plus : 0 + place ≡ place = omega arith in
    in_all symbols sections place made
    (get_front (groups_in symbols sections) own place made
    (group_there numbers tables sections found 0 (groups_of sections) place group is ∙ ap (λ n. Some (group_made numbers tables sections found n group)) zero_plus))

tail_there : (symbols : SymbolMap) (sections : LaidSections) (place : ℕ) (s : SectionEntry)
    → slice_get (source_entries symbols sections ++ symbol_table_section symbols sections ∷ symbol_names_section symbols sections ∷ []) place ≡ Some s
    → slice_get (with_names (entries_of symbols sections)) place ≡ Some s
unfolding with_names
tail_there symbols sections place s is =
    get_front (entries_of symbols sections) (names_section (entries_of symbols sections) ∷ []) place s (ap (λ (es : List SectionEntry). slice_get es place) (entries_are symbols sections) ∙ is)

pub symbols_there : (symbols : SymbolMap) (sections : LaidSections) → slice_get (with_names (entries_of symbols sections)) (length (source_entries symbols sections)) ≡ Some (symbol_table_section symbols sections)
symbols_there symbols sections =
    let n = length (source_entries symbols sections) in
    tail_there symbols sections n (symbol_table_section symbols sections)
    (get_behind (source_entries symbols sections) (symbol_table_section symbols sections ∷ symbol_names_section symbols sections ∷ []) 0 n (omega arith))

pub texts_there : (symbols : SymbolMap) (sections : LaidSections) → slice_get (with_names (entries_of symbols sections)) (length (source_entries symbols sections) + 1) ≡ Some (symbol_names_section symbols sections)
texts_there symbols sections =
    let n = length (source_entries symbols sections) in
    tail_there symbols sections (n + 1) (symbol_names_section symbols sections)
    (get_behind (source_entries symbols sections) (symbol_table_section symbols sections ∷ symbol_names_section symbols sections ∷ []) 1 (n + 1) (omega arith))
