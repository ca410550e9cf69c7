-- Groups are read back: what they list, and whose signature they have.
use Rattle.std.proofs.Common.{◌≡◌, ◌⊎◌, ℕ, zero, suc, ◌+◌, ◌-◌, ◌*◌, ◌/◌, ◌^◌, ◌<◌, ◌≤◌, Bool, true, false, cond, List, [], ◌∷◌, ◌++◌, Some, length, drop, flat_map, refl, sym, ap, ◌∙◌, subst, inl, inr, arith, length-append}
use Rattle.std.specs.Prelude.{slice_get, slice_index_or}
use Rattle.std.proofs.lemmas.List.{drop_at}
use Rattle.asm_frags.specs.declared.groups.Group.{Group}
use Rattle.asm_frags.specs.Groups.{is_in}
use Rattle.asm_frags.specs.SectionOf.{SectionOf}
use Rattle.asm_symbols.specs.SymbolMap.{SymbolMap}
use Rattle.asm_relax.specs.Settling.{LaidItem, LaidSections}
use Rattle.elf_file.specs.Fields.{word, word_at}
use Rattle.elf_file.specs.Sections.{group_bytes}
use Rattle.elf_symbols.specs.Numbers.{numbers_of, group_symbol}
use Rattle.elf_symbols.specs.SymbolTable.{SymbolEntry, text_of}
use Rattle.elf_object.specs.declared.relocations.Relocation.{Relocation}
use Rattle.elf_object.specs.Contents.{relocations_of}
use Rattle.elf_object.specs.Image.{image_of}
use Rattle.elf_object.specs.Sections.{header_count, header_indices_from, first_header, own_headers, members_from, members_of}
use Rattle.elf_object.specs.TableLaws.{named_targets}
use Rattle.object_laws.specs.ObjectLimits.{symbol_table_index, ObjectFits}
use Rattle.object_laws.specs.SymbolReading.{ObjectSymbolRead}
use Rattle.object_laws.specs.GroupReading.{words_of, all_words, flag_word, IsGrouped, GroupsRead}
use Rattle.object_laws.proofs.FieldReads.{word_read}
use Rattle.object_laws.proofs.ObjectParts.{get_front, get_behind, one_of, group_made, group_placed}
use Rattle.object_laws.proofs.EntryNumbers.{IsSigned, signature_numbered}
use Rattle.object_laws.proofs.SymbolReads.{object_section, content_read, index_below, symbols_read}
use Rattle.object_laws.proofs.RelocationReads.{listed_from}

-- WORDS

word_long : (n : ℕ) → length (word n) ≡ 4
unfolding word
word_long n = refl

words_long : (numbers : List ℕ) → length (flat_map word numbers) ≡ 4 * length numbers
words_long [] = refl
words_long (n ∷ numbers) = omega (arith, length-append (word n) (flat_map word numbers), word_long n, words_long numbers)

-- each number fits a word
abbrev AreWords : List ℕ → Type 0
AreWords numbers = (i : ℕ) (n : ℕ) → slice_get numbers i ≡ Some n → n < 2 ^ 32

words_read : (numbers : List ℕ) → AreWords numbers → words_of (length numbers) (flat_map word numbers) ≡ numbers
unfolding word_at
words_read [] small = refl
words_read (n ∷ numbers) small =
    let rest = flat_map word numbers in
    let first : word_at (word n ++ rest) 0 ≡ n = word_read n rest (small 0 n refl) in
    let left : drop 4 (word n ++ rest) ≡ rest = drop_at (word n) rest 4 (word_long n) in
    ap (λ m. m ∷ words_of (length numbers) (drop 4 (word n ++ rest))) first
    ∙ ap (λ (bytes : List ℕ). n ∷ words_of (length numbers) bytes) left
    ∙ ap (λ (ns : List ℕ). n ∷ ns) (words_read numbers (λ i m is. small (suc i) m is))

all_read : (numbers : List ℕ) → AreWords numbers → all_words (flat_map word numbers) ≡ numbers
all_read numbers small =
    let long = words_long numbers in
    let count : length (flat_map word numbers) / 4 ≡ length numbers = omega (arith, long) in
    ap (λ n. words_of n (flat_map word numbers)) count ∙ words_read numbers small

-- MEMBERS

-- the number is that of a header, or that behind it of the relocations, where there are any
abbrev pub IsHeaderOf : ℕ → List Relocation → ℕ → Type 0
IsHeaderOf header own member = (member ≡ header) ⊎ ((0 < length own) × (member ≡ header + 1))

own_got : (index : ℕ) (own : List Relocation) (n member : ℕ) → slice_get (own_headers index own) n ≡ Some member → IsHeaderOf index own member
own_got index [] zero member is = let same : index ≡ member = cc in inl (sym same)
own_got index [] (suc n) member is = absurd cc
own_got index (r ∷ own) zero member is = let same : index ≡ member = cc in inl (sym same)
own_got index (r ∷ own) (suc zero) member is = let same : index + 1 ≡ member = cc in inr (omega arith, sym same)
own_got index (r ∷ own) (suc (suc n)) member is = absurd cc

own_there : (index : ℕ) (own : List Relocation) (member : ℕ) → IsHeaderOf index own member → (n : ℕ) × (slice_get (own_headers index own) n ≡ Some member)
own_there index [] member (inl same) = (0, ap Some (sym same))
own_there index [] member (inr (some, same)) = absurd (omega arith)
own_there index (r ∷ own) member (inl same) = (0, ap Some (sym same))
own_there index (r ∷ own) member (inr (some, same)) = (1, ap Some (sym same))

-- an element of both is one of the first, or of the second
abbrev pub InEither : {A : Type 0} → List A → List A → ℕ → A → Type 0
InEither xs ys n x = (slice_get xs n ≡ Some x) ⊎ ((m : ℕ) × (n ≡ length xs + m) × (slice_get ys m ≡ Some x))

pub in_either : {A : Type 0} (xs ys : List A) (n : ℕ) (x : A) → slice_get (xs ++ ys) n ≡ Some x → InEither xs ys n x
in_either [] ys n x is = inr (n, omega arith, is)
in_either (y ∷ xs) ys zero x is = inl is
in_either (y ∷ xs) ys (suc n) x is = later (in_either xs ys n x is)
  where
    later : InEither xs ys n x → InEither (y ∷ xs) ys (suc n) x
    later (inl front) = inl front
    later (inr (m, place, there)) = inr (m, omega arith, there)

-- the header is that of one of these sections, which is in the group, or of its relocations; the first header has this index
record IsMemberOf (signature : List ℕ) (index : ℕ) (sections : LaidSections) (found : List (List Relocation)) (member : ℕ) : Type 0 where
  number : ℕ
  section : SectionOf LaidItem
  own : List Relocation
  there : slice_get sections number ≡ Some section
  listed : slice_get found number ≡ Some own
  grouped : is_in signature section.group ≡ true
  here : IsHeaderOf (slice_index_or (header_indices_from index found) number 0) own member

member_got : (signature : List ℕ) (index : ℕ) (sections : LaidSections) (found : List (List Relocation)) (n member : ℕ) → slice_get (members_from signature index sections found) n ≡ Some member
    → IsMemberOf signature index sections found member
member_got signature index [] found n member is = absurd cc
member_got signature index (s ∷ ss) [] n member is = absurd cc
member_got signature index (s ∷ ss) (own ∷ found) n member is =
    by_group (is_in signature s.group) refl is (λ m there. later (member_got signature (index + header_count own) ss found m member there))
  where
    more : List ℕ
    more = members_from signature (index + header_count own) ss found

    later : IsMemberOf signature (index + header_count own) ss found member → IsMemberOf signature index (s ∷ ss) (own ∷ found) member
    later at = record { number = suc at.number; section = at.section; own = at.own; there = at.there; listed = at.listed; grouped = at.grouped; here = at.here }

    by_part : is_in signature s.group ≡ true → ((m : ℕ) → slice_get more m ≡ Some member → IsMemberOf signature index (s ∷ ss) (own ∷ found) member)
        → InEither (own_headers index own) more n member → IsMemberOf signature index (s ∷ ss) (own ∷ found) member
    by_part grouped behind (inl first) = record { number = 0; section = s; own = own; there = refl; listed = refl; grouped = grouped; here = own_got index own n member first }
    by_part grouped behind (inr (m, place, there)) = behind m there

    by_group : (b : Bool) → is_in signature s.group ≡ b → slice_get (cond b (own_headers index own) [] ++ more) n ≡ Some member
        → ((m : ℕ) → slice_get more m ≡ Some member → IsMemberOf signature index (s ∷ ss) (own ∷ found) member) → IsMemberOf signature index (s ∷ ss) (own ∷ found) member
    by_group true grouped is behind = by_part grouped behind (in_either (own_headers index own) more n member is)
    by_group false other is behind = behind n is

member_there : (signature : List ℕ) (index : ℕ) (sections : LaidSections) (found : List (List Relocation)) (number : ℕ) (section : SectionOf LaidItem) (own : List Relocation) (member : ℕ)
    → slice_get sections number ≡ Some section → slice_get found number ≡ Some own → is_in signature section.group ≡ true
    → IsHeaderOf (slice_index_or (header_indices_from index found) number 0) own member → (n : ℕ) × (slice_get (members_from signature index sections found) n ≡ Some member)
member_there signature index [] found number section own member is also grouped here = absurd cc
member_there signature index (s ∷ ss) [] number section own member is also grouped here = absurd cc
member_there signature index (s ∷ ss) (other ∷ found) zero section own member is also grouped here =
    let same : s ≡ section = cc in
    let one : other ≡ own = cc in
    let in_it : is_in signature s.group ≡ true = ap (λ (t : SectionOf LaidItem). is_in signature t.group) same ∙ grouped in
    let more = members_from signature (index + header_count other) ss found in
    let (n, there) = own_there index other member (subst (λ (rs : List Relocation). IsHeaderOf index rs member) (sym one) here) in
    (n, ap (λ (b : Bool). slice_get (cond b (own_headers index other) [] ++ more) n) in_it ∙ get_front (own_headers index other) more n member there)
member_there signature index (s ∷ ss) (other ∷ found) (suc number) section own member is also grouped here =
    let (m, there) = member_there signature (index + header_count other) ss found number section own member is also grouped here in
    let first = cond (is_in signature s.group) (own_headers index other) [] in
    (length first + m, get_behind first (members_from signature (index + header_count other) ss found) m (length first + m) refl ∙ there)

-- what a group lists
member_is : (symbols : SymbolMap) (sections : LaidSections) (signature : List ℕ) (n member : ℕ) → slice_get (members_of signature sections (relocations_of symbols sections)) n ≡ Some member
    → IsGrouped symbols sections signature member
member_is symbols sections signature n member is =
    let at = member_got signature (first_header sections) sections (relocations_of symbols sections) n member is in
    record { number = at.number; section = at.section; own = at.own; there = at.there; listed = at.listed; grouped = at.grouped; here = at.here }

is_member : (symbols : SymbolMap) (sections : LaidSections) (signature : List ℕ) (member : ℕ) → IsGrouped symbols sections signature member
    → (n : ℕ) × (slice_get (members_of signature sections (relocations_of symbols sections)) n ≡ Some member)
is_member symbols sections signature member at =
    member_there signature (first_header sections) sections (relocations_of symbols sections) at.number at.section at.own member at.there at.listed at.grouped at.here

header_small : (header most : ℕ) (own : List Relocation) (member : ℕ) → header ≤ most → most + 3 < 2 ^ 16 → IsHeaderOf header own member → member < 2 ^ 32
header_small header most own member below few (inl same) = omega arith
header_small header most own member below few (inr (some, same)) = omega arith

-- all words of a group fit
words_fit : (symbols : SymbolMap) (sections : LaidSections) (group : Group) → ObjectFits symbols sections
    → AreWords (flag_word group.comdat ∷ members_of group.signature sections (relocations_of symbols sections))
words_fit symbols sections group fits zero n is =
    let same : flag_word group.comdat ≡ n = cc in
    subst (λ m. m < 2 ^ 32) same (by_flag group.comdat)
  where
    by_flag : (comdat : Bool) → flag_word comdat < 2 ^ 32
    by_flag true = omega arith
    by_flag false = omega arith
words_fit symbols sections group fits (suc i) n is =
    let found = relocations_of symbols sections in
    let at = member_got group.signature (first_header sections) sections found i n is in
    header_small _ (symbol_table_index symbols sections) at.own n (index_below (first_header sections) found at.number) fits.header_count at.here

-- ALL

-- the entry of a signature has its name
signed_name : (symbols : SymbolMap) (sections : LaidSections) (place : ℕ) (signature : List ℕ) (entry : SymbolEntry) → IsSigned symbols sections place signature entry → entry.name ≡ signature
signed_name symbols sections place signature entry (inl same) = ap (λ (e : SymbolEntry). e.name) same
signed_name symbols sections place signature entry (inr (number, symbol, own, named, listed)) =
    let marks = named_targets symbols sections in
    let (other, got, name) = listed_from symbols sections marks.symbols marks.thread_locals symbols.symbols number entry listed in
    let same = one_of other symbol got own in
    name ∙ ap (λ s. text_of s.name) same ∙ ap text_of named

pub groups_read : GroupsRead
groups_read symbols sections fits place group is =
    let numbers = numbers_of symbols sections (named_targets symbols sections) in
    let tables = symbol_table_index symbols sections in
    let found = relocations_of symbols sections in
    let made = group_made numbers tables sections found place group in
    let read = object_section symbols sections place (place + 1) made fits refl (group_placed symbols sections place group is) in
    let numbers_in = flag_word group.comdat ∷ members_of group.signature sections found in
    let words = all_read numbers_in (words_fit symbols sections group fits) in
    let has = signature_numbered symbols sections place group is in
    let number = group_symbol numbers place in
    let numbered = has.numbered in
    let some : 0 < number = numbered.some in
    let one : number - 1 + 1 ≡ read.header.info = (let back : number - 1 + 1 ≡ number = omega arith in back) ∙ sym read.describes.info in
    record {
      header = read.header;
      found = read.found;
      kind = read.describes.kind;
      flags = read.describes.flags;
      alignment = read.describes.alignment;
      entry_size = read.describes.entry_size;
      own_name = read.name refl;
      table = read.describes.link;
      bytes = group_bytes group.comdat (members_of group.signature sections found);
      content = content_read (image_of symbols sections) (place + 1) made read;
      whole = words_long numbers_in ∙ ap (λ (ns : List ℕ). 4 * length ns) (sym words);
      words = words;
      listed = λ member. (λ at. member_is symbols sections group.signature at.0 member at.1, λ at. is_member symbols sections group.signature member at);
      name = ap (λ (e : SymbolEntry). e.name) (sym has.signed) ∙ signed_name symbols sections place group.signature has.entry has.meant;
      symbol = subst (ObjectSymbolRead symbols sections read.header.info) has.signed
          (subst (λ n. ObjectSymbolRead symbols sections n has.entry) one (symbols_read symbols sections (number - 1) has.entry fits numbered.there));
    }
