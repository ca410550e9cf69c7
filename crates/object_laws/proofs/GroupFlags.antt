-- Just the headers that groups list have the flag for that, and just groups have their type.
use Rattle.std.proofs.Common.{◌≡◌, ◌≢◌, ◌⊎◌, ℕ, zero, suc, ◌+◌, ◌*◌, ◌/◌, ◌%◌, ◌^◌, ◌<◌, ◌==◌, ◌||◌, bit_and, Bool, true, false, cond, List, [], ◌∷◌, ◌++◌, Option, Some, None, is_some, length, map, option_map, refl, sym, ap, ◌∙◌, subst, inl, inr, arith, mod-lt}
use Rattle.std.proofs.lemmas.Bool.Decides.{nat_tests}
use Rattle.std.proofs.lemmas.Nat.Bits.{and_pow}
use Rattle.std.proofs.lemmas.Option.{slice_get-map}
use Rattle.std.proofs.lemmas.Slice.Eq.{bytes_eq-Decides}
use Rattle.std.specs.Prelude.{slice_get, slice_index_or}
use Rattle.std.specs.List.{fold, list_any}
use Rattle.asm_frags.specs.declared.groups.Group.{Group}
use Rattle.asm_frags.specs.Groups.{has_signature, with_group, groups_of, is_in}
use Rattle.asm_frags.specs.SectionOf.{SectionOf}
use Rattle.asm_symbols.specs.SymbolMap.{SymbolMap}
use Rattle.asm_relax.specs.Settling.{LaidItem, LaidSections}
use Rattle.elf_file.specs.declared.reader.SectionHeader.{SectionHeader}
use Rattle.elf_file.specs.Image.{with_names}
use Rattle.elf_file.specs.Reader.{section_header_of}
use Rattle.elf_file.specs.Sections.{SectionEntry, in_group, relocation_section}
use Rattle.elf_symbols.specs.Numbers.{NumbersOf, numbers_of}
use Rattle.elf_object.specs.declared.relocations.Relocation.{Relocation}
use Rattle.elf_object.specs.Contents.{relocations_of}
use Rattle.elf_object.specs.Image.{image_of}
use Rattle.elf_object.specs.Sections.{source_section, relocation_bytes, entries_from, header_indices_from, first_header}
use Rattle.elf_object.specs.TableLaws.{named_targets}
use Rattle.object_laws.specs.FileReading.{SectionRead}
use Rattle.object_laws.specs.ObjectLimits.{entries_of, symbol_table_index, ObjectFits}
use Rattle.object_laws.specs.SymbolReading.{header_index, symbol_table_section, symbol_names_section}
use Rattle.object_laws.specs.RelocationReading.{relocations_section}
use Rattle.object_laws.specs.GroupReading.{IsGrouped, GroupRead, IsMember, GroupsFound, GroupsStand}
use Rattle.object_laws.proofs.FileParts.{names_section}
use Rattle.object_laws.proofs.ObjectParts.{mapped, get_front, get_behind, one_of, groups_in, group_at, groups_count, source_entries, entries_are}
use Rattle.object_laws.proofs.SymbolReads.{source_sections_read}
use Rattle.object_laws.proofs.TableSearch.{sources_other, listed_other, header_found, null_found}
use Rattle.object_laws.proofs.RelocationReads.{relocation_tables_read}
use Rattle.object_laws.proofs.GroupReads.{IsHeaderOf, InEither, in_either, groups_read}

-- GROUPS THAT ARE SEEN

-- a group of this signature is one of these
record IsSeen (groups : List Group) (signature : List ℕ) : Type 0 where
  place : ℕ
  group : Group
  there : slice_get groups place ≡ Some group
  same : group.signature ≡ signature

any_got : (signature : List ℕ) (groups : List Group) → list_any (has_signature signature) groups ≡ true → IsSeen groups signature
any_got signature [] is = absurd cc
any_got signature (g ∷ groups) is = by_first (has_signature signature g) refl is (any_got signature groups)
  where
    by_first : (b : Bool) → has_signature signature g ≡ b → (b || list_any (has_signature signature) groups) ≡ true
        → (list_any (has_signature signature) groups ≡ true → IsSeen groups signature) → IsSeen (g ∷ groups) signature
    by_first true has all behind = record { place = 0; group = g; there = refl; same = sym ((bytes_eq-Decides signature g.signature).0 has) }
    by_first false has all behind = let later = behind all in record { place = suc later.place; group = later.group; there = later.there; same = later.same }

-- a group that is seen stays where it is
kept_one : (before : List Group) (one : Option Group) (place : ℕ) (group : Group) → slice_get before place ≡ Some group → slice_get (with_group before one) place ≡ Some group
kept_one before None place group is = is
kept_one before (Some g) place group is = by_seen (list_any (has_signature g.signature) before)
  where
    by_seen : (b : Bool) → slice_get (cond b before (before ++ g ∷ [])) place ≡ Some group
    by_seen true = is
    by_seen false = get_front before (g ∷ []) place group is

kept_all : (before : List Group) (all : List (Option Group)) (place : ℕ) (group : Group) → slice_get before place ≡ Some group → slice_get (fold with_group before all) place ≡ Some group
kept_all before [] place group is = is
kept_all before (one ∷ all) place group is = kept_all (with_group before one) all place group (kept_one before one place group is)

seen_first : (before : List Group) (g : Group) → IsSeen (with_group before (Some g)) g.signature
seen_first before g = by_seen (list_any (has_signature g.signature) before) refl
  where
    by_seen : (b : Bool) → list_any (has_signature g.signature) before ≡ b → IsSeen (cond b before (before ++ g ∷ [])) g.signature
    by_seen true seen = any_got g.signature before seen
    by_seen false seen = record { place = length before; group = g; there = get_behind before (g ∷ []) 0 (length before) (omega arith); same = refl }

seen : (before : List Group) (all : List (Option Group)) (n : ℕ) (g : Group) → slice_get all n ≡ Some (Some g) → IsSeen (fold with_group before all) g.signature
seen before [] n g is = absurd cc
seen before (one ∷ all) zero g is =
    let same : one ≡ Some g = cc in
    let first = seen_first before g in
    subst (λ (o : Option Group). IsSeen (fold with_group (with_group before o) all) g.signature) (sym same)
    (record { place = first.place; group = first.group; there = kept_all (with_group before (Some g)) all first.place first.group first.there; same = first.same })
seen before (one ∷ all) (suc n) g is = seen (with_group before one) all n g is

-- the group of a section is seen
group_seen : (sections : LaidSections) (number : ℕ) (section : SectionOf LaidItem) (g : Group) → slice_get sections number ≡ Some section → section.group ≡ Some g → IsSeen (groups_of sections) g.signature
unfolding groups_of
group_seen sections number section g is own =
    let view = λ (s : SectionOf LaidItem). s.group in
    seen [] (map view sections) number g (slice_get-map view sections number ∙ ap (option_map view) is ∙ ap Some own)

-- THE FLAG

abbrev IsSet : ℕ → Type 0
IsSet flags = (bit_and flags in_group == in_group) ≡ true

unset : (flags : ℕ) → flags ≡ 0 → IsSet flags → ⊥
unset flags none is =
    let other : (bit_and flags in_group == in_group) ≡ false = ap (λ f. bit_and f in_group == in_group) none in
    absurd cc

-- the bit alone is 0 or the flag
one_bit : (flags : ℕ) → (bit_and flags in_group ≡ 0) ⊎ (bit_and flags in_group ≡ in_group)
one_bit flags = by_bit (flags / 2 ^ 9 % 2) (mod-lt (flags / 2 ^ 9) (omega arith)) (and_pow flags 9)
  where
    by_bit : (bit : ℕ) → bit < 2 → bit_and flags in_group ≡ bit * 2 ^ 9 → (bit_and flags in_group ≡ 0) ⊎ (bit_and flags in_group ≡ in_group)
    by_bit zero low is = inl is
    by_bit (suc zero) low is = inr is
    by_bit (suc (suc n)) low is = absurd (omega arith)

-- the flags of relocations have the flag just where those of their section do
relocations_set : (flags : ℕ) → IsSet (0x40 + bit_and flags in_group) → IsSet flags
relocations_set flags is = by_bit (one_bit flags)
  where
    by_bit : (bit_and flags in_group ≡ 0) ⊎ (bit_and flags in_group ≡ in_group) → IsSet flags
    by_bit (inl none) =
        let other : (bit_and (0x40 + bit_and flags in_group) in_group == in_group) ≡ false = ap (λ f. bit_and (0x40 + f) in_group == in_group) none in
        absurd cc
    by_bit (inr all) = ap (λ f. f == in_group) all

set_relocations : (flags : ℕ) → IsSet flags → IsSet (0x40 + bit_and flags in_group)
set_relocations flags is =
    let all : bit_and flags in_group ≡ in_group = grind (arith, nat_tests) in
    ap (λ f. bit_and (0x40 + f) in_group == in_group) all

-- SECTIONS OF THE SOURCE

-- the section of this place is that of the source of this number, or that of its relocations
record IsOfSource (list : List SectionEntry) (found : List (List Relocation)) (index place : ℕ) (s : SectionEntry) : Type 0 where
  number : ℕ
  section : SectionEntry
  own : List Relocation
  there : slice_get list number ≡ Some section
  listed : slice_get found number ≡ Some own
  flags : IsSet s.flags → IsSet section.flags
  here : IsHeaderOf (slice_index_or (header_indices_from index found) number 0) own (index + place)

source_got : (numbers : NumbersOf) (tables index : ℕ) (list : List SectionEntry) (found : List (List Relocation)) (place : ℕ) (s : SectionEntry)
    → slice_get (entries_from numbers tables index list found) place ≡ Some s → IsOfSource list found index place s
source_got numbers tables index [] found place s is = absurd cc
source_got numbers tables index (t ∷ list) [] place s is = absurd cc
source_got numbers tables index (t ∷ list) ([] ∷ found) zero s is =
    let same : t ≡ s = cc in
    record { number = 0; section = t; own = []; there = refl; listed = refl; flags = subst (λ (e : SectionEntry). IsSet e.flags → IsSet t.flags) same (λ set. set); here = inl (omega arith) }
source_got numbers tables index (t ∷ list) ([] ∷ found) (suc place) s is =
    let at = source_got numbers tables (index + 1) list found place s is in
    let one : index + 1 + place ≡ index + suc place = omega arith in
    record {
      number = suc at.number;
      section = at.section;
      own = at.own;
      there = at.there;
      listed = at.listed;
      flags = at.flags;
      here = subst (IsHeaderOf (slice_index_or (header_indices_from (index + 1) found) at.number 0) at.own) one at.here;
    }
source_got numbers tables index (t ∷ list) ((r ∷ own) ∷ found) zero s is =
    let same : t ≡ s = cc in
    record { number = 0; section = t; own = r ∷ own; there = refl; listed = refl; flags = subst (λ (e : SectionEntry). IsSet e.flags → IsSet t.flags) same (λ set. set); here = inl (omega arith) }
source_got numbers tables index (t ∷ list) ((r ∷ own) ∷ found) (suc zero) s is =
    let same : relocation_section t.flags tables index t.name (relocation_bytes numbers (r ∷ own)) ≡ s = cc in
    record {
      number = 0;
      section = t;
      own = r ∷ own;
      there = refl;
      listed = refl;
      flags = subst (λ (e : SectionEntry). IsSet e.flags → IsSet t.flags) same (relocations_set t.flags);
      here = inr (omega arith, omega arith);
    }
source_got numbers tables index (t ∷ list) ((r ∷ own) ∷ found) (suc (suc place)) s is =
    let at = source_got numbers tables (index + 2) list found place s is in
    let two : index + 2 + place ≡ index + suc (suc place) = omega arith in
    record {
      number = suc at.number;
      section = at.section;
      own = at.own;
      there = at.there;
      listed = at.listed;
      flags = at.flags;
      here = subst (IsHeaderOf (slice_index_or (header_indices_from (index + 2) found) at.number 0) at.own) two at.here;
    }

-- ALL SECTIONS

-- what is so of none of the ones behind stands in front
kept_front : {A : Type 0} (xs ys : List A) (i : ℕ) (x : A) → slice_get (xs ++ ys) i ≡ Some x → ((m : ℕ) → slice_get ys m ≡ Some x → ⊥) → slice_get xs i ≡ Some x
kept_front xs ys i x is none = by_part (in_either xs ys i x is)
  where
    by_part : InEither xs ys i x → slice_get xs i ≡ Some x
    by_part (inl front) = front
    by_part (inr (m, place, there)) = absurd (none m there)

module _ (symbols : SymbolMap) (sections : LaidSections) where
  abbrev own_entries : List SectionEntry
  own_entries =
      entries_from (numbers_of symbols sections (named_targets symbols sections)) (symbol_table_index symbols sections) (first_header sections) (map (source_section symbols sections) sections) (relocations_of symbols sections)

  -- the tables behind the sections of the source are no groups, and are in none
  record IsTable (s : SectionEntry) : Type 0 where
    other : s.kind ≢ 17
    unflagged : s.flags ≡ 0

  tables_there : (m : ℕ) (s : SectionEntry) → slice_get (symbol_table_section symbols sections ∷ symbol_names_section symbols sections ∷ []) m ≡ Some s → IsTable s
  tables_there zero s is =
      let same : symbol_table_section symbols sections ≡ s = cc in
      subst IsTable same (record { other = λ (e : 2 ≡ 17). absurd (omega arith); unflagged = refl })
  tables_there (suc zero) s is =
      let same : symbol_names_section symbols sections ≡ s = cc in
      subst IsTable same (record { other = λ (e : 3 ≡ 17). absurd (omega arith); unflagged = refl })
  tables_there (suc (suc m)) s is = absurd cc

  names_there : (m : ℕ) (s : SectionEntry) → slice_get (names_section (entries_of symbols sections) ∷ []) m ≡ Some s → IsTable s
  names_there zero s is =
      let same : names_section (entries_of symbols sections) ≡ s = cc in
      subst IsTable same (record { other = λ (e : 3 ≡ 17). absurd (omega arith); unflagged = refl })
  names_there (suc m) s is = absurd cc

  -- a section that is no such table is that of a group or one of the source
  among_sources : (index : ℕ) (s : SectionEntry) → slice_get (with_names (entries_of symbols sections)) index ≡ Some s → (IsTable s → ⊥) → slice_get (source_entries symbols sections) index ≡ Some s
  unfolding with_names
  among_sources index s is none =
      let tail = symbol_table_section symbols sections ∷ symbol_names_section symbols sections ∷ [] in
      let inner = kept_front (entries_of symbols sections) (names_section (entries_of symbols sections) ∷ []) index s is (λ m there. none (names_there m s there)) in
      kept_front (source_entries symbols sections) tail index s (sym (ap (λ (es : List SectionEntry). slice_get es index) (entries_are symbols sections)) ∙ inner)
      (λ m there. none (tables_there m s there))

  groups_found : ObjectFits symbols sections → GroupsFound symbols sections
  groups_found fits each zero header is kind =
      let none : header.kind ≡ 0 = sym (ap (λ (h : SectionHeader). h.kind) (null_found symbols sections header fits is)) in
      absurd (omega arith)
  groups_found fits each (suc index) header is kind =
      let found = header_found symbols sections index header fits is in
      let s = found.section in
      let own_kind : s.kind ≡ 17 = sym found.describes.kind ∙ kind in
      let sources = among_sources index s found.there (λ table. table.other own_kind) in
      let group = kept_front (groups_in symbols sections) own_entries index s sources (λ m there.
      sources_other 17 (λ (e : 4 ≡ 17). absurd (omega arith)) (numbers_of symbols sections (named_targets symbols sections)) (symbol_table_index symbols sections) (first_header sections)
      (map (source_section symbols sections) sections) (relocations_of symbols sections) (listed_other symbols sections 17 each) m s there own_kind) in
      let at = group_at symbols sections index s group in
      let one : index + 1 ≡ suc index = omega arith in
      record { place = index; group = at.group; there = at.there; read = subst (λ n. GroupRead symbols sections n index at.group) one (groups_read symbols sections fits index at.group at.there) }

  -- a section of the source with the flag is in a group
  flagged_grouped : ObjectFits symbols sections → (number : ℕ) (section : SectionOf LaidItem) (own : List Relocation) (index : ℕ) → slice_get sections number ≡ Some section
      → slice_get (relocations_of symbols sections) number ≡ Some own → IsHeaderOf (header_index symbols sections number) own index → IsSet section.flags.0 → IsMember symbols sections index
  flagged_grouped fits number section own index there listed here set = by_group section.group refl (sym (fits.source_sections number section there).flagged ∙ set)
    where
      by_group : (group : Option Group) → section.group ≡ group → is_some group ≡ true → IsMember symbols sections index
      by_group None same some = absurd cc
      by_group (Some g) same some =
          let at = group_seen sections number section g there same in
          let in_it : is_in at.group.signature section.group ≡ true = ap (is_in at.group.signature) same ∙ (bytes_eq-Decides at.group.signature g.signature).1 at.same in
          record { place = at.place; group = at.group; there = at.there; grouped = record { number = number; section = section; own = own; there = there; listed = listed; grouped = in_it; here = here } }

  -- a section in a group has the flag
  grouped_flagged : ObjectFits symbols sections → (number : ℕ) (section : SectionOf LaidItem) (signature : List ℕ) → slice_get sections number ≡ Some section
      → is_in signature section.group ≡ true → IsSet section.flags.0
  grouped_flagged fits number section signature there grouped = (fits.source_sections number section there).flagged ∙ by_group section.group grouped
    where
      by_group : (group : Option Group) → is_in signature group ≡ true → is_some group ≡ true
      by_group None is = absurd cc
      by_group (Some g) is = refl

  -- a header with the flag is that of a member
  flagged_member : ObjectFits symbols sections → (index : ℕ) (header : SectionHeader) → section_header_of (image_of symbols sections) index ≡ Some header → IsSet header.flags → IsMember symbols sections index
  flagged_member fits zero header is set =
      let none : header.flags ≡ 0 = sym (ap (λ (h : SectionHeader). h.flags) (null_found symbols sections header fits is)) in
      absurd (unset header.flags none set)
  flagged_member fits (suc index) header is set =
      let found = header_found symbols sections index header fits is in
      let s = found.section in
      let own_set : IsSet s.flags = subst IsSet found.describes.flags set in
      by_part s own_set (in_either (groups_in symbols sections) own_entries index s (among_sources index s found.there (λ table. unset s.flags table.unflagged own_set)))
    where
      by_source : (m : ℕ) (s : SectionEntry) → index ≡ length (groups_in symbols sections) + m → IsSet s.flags
          → IsOfSource (map (source_section symbols sections) sections) (relocations_of symbols sections) (first_header sections) m s → IsMember symbols sections (suc index)
      by_source m s behind own_set at =
          let view = source_section symbols sections in
          let count = groups_count symbols sections in
          let same : first_header sections + m ≡ suc index = omega (arith, behind, count) in
          mapped view (slice_get sections at.number) at.section (sym (slice_get-map view sections at.number) ∙ at.there) (λ section there made.
          flagged_grouped fits at.number section at.own (suc index) there at.listed (subst (IsHeaderOf (header_index symbols sections at.number) at.own) same at.here)
          (subst (λ (e : SectionEntry). IsSet e.flags) (sym made) (at.flags own_set)))

      by_part : (s : SectionEntry) → IsSet s.flags → InEither (groups_in symbols sections) own_entries index s → IsMember symbols sections (suc index)
      by_part s own_set (inl group) = absurd (unset s.flags (ap (λ (e : SectionEntry). e.flags) (group_at symbols sections index s group).same) own_set)
      by_part s own_set (inr (m, place, there)) =
          by_source m s place own_set
          (source_got (numbers_of symbols sections (named_targets symbols sections)) (symbol_table_index symbols sections) (first_header sections) (map (source_section symbols sections) sections)
          (relocations_of symbols sections) m s there)

  -- the header of a member has the flag
  member_flagged : ObjectFits symbols sections → (index : ℕ) (header : SectionHeader) → section_header_of (image_of symbols sections) index ≡ Some header → IsMember symbols sections index → IsSet header.flags
  member_flagged fits index header is member = by_header grouped.here
    where
      grouped : IsGrouped symbols sections member.group.signature index
      grouped = member.grouped

      set : IsSet grouped.section.flags.0
      set = grouped_flagged fits grouped.number grouped.section member.group.signature grouped.there grouped.grouped

      by_read : (at : ℕ) (s : SectionEntry) → index ≡ at → SectionRead (image_of symbols sections) at s → IsSet s.flags → IsSet header.flags
      by_read at s same read own_set =
          let one = one_of read.header header read.found (sym (ap (section_header_of (image_of symbols sections)) same) ∙ is) in
          subst (λ (h : SectionHeader). IsSet h.flags) one (subst IsSet (sym read.describes.flags) own_set)

      by_header : IsHeaderOf (header_index symbols sections grouped.number) grouped.own index → IsSet header.flags
      by_header (inl same) =
          by_read (header_index symbols sections grouped.number) (source_section symbols sections grouped.section) same (source_sections_read symbols sections grouped.number grouped.section fits grouped.there) set
      by_header (inr (some, same)) =
          by_read (header_index symbols sections grouped.number + 1) (relocations_section symbols sections grouped.number grouped.section grouped.own) same
          (relocation_tables_read symbols sections grouped.number grouped.section grouped.own fits grouped.there grouped.listed some) (set_relocations grouped.section.flags.0 set)

pub groups_stand : GroupsStand
groups_stand symbols sections fits = (
  groups_found symbols sections fits,
  λ index header is. (flagged_member symbols sections fits index header is, member_flagged symbols sections fits index header is),
)
