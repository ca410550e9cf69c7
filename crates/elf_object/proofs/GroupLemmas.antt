-- What groups list is what their sections add to it, one by one.
use Rattle.std.proofs.Common.{◌≡◌, ℕ, zero, suc, add-one, ◌+◌, ◌<◌, ◌≤◌, ◌||◌, Bool, true, false, cond, List, [], ◌∷◌, ◌++◌, Option, None, Some, option_map, length, map, drop, flat_map, get_or, set, slice_get, refl, sym, ap, ◌∙◌, subst, arith, append-nil, append_assoc}
use Rattle.std.specs.Bool.{⊤}
use Rattle.std.specs.List.{fold, list_any, position, position_from}
use Rattle.std.specs.Str.{bytes_eq}
use Rattle.std.specs.Global.{Vec}
use Rattle.std.proofs.lemmas.Iterator.Adapters.{position_from-zero}
use Rattle.std.proofs.lemmas.List.Concat.{flat_map-append}
use Rattle.std.proofs.lemmas.Slice.Eq.{bytes_eq-Decides}
use Rattle.asm_frags.specs.declared.groups.Group.{Group}
use Rattle.asm_frags.specs.Groups.{has_signature, with_group, groups_of, is_in}
use Rattle.asm_frags.specs.SectionOf.{SectionOf}
use Rattle.asm_relax.specs.Settling.{LaidItem, LaidSections}
use Rattle.elf_file.specs.Fields.{word}
use Rattle.elf_file.specs.Sections.{SectionEntry, group_section, group_bytes}
use Rattle.elf_symbols.specs.Numbers.{NumbersOf, group_symbol}
use Rattle.elf_object.specs.declared.relocations.Relocation.{Relocation}
use Rattle.elf_object.specs.GroupLists.{put_at, put_found, with_member}
use Rattle.elf_object.specs.Sections.{header_count, own_headers, members_from, members_of, group_entries}
use Rattle.elf_object.proofs.LoopSteps.{next_is}

-- SIGNATURES DIFFER

-- no two groups have one signature
abbrev pub Differ : List Group → Type 0
Differ [] = ⊤
Differ (group ∷ groups) = (list_any (has_signature group.signature) groups ≡ false) × Differ groups

flipped : (a b : List ℕ) (r : Bool) → bytes_eq a b ≡ r → bytes_eq b a ≡ r
flipped a b true same = (bytes_eq-Decides b a).1 (sym ((bytes_eq-Decides a b).0 same))
flipped a b false other = by_test (bytes_eq b a) refl
  where
    by_test : (r : Bool) → bytes_eq b a ≡ r → bytes_eq b a ≡ false
    by_test true same = let back : bytes_eq a b ≡ true = (bytes_eq-Decides a b).1 (sym ((bytes_eq-Decides b a).0 same)) in absurd cc
    by_test false other = other

neither : {Goal : Type 0} (a b : Bool) → (a || b) ≡ false → (a ≡ false → b ≡ false → Goal) → Goal
neither true b none go = absurd cc
neither false b none go = go refl none

-- a group more whose signature none has
differ_more : (groups : List Group) (group : Group) → Differ groups → list_any (has_signature group.signature) groups ≡ false → Differ (groups ++ group ∷ [])
differ_more [] group differ new = (refl, tt)
differ_more (g ∷ groups) group differ new =
    neither (bytes_eq group.signature g.signature) (list_any (has_signature group.signature) groups) new
    (λ other later. (last groups g group differ.0 (flipped group.signature g.signature false other), differ_more groups group differ.1 later))
  where
    last : (groups : List Group) (g group : Group) → list_any (has_signature g.signature) groups ≡ false → bytes_eq g.signature group.signature ≡ false
        → list_any (has_signature g.signature) (groups ++ group ∷ []) ≡ false
    last [] g group none other = ap (λ b. b || false) other
    last (h ∷ groups) g group none other =
        neither (bytes_eq g.signature h.signature) (list_any (has_signature g.signature) groups) none
        (λ first later. ap (λ b. b || list_any (has_signature g.signature) (groups ++ group ∷ [])) first ∙ last groups g group later other)

differ_with : (groups : List Group) (one : Option Group) → Differ groups → Differ (with_group groups one)
differ_with groups None differ = differ
differ_with groups (Some group) differ = by_test (list_any (has_signature group.signature) groups) refl
  where
    by_test : (b : Bool) → list_any (has_signature group.signature) groups ≡ b → Differ (cond b groups (groups ++ group ∷ []))
    by_test true there = differ
    by_test false new = differ_more groups group differ new

differ_all : (groups : List Group) (all : List (Option Group)) → Differ groups → Differ (fold with_group groups all)
differ_all groups [] differ = differ
differ_all groups (one ∷ all) differ = differ_all (with_group groups one) all (differ_with groups one differ)

-- the groups of sections have signatures that differ
groups_differ : {Item : Type 0} (sections : List (SectionOf Item)) → Differ (groups_of sections)
unfolding groups_of
groups_differ sections = differ_all [] (map (λ section. section.group) sections) tt

-- LISTS TO BE COMPLETED

-- the lists with what these sections will add, of which the first has the header of this index
abbrev pub completed : List (List ℕ) → List Group → ℕ → LaidSections → List (List Relocation) → List (List ℕ)
completed [] groups index sections found = []
completed (list ∷ lists) [] index sections found = []
completed (list ∷ lists) (group ∷ groups) index sections found =
    (list ++ flat_map word (members_from group.signature index sections found)) ∷ completed lists groups index sections found

-- what each group lists in the end
abbrev pub group_words : List Group → ℕ → LaidSections → List (List Relocation) → List (List ℕ)
group_words groups index sections found = map (λ group. group_bytes group.comdat (members_from group.signature index sections found)) groups

-- nothing is listed yet
pub lists_begin : (groups : List Group) (index : ℕ) (sections : LaidSections) (found : List (List Relocation))
    → completed (map (λ (group : Group). group_bytes group.comdat []) groups) groups index sections found ≡ group_words groups index sections found
lists_begin [] index sections found = refl
lists_begin (group ∷ groups) index sections found =
    let own = word (cond group.comdat 1 0) in
    ap (λ list. (list ++ flat_map word (members_from group.signature index sections found)) ∷ completed (map (λ (g : Group). group_bytes g.comdat []) groups) groups index sections found) (append-nil own)
    ∙ ap (λ lists. group_bytes group.comdat (members_from group.signature index sections found) ∷ lists) (lists_begin groups index sections found)

-- all sections were looked at
pub lists_end : (lists : List (List ℕ)) (groups : List Group) (index : ℕ) → length lists ≡ length groups → completed lists groups index [] [] ≡ lists
lists_end [] groups index long = refl
lists_end (list ∷ lists) [] index long = absurd cc
lists_end (list ∷ lists) (group ∷ groups) index long =
    let fewer : length lists ≡ length groups = cc in
    ap (λ own. own ∷ completed lists groups index [] []) (append-nil list) ∙ ap (λ more. list ∷ more) (lists_end lists groups index fewer)

-- one group lists the section, or doesn't
listed_or_not : (list : List ℕ) (signature : List ℕ) (index : ℕ) (section : SectionOf LaidItem) (more : LaidSections) (own : List Relocation) (found : List (List Relocation)) (b : Bool)
    → is_in signature section.group ≡ b
    → list ++ flat_map word (members_from signature index (section ∷ more) (own ∷ found))
    ≡ (list ++ cond b (flat_map word (own_headers index own)) []) ++ flat_map word (members_from signature (index + header_count own) more found)
listed_or_not list signature index section more own found true is =
    let rest = members_from signature (index + header_count own) more found in
    ap (λ b. list ++ flat_map word (cond b (own_headers index own) [] ++ rest)) is
    ∙ ap (λ ws. list ++ ws) (flat_map-append word (own_headers index own) rest) ∙ sym (append_assoc list (flat_map word (own_headers index own)) (flat_map word rest))
listed_or_not list signature index section more own found false is =
    let rest = members_from signature (index + header_count own) more found in
    ap (λ b. list ++ flat_map word (cond b (own_headers index own) [] ++ rest)) is ∙ ap (λ front. front ++ flat_map word rest) (sym (append-nil list))

not_listed : (list : List ℕ) (signature : List ℕ) (index : ℕ) (section : SectionOf LaidItem) (more : LaidSections) (own : List Relocation) (found : List (List Relocation))
    → is_in signature section.group ≡ false
    → list ++ flat_map word (members_from signature (index + header_count own) more found) ≡ list ++ flat_map word (members_from signature index (section ∷ more) (own ∷ found))
not_listed list signature index section more own found is =
    ap (λ front. front ++ flat_map word (members_from signature (index + header_count own) more found)) (sym (append-nil list))
    ∙ sym (listed_or_not list signature index section more own found false is)

-- a section in no group
pub bare_put : (lists : List (List ℕ)) (groups : List Group) (index : ℕ) (section : SectionOf LaidItem) (more : LaidSections) (own : List Relocation) (found : List (List Relocation))
    → section.group ≡ None → completed lists groups (index + header_count own) more found ≡ completed lists groups index (section ∷ more) (own ∷ found)
bare_put [] groups index section more own found bare = refl
bare_put (list ∷ lists) [] index section more own found bare = refl
bare_put (list ∷ lists) (g ∷ groups) index section more own found bare =
    let first = not_listed list g.signature index section more own found (ap (is_in g.signature) bare) in
    ap (λ one. one ∷ completed lists groups (index + header_count own) more found) first
    ∙ ap (λ later. (list ++ flat_map word (members_from g.signature index (section ∷ more) (own ∷ found))) ∷ later) (bare_put lists groups index section more own found bare)

-- a section in a group that is none of these
others_put : (lists : List (List ℕ)) (groups : List Group) (index : ℕ) (section : SectionOf LaidItem) (more : LaidSections) (own : List Relocation) (found : List (List Relocation)) (group : Group)
    → section.group ≡ Some group → list_any (has_signature group.signature) groups ≡ false
    → completed lists groups (index + header_count own) more found ≡ completed lists groups index (section ∷ more) (own ∷ found)
others_put [] groups index section more own found group is none = refl
others_put (list ∷ lists) [] index section more own found group is none = refl
others_put (list ∷ lists) (g ∷ groups) index section more own found group is none =
    neither (bytes_eq group.signature g.signature) (list_any (has_signature group.signature) groups) none (λ other later.
    ap (λ one. one ∷ completed lists groups (index + header_count own) more found)
    (not_listed list g.signature index section more own found (ap (is_in g.signature) is ∙ flipped group.signature g.signature false other))
    ∙ ap (λ rest. (list ++ flat_map word (members_from g.signature index (section ∷ more) (own ∷ found))) ∷ rest) (others_put lists groups index section more own found group is later))

-- a place among these and one more before them
next_place : (i : ℕ) (test : Group → Bool) (groups : List Group) → position_from test (i + 1) groups ≡ option_map suc (position_from test i groups)
next_place i test [] = refl
next_place i test (g ∷ groups) = by_test (test g) (position_from test (i + 1 + 1) groups) (position_from test (i + 1) groups) (next_place (i + 1) test groups)
  where
    by_test : (b : Bool) (later before : Option ℕ) → later ≡ option_map suc before → cond b (Some (i + 1)) later ≡ option_map suc (cond b (Some i) before)
    by_test true later before same = ap Some (add-one i)
    by_test false later before same = same

put_later : (list : List ℕ) (lists : List (List ℕ)) (place : Option ℕ) (bytes : List ℕ) → put_found (list ∷ lists) (option_map suc place) bytes ≡ list ∷ put_found lists place bytes
put_later list lists None bytes = refl
put_later list lists (Some place) bytes = refl

put_nowhere : (place : Option ℕ) (bytes : List ℕ) → put_found [] place bytes ≡ []
put_nowhere None bytes = refl
put_nowhere (Some place) bytes = refl

-- a section in the group of this signature
found_put : (lists : List (List ℕ)) (groups : List Group) (index : ℕ) (section : SectionOf LaidItem) (more : LaidSections) (own : List Relocation) (found : List (List Relocation)) (group : Group)
    → section.group ≡ Some group → Differ groups
    → completed (put_found lists (position_from (has_signature group.signature) 0 groups) (flat_map word (own_headers index own))) groups (index + header_count own) more found
    ≡ completed lists groups index (section ∷ more) (own ∷ found)
found_put [] groups index section more own found group is differ =
    ap (λ lists. completed lists groups (index + header_count own) more found) (put_nowhere (position_from (has_signature group.signature) 0 groups) (flat_map word (own_headers index own)))
found_put (list ∷ lists) [] index section more own found group is differ = refl
found_put (list ∷ lists) (g ∷ groups) index section more own found group is differ = by_test (bytes_eq group.signature g.signature) refl (found_put lists groups index section more own found group is differ.1)
  where
    test : Group → Bool
    test = has_signature group.signature

    bytes : List ℕ
    bytes = flat_map word (own_headers index own)

    rest : List ℕ
    rest = flat_map word (members_from g.signature (index + header_count own) more found)

    whole : List ℕ
    whole = list ++ flat_map word (members_from g.signature index (section ∷ more) (own ∷ found))

    later : List (List ℕ)
    later = completed lists groups index (section ∷ more) (own ∷ found)

    by_test : (b : Bool) → bytes_eq group.signature g.signature ≡ b
        → completed (put_found lists (position_from test 0 groups) bytes) groups (index + header_count own) more found ≡ later
        → completed (put_found (list ∷ lists) (cond b (Some 0) (position_from test (0 + 1) groups)) bytes) (g ∷ groups) (index + header_count own) more found
        ≡ whole ∷ later
    by_test true same before =
        let none : list_any (has_signature group.signature) groups ≡ false =
        subst (λ (s : List ℕ). list_any (has_signature s) groups ≡ false) (sym ((bytes_eq-Decides group.signature g.signature).0 same)) differ.0 in
        let first : (list ++ bytes) ++ rest ≡ whole =
        sym (listed_or_not list g.signature index section more own found true (ap (is_in g.signature) is ∙ flipped group.signature g.signature true same)) in
        ap (λ one. one ∷ completed lists groups (index + header_count own) more found) first ∙ ap (λ all. whole ∷ all) (others_put lists groups index section more own found group is none)
    by_test false other before =
        let first : list ++ rest ≡ whole =
        not_listed list g.signature index section more own found (ap (is_in g.signature) is ∙ flipped group.signature g.signature false other) in
        ap (λ place. completed (put_found (list ∷ lists) place bytes) (g ∷ groups) (index + header_count own) more found) (next_place 0 test groups)
        ∙ ap (λ all. completed all (g ∷ groups) (index + header_count own) more found) (put_later list lists (position_from test 0 groups) bytes)
        ∙ ap (λ one. one ∷ completed (put_found lists (position_from test 0 groups) bytes) groups (index + header_count own) more found) first
        ∙ ap (λ all. whole ∷ all) before

-- one section more adds what the groups list of it
pub member_put : (lists : List (List ℕ)) (all : LaidSections) (index : ℕ) (section : SectionOf LaidItem) (more : LaidSections) (own : List Relocation) (found : List (List Relocation))
    → completed (with_member lists (groups_of all) section.group (flat_map word (own_headers index own))) (groups_of all) (index + header_count own) more found
    ≡ completed lists (groups_of all) index (section ∷ more) (own ∷ found)
member_put lists all index section more own found = by_group section.group refl
  where
    groups : List Group
    groups = groups_of all

    bytes : List ℕ
    bytes = flat_map word (own_headers index own)

    by_group : (one : Option Group) → section.group ≡ one
        → completed (with_member lists groups one bytes) groups (index + header_count own) more found ≡ completed lists groups index (section ∷ more) (own ∷ found)
    by_group None bare = bare_put lists groups index section more own found bare
    by_group (Some group) is =
        ap (λ place. completed (put_found lists place bytes) groups (index + header_count own) more found) (position_from-zero (has_signature group.signature) groups)
        ∙ found_put lists groups index section more own found group is (groups_differ all)

-- there are as many lists as before
put_at_long : (lists : List (List ℕ)) (place : ℕ) (bytes : List ℕ) → length (put_at lists place bytes) ≡ length lists
put_at_long [] place bytes = refl
put_at_long (list ∷ lists) zero bytes = refl
put_at_long (list ∷ lists) (suc place) bytes = ap suc (put_at_long lists place bytes)

pub member_long : (lists : List (List ℕ)) (groups : List Group) (one : Option Group) (bytes : List ℕ) → length (with_member lists groups one bytes) ≡ length lists
member_long lists groups None bytes = refl
member_long lists groups (Some group) bytes = by_place (position (has_signature group.signature) groups)
  where
    by_place : (place : Option ℕ) → length (put_found lists place bytes) ≡ length lists
    by_place None = refl
    by_place (Some place) = put_at_long lists place bytes

-- a place that is found lies among the groups
from_within : (test : Group → Bool) (i place : ℕ) (groups : List Group) → position_from test i groups ≡ Some place → place < i + length groups
from_within test i place [] is = absurd cc
from_within test i place (g ∷ groups) is = by_test (test g) is (from_within test (i + 1) place groups)
  where
    by_test : (b : Bool) → cond b (Some i) (position_from test (i + 1) groups) ≡ Some place → (position_from test (i + 1) groups ≡ Some place → place < i + 1 + length groups)
        → place < i + suc (length groups)
    by_test true here before = let same : i ≡ place = cc in omega (arith, same)
    by_test false there before = let later = before there in omega (arith, later)

pub place_within : (test : Group → Bool) (place : ℕ) (groups : List Group) → position test groups ≡ Some place → place < length groups
place_within test place groups is = let within = from_within test 0 place groups (sym (position_from-zero test groups) ∙ is) in omega (arith, within)

-- bytes put behind those of one list
pub put_there : (lists : List (Vec ℕ)) (place : ℕ) (list d : Vec ℕ) (bytes : List ℕ) → place < length lists → list.items ≡ (get_or lists place d).items ++ bytes
    → map (λ (one : Vec ℕ). one.items) (set lists place list) ≡ put_at (map (λ (one : Vec ℕ). one.items) lists) place bytes
put_there [] place list d bytes inside put = absurd (omega arith)
put_there (one ∷ lists) zero list d bytes inside put = ap (λ own. own ∷ map (λ (v : Vec ℕ). v.items) lists) put
put_there (one ∷ lists) (suc place) list d bytes inside put = ap (λ more. one.items ∷ more) (put_there lists place list d bytes (omega arith) put)

-- the bytes that one section adds are put behind those of its group
pub member_there : (lists : List (Vec ℕ)) (groups : List Group) (one : Option Group) (group : Group) (signature : List ℕ) (place : ℕ) (list d : Vec ℕ) (bytes : List ℕ)
    → one ≡ Some group → signature ≡ group.signature → position (has_signature signature) groups ≡ Some place → place < length lists → list.items ≡ (get_or lists place d).items ++ bytes
    → map (λ (v : Vec ℕ). v.items) (set lists place list) ≡ with_member (map (λ (v : Vec ℕ). v.items) lists) groups one bytes
member_there lists groups one group signature place list d bytes is same found inside put =
    put_there lists place list d bytes inside put
    ∙ sym (ap (λ o. with_member (map (λ (v : Vec ℕ). v.items) lists) groups o bytes) is
    ∙ ap (λ at. put_found (map (λ (v : Vec ℕ). v.items) lists) at bytes) (ap (λ s. position (has_signature s) groups) (sym same) ∙ found))

-- a section has two headers at most
pub count_few : (own : List Relocation) → header_count own ≤ 2
count_few [] = omega arith
count_few (r ∷ own) = omega arith

-- one section more of a list
pub lists_step : {H : Type 0} (source : H → SectionOf LaidItem) (own : H → List Relocation) (lists news : List (List ℕ)) (all : LaidSections) (index count i : ℕ) (held : List H) (one : H)
    (whole : List (List ℕ)) → news ≡ with_member lists (groups_of all) (source one).group (flat_map word (own_headers index (own one))) → count ≡ header_count (own one)
    → i < length held → one ≡ get_or held i one → completed lists (groups_of all) index (map source (drop i held)) (map own (drop i held)) ≡ whole
    → completed news (groups_of all) (index + count) (map source (drop (i + 1) held)) (map own (drop (i + 1) held)) ≡ whole
lists_step source own lists news all index count i held one whole put counted inside is before =
    let groups = groups_of all in
    let sections = map source (drop (i + 1) held) in
    let found = map own (drop (i + 1) held) in
    ap (λ ls. completed ls groups (index + count) sections found) put
    ∙ ap (λ n. completed (with_member lists groups (source one).group (flat_map word (own_headers index (own one)))) groups (index + n) sections found) counted
    ∙ member_put lists all index (source one) sections (own one) found
    ∙ sym (next_is (λ these. completed lists groups index (map source these) (map own these)) held i one inside is) ∙ before

-- THE SECTIONS OF GROUPS

-- the sections of groups that list these, of which the first has this index
abbrev pub listing_entries : NumbersOf → ℕ → ℕ → List (List ℕ) → List SectionEntry
listing_entries numbers symbols index [] = []
listing_entries numbers symbols index (list ∷ lists) = group_section symbols (group_symbol numbers index) list ∷ listing_entries numbers symbols (index + 1) lists

pub entries_listed : (numbers : NumbersOf) (symbols : ℕ) (sections : LaidSections) (found : List (List Relocation)) (index : ℕ) (groups : List Group)
    → listing_entries numbers symbols index (map (λ (group : Group). group_bytes group.comdat (members_of group.signature sections found)) groups)
    ≡ group_entries numbers symbols sections found index groups
entries_listed numbers symbols sections found index [] = refl
entries_listed numbers symbols sections found index (group ∷ groups) =
    ap (λ more. group_section symbols (group_symbol numbers index) (group_bytes group.comdat (members_of group.signature sections found)) ∷ more)
    (entries_listed numbers symbols sections found (index + 1) groups)

-- what is left of groups begins with the one of the index
pub group_left : (groups : List Group) (index : ℕ) (group : Group) → slice_get groups index ≡ Some group → drop index groups ≡ group ∷ drop (suc index) groups
group_left [] index group is = absurd cc
group_left (g ∷ groups) zero group is = let same : g ≡ group = cc in ap (λ one. one ∷ groups) same
group_left (g ∷ groups) (suc index) group is = group_left groups index group is
