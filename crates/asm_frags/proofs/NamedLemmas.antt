-- Sections are found by their names and groups.
use Rattle.std.proofs.Common.{◌≡◌, ℕ, zero, suc, ◌+◌, ◌<◌, ◌≤◌, ◌&&◌, ◌||◌, Bool, true, false, cond, List, [], ◌∷◌, ◌++◌, Option, None, Some, option_map, find, is_some, is_none, IfSome, length, map, refl, sym, ap, ◌∙◌, subst, arith, get_or, slice_get, All, length-append, set}
use Rattle.std.specs.List.{list_any, position, position_from}
use Rattle.std.specs.Map.{lookup, keys_of}
use Rattle.indexmap.specs.IndexMap.{insert_entry}
use Rattle.std.specs.Str.{bytes_eq}
use Rattle.std.specs.Global.{Vec}
use Rattle.std.proofs.lemmas.Iterator.Adapters.{position_from-zero}
use Rattle.std.proofs.lemmas.List.{length-map, map-append, append-nil}
use Rattle.std.proofs.lemmas.Simd.{map-map}
use Rattle.std.proofs.lemmas.List.Sums.{fold-append}
use Rattle.std.proofs.Math.Seq.{map-set_same}
use Rattle.std.proofs.lemmas.List.Elements.{All-append}
use Rattle.asm_frags.specs.declared.groups.Group.{Group}
use Rattle.asm_frags.specs.declared.section_keys.MemberKey.{MemberKey}
use Rattle.asm_frags.specs.Groups.{has_signature, new_groups, with_group, groups_among, groups_of, counted, is_in, is_member_named, member_number, is_otherwise, was_otherwise, IsFlagged}
use Rattle.asm_frags.specs.SectionOf.{SectionOf, is_section_named, section_number}
use Rattle.asm_frags.specs.Sound.{Heading, heading_of, bare_number, bare_numbers, member_number_of, member_numbers, plain_names, plain_groups, IsHeading, AreNamed}

-- LOOK-UPS

lookup-map : {K L X : Type 0} (f : K → L) (test : L → Bool) (entries : List (K × X)) → lookup test (map (λ e. (f e.0, e.1)) entries) ≡ lookup (λ key. test (f key)) entries
lookup-map f test [] = refl
lookup-map f test (e ∷ entries) = rw (lookup-map f test entries) refl

position_from-map : {X Y : Type 0} (p : Y → Bool) (f : X → Y) (i : ℕ) (xs : List X) → position_from p i (map f xs) ≡ position_from (λ x. p (f x)) i xs
position_from-map p f i [] = refl
position_from-map p f i (x ∷ xs) = rw (position_from-map p f (i + 1) xs) refl

moved_within : (i long : ℕ) (found : Option ℕ) → IfSome found (λ n. n < i + 1 + long) → IfSome found (λ n. n < i + suc long)
moved_within i long None within = tt
moved_within i long (Some n) within = omega (arith, within)

either_within : (b : Bool) (i long : ℕ) (later : Option ℕ) → IfSome later (λ n. n < i + 1 + long) → IfSome (cond b (Some i) later) (λ n. n < i + suc long)
either_within true i long later within = omega arith
either_within false i long later within = moved_within i long later within

-- a place that is found lies within
position_from-within : {X : Type 0} (p : X → Bool) (i : ℕ) (xs : List X) → IfSome (position_from p i xs) (λ n. n < i + length xs)
position_from-within p i [] = tt
position_from-within p i (x ∷ xs) = either_within (p x) i (length xs) (position_from p (i + 1) xs) (position_from-within p (i + 1) xs)

either_some : (b : Bool) (i : ℕ) (later : Option ℕ) (any : Bool) → is_some later ≡ any → is_some (cond b (Some i) later) ≡ (b || any)
either_some true i later any same = refl
either_some false i later any same = same

some_from : {X : Type 0} (p : X → Bool) (i : ℕ) (xs : List X) → is_some (position_from p i xs) ≡ list_any p xs
some_from p i [] = refl
some_from p i (x ∷ xs) = either_some (p x) i (position_from p (i + 1) xs) (list_any p xs) (some_from p (i + 1) xs)

-- those that are in no group
abbrev is_bare : List ℕ → Heading → Bool
is_bare name one = is_none one.group && bytes_eq name one.name

bare_step : (name own : List ℕ) (i : ℕ) (group : Option Group) (rest : List (List ℕ × ℕ)) (later : Option ℕ) → lookup (bytes_eq name) rest ≡ later
    → lookup (bytes_eq name) (bare_number i own group rest) ≡ cond (is_none group && bytes_eq name own) (Some i) later
bare_step name own i None rest later same = ap (cond (bytes_eq name own) (Some i)) same
bare_step name own i (Some group) rest later same = same

bare_found : (name : List ℕ) (i : ℕ) (headings : List Heading) → lookup (bytes_eq name) (bare_numbers i headings) ≡ position_from (is_bare name) i headings
bare_found name i [] = refl
bare_found name i (one ∷ headings) = bare_step name one.name i one.group (bare_numbers (i + 1) headings) (position_from (is_bare name) (i + 1) headings) (bare_found name (i + 1) headings)

-- those that are in a group
abbrev is_named_in : List ℕ → List ℕ → Heading → Bool
is_named_in signature name one = is_in signature one.group && bytes_eq name one.name

-- the name of a section in a group is this one
abbrev is_this : List ℕ → List ℕ → MemberKey → Bool
is_this signature name member = bytes_eq signature member.signature && bytes_eq name member.name

member_step : (signature name own : List ℕ) (i : ℕ) (group : Option Group) (rest : List (MemberKey × ℕ)) (later : Option ℕ) → lookup (is_this signature name) rest ≡ later
    → lookup (is_this signature name) (member_number_of i own group rest) ≡ cond (is_in signature group && bytes_eq name own) (Some i) later
member_step signature name own i None rest later same = same
member_step signature name own i (Some group) rest later same = ap (cond (bytes_eq signature group.signature && bytes_eq name own) (Some i)) same

member_found : (signature name : List ℕ) (i : ℕ) (headings : List Heading) → lookup (is_this signature name) (member_numbers i headings) ≡ position_from (is_named_in signature name) i headings
member_found signature name i [] = refl
member_found signature name i (one ∷ headings) =
    member_step signature name one.name i one.group (member_numbers (i + 1) headings) (position_from (is_named_in signature name) (i + 1) headings) (member_found signature name (i + 1) headings)

headings_groups : {Item : Type 0} (sections : List (SectionOf Item)) → groups_among (map (λ (one : Heading). one.group) (map heading_of sections)) ≡ groups_of sections
unfolding groups_of
headings_groups sections = ap groups_among (map-map (λ (one : Heading). one.group) heading_of sections)

pub plain_long : (groups : List (Vec ℕ × Bool)) → length (plain_groups groups) ≡ length groups
unfolding plain_groups
plain_long groups = length-map groups _

module _ {Item : Type 0} (names : List (Vec ℕ × ℕ)) (members : List (MemberKey × ℕ)) (groups : List (Vec ℕ × Bool)) (sections : List (SectionOf Item))
    (sound : AreNamed (plain_names names) members (plain_groups groups) (map heading_of sections)) where
  pub number_same : (name : List ℕ) → lookup (λ (key : Vec ℕ). bytes_eq name key.items) names ≡ section_number name sections
  unfolding plain_names
  number_same name =
      sym (lookup-map (λ (key : Vec ℕ). key.items) (bytes_eq name) names) ∙ ap (lookup (bytes_eq name)) sound.named ∙ bare_found name 0 (map heading_of sections)
      ∙ position_from-map (is_bare name) heading_of 0 sections ∙ sym (position_from-zero (is_section_named name) sections)

  pub member_same : (signature name : List ℕ)
      → lookup (λ (key : MemberKey). bytes_eq signature key.signature && bytes_eq name key.name) members ≡ member_number signature name sections
  member_same signature name =
      ap (lookup (is_this signature name)) sound.members ∙ member_found signature name 0 (map heading_of sections)
      ∙ position_from-map (is_named_in signature name) heading_of 0 sections ∙ sym (position_from-zero (is_member_named signature name) sections)

  pub groups_same : plain_groups groups ≡ groups_of sections
  groups_same = sound.seen ∙ headings_groups sections

  pub group_count : length groups ≡ length (groups_of sections)
  group_count = sym (plain_long groups) ∙ ap length groups_same

  pub few_same : length sections + length groups ≤ 30005
  few_same =
      let few = sound.few in
      let long : length (map heading_of sections) ≡ length sections = length-map sections heading_of in
      let count = plain_long groups in
      omega (arith, few, long, count)

from_zero : (long : ℕ) (found : Option ℕ) → IfSome found (λ n. n < 0 + long) → IfSome found (λ n. n < long)
from_zero long None within = tt
from_zero long (Some n) within = omega (arith, within)

number_within : {Item : Type 0} (test : SectionOf Item → Bool) (sections : List (SectionOf Item)) → IfSome (position test sections) (λ n. n < length sections)
number_within test sections =
    subst (λ (found : Option ℕ). IfSome found (λ n. n < length sections)) (sym (position_from-zero test sections)) (from_zero (length sections) (position_from test 0 sections) (position_from-within test 0 sections))

-- what is found lies among the sections
pub found_within : {Item : Type 0} (name : List ℕ) (sections : List (SectionOf Item)) → IfSome (section_number name sections) (λ n. n < length sections)
found_within name sections = number_within (is_section_named name) sections

pub member_within : {Item : Type 0} (signature name : List ℕ) (sections : List (SectionOf Item)) → IfSome (member_number signature name sections) (λ n. n < length sections)
member_within signature name sections = number_within (is_member_named signature name) sections

-- and is found exactly where it is there
pub found_present : {Item : Type 0} (name : List ℕ) (sections : List (SectionOf Item)) → is_some (section_number name sections) ≡ list_any (is_section_named name) sections
found_present name sections = ap is_some (position_from-zero (is_section_named name) sections) ∙ some_from (is_section_named name) 0 sections

pub member_present : {Item : Type 0} (signature name : List ℕ) (sections : List (SectionOf Item)) → is_some (member_number signature name sections) ≡ list_any (is_member_named signature name) sections
member_present signature name sections = ap is_some (position_from-zero (is_member_named signature name) sections) ∙ some_from (is_member_named signature name) 0 sections

-- each section has a short name
heading_at : {Item : Type 0} (sections : List (SectionOf Item)) (number : ℕ) (d : SectionOf Item) → All IsHeading (map heading_of sections) → number < length sections
    → IsHeading (heading_of (get_or sections number d))
heading_at [] number d all within = absurd (omega arith)
heading_at (section ∷ sections) zero d all within = all zero (heading_of section) (omega arith)
heading_at (section ∷ sections) (suc number) d all within = heading_at sections number d (λ k e inside. all (suc k) e (omega arith)) (omega arith)

pub short_at : {Item : Type 0} (names : List (List ℕ × ℕ)) (members : List (MemberKey × ℕ)) (groups : List Group) (sections : List (SectionOf Item)) (number : ℕ) (d : SectionOf Item)
    → AreNamed names members groups (map heading_of sections) → number < length sections → length (get_or sections number d).name ≤ 65536
short_at names members groups sections number d sound within = (heading_at sections number d sound.all within).short

pub flagged_at : {Item : Type 0} (names : List (List ℕ × ℕ)) (members : List (MemberKey × ℕ)) (groups : List Group) (sections : List (SectionOf Item)) (number : ℕ) (d : SectionOf Item)
    → AreNamed names members groups (map heading_of sections) → number < length sections → IsFlagged (get_or sections number d)
flagged_at names members groups sections number d sound within = (heading_at sections number d sound.all within).flagged

pub all_flagged : {Item : Type 0} (names : List (List ℕ × ℕ)) (members : List (MemberKey × ℕ)) (groups : List Group) (sections : List (SectionOf Item))
    → AreNamed names members groups (map heading_of sections) → All IsFlagged sections
all_flagged names members groups sections sound number d within = flagged_at names members groups sections number d sound within

-- GROUPS

from_keys : (signature : List ℕ) (i : ℕ) (groups : List (Vec ℕ × Bool))
    → position_from (λ (key : Vec ℕ). bytes_eq signature key.items) i (keys_of groups) ≡ position_from (has_signature signature) i (plain_groups groups)
unfolding plain_groups
from_keys signature i [] = refl
from_keys signature i (e ∷ groups) = ap (cond (bytes_eq signature e.0.items) (Some i)) (from_keys signature (i + 1) groups)

look_up_group : (signature : List ℕ) (groups : List (Vec ℕ × Bool))
    → lookup (λ (key : Vec ℕ). bytes_eq signature key.items) groups ≡ option_map (λ (group : Group). group.comdat) (find (has_signature signature) (plain_groups groups))
unfolding plain_groups
look_up_group signature [] = refl
look_up_group signature (e ∷ groups) = by_test (bytes_eq signature e.0.items) e.1 _ _ _ (look_up_group signature groups)
  where
    by_test : (b here : Bool) (one : Group) (later : Option Bool) (rest : Option Group) → later ≡ option_map (λ (group : Group). group.comdat) rest
        → cond b (Some one.comdat) later ≡ option_map (λ (group : Group). group.comdat) (cond b (Some one) rest)
    by_test true here one later rest same = refl
    by_test false here one later rest same = same

module _ {Item : Type 0} (names : List (Vec ℕ × ℕ)) (members : List (MemberKey × ℕ)) (groups : List (Vec ℕ × Bool)) (sections : List (SectionOf Item))
    (sound : AreNamed (plain_names names) members (plain_groups groups) (map heading_of sections)) where
  pub group_place : (signature : List ℕ) → position (λ (key : Vec ℕ). bytes_eq signature key.items) (keys_of groups) ≡ position (has_signature signature) (groups_of sections)
  group_place signature =
      position_from-zero (λ (key : Vec ℕ). bytes_eq signature key.items) (keys_of groups) ∙ from_keys signature 0 groups
      ∙ sym (position_from-zero (has_signature signature) (plain_groups groups))
      ∙ ap (position (has_signature signature)) (groups_same names members groups sections sound)

  pub group_there : (signature : List ℕ) → list_any (λ (key : Vec ℕ). bytes_eq signature key.items) (keys_of groups) ≡ list_any (has_signature signature) (groups_of sections)
  group_there signature =
      sym (some_from (λ (key : Vec ℕ). bytes_eq signature key.items) 0 (keys_of groups)) ∙ ap is_some (from_keys signature 0 groups)
      ∙ some_from (has_signature signature) 0 (plain_groups groups) ∙ ap (list_any (has_signature signature)) (groups_same names members groups sections sound)

  pub group_known : (signature : List ℕ)
      → lookup (λ (key : Vec ℕ). bytes_eq signature key.items) groups ≡ option_map (λ (group : Group). group.comdat) (find (has_signature signature) (groups_of sections))
  group_known signature =
      look_up_group signature groups ∙ ap (λ gs. option_map (λ (group : Group). group.comdat) (find (has_signature signature) gs)) (groups_same names members groups sections sound)

-- the first group of a signature is as its entry says
pub otherwise_there : (comdat seen : Bool) (found : Option Group) → Some seen ≡ option_map (λ (group : Group). group.comdat) found → is_otherwise comdat seen ≡ was_otherwise comdat found
otherwise_there comdat seen None is = absurd cc
otherwise_there comdat seen (Some group) is = let same : seen ≡ group.comdat = cc in ap (is_otherwise comdat) same

pub otherwise_absent : (comdat : Bool) (found : Option Group) → None ≡ option_map (λ (group : Group). group.comdat) found → false ≡ was_otherwise comdat found
otherwise_absent comdat None is = refl
otherwise_absent comdat (Some group) is = absurd cc

-- the group of an index is that of the entry there
pub entry_there : (groups : List (Vec ℕ × Bool)) (index : ℕ) (entry : Vec ℕ × Bool) → slice_get groups index ≡ Some entry
    → slice_get (plain_groups groups) index ≡ Some (record { signature = entry.0.items; comdat = entry.1 })
unfolding plain_groups
entry_there [] index entry is = absurd cc
entry_there (e ∷ groups) zero entry is =
    let same : e ≡ entry = cc in ap (λ (one : Vec ℕ × Bool). Some (record { signature = one.0.items; comdat = one.1 })) same
entry_there (e ∷ groups) (suc index) entry is = entry_there groups index entry is

alike : (a b : Bool) → is_otherwise a b ≡ false → b ≡ a
alike true true said = refl
alike true false said = absurd cc
alike false false said = refl
alike false true said = absurd cc

behind : (b : Bool) (first one : Group) (here : List Group) → first ∷ cond b here (here ++ one ∷ []) ≡ cond b (first ∷ here) ((first ∷ here) ++ one ∷ [])
behind true first one here = refl
behind false first one here = refl

-- the group of an entry
abbrev group_in : Vec ℕ → Bool → Group
group_in key comdat = record { signature = key.items; comdat = comdat }

put_step : (key : Vec ℕ) (comdat : Bool) (e : Vec ℕ × Bool) (groups later : List (Vec ℕ × Bool)) (b : Bool)
    → was_otherwise comdat (cond b (Some (group_in e.0 e.1)) (find (has_signature key.items) (plain_groups groups))) ≡ false
    → (was_otherwise comdat (find (has_signature key.items) (plain_groups groups)) ≡ false → plain_groups later ≡ with_group (plain_groups groups) (Some (group_in key comdat)))
    → plain_groups (cond b ((e.0, comdat) ∷ groups) (e ∷ later))
    ≡ cond (b || list_any (has_signature key.items) (plain_groups groups)) (group_in e.0 e.1 ∷ plain_groups groups) ((group_in e.0 e.1 ∷ plain_groups groups) ++ group_in key comdat ∷ [])
unfolding plain_groups
put_step key comdat e groups later true said rest = ap (λ c. group_in e.0 c ∷ plain_groups groups) (sym (alike comdat e.1 said))
put_step key comdat e groups later false said rest =
    ap (λ gs. group_in e.0 e.1 ∷ gs) (rest said) ∙ behind (list_any (has_signature key.items) (plain_groups groups)) (group_in e.0 e.1) (group_in key comdat) (plain_groups groups)

-- a group that is put in is there, or the last
pub group_put : (eq : Vec ℕ → Vec ℕ → Bool) → ((a b : Vec ℕ) → eq a b ≡ bytes_eq a.items b.items) → (key : Vec ℕ) (comdat : Bool) (groups : List (Vec ℕ × Bool))
    → was_otherwise comdat (find (has_signature key.items) (plain_groups groups)) ≡ false
    → plain_groups (insert_entry eq groups key comdat) ≡ with_group (plain_groups groups) (Some (group_in key comdat))
unfolding plain_groups
group_put eq same key comdat [] said = refl
group_put eq same key comdat (e ∷ groups) said =
    rw (same key e.0) (put_step key comdat e groups (insert_entry eq groups key comdat) (bytes_eq key.items e.0.items) said (group_put eq same key comdat groups))

-- A SECTION MORE

bare_front : (i : ℕ) (own : List ℕ) (group : Option Group) (a b : List (List ℕ × ℕ)) → bare_number i own group (a ++ b) ≡ bare_number i own group a ++ b
bare_front i own None a b = refl
bare_front i own (Some group) a b = refl

bare_more : (i n : ℕ) (headings : List Heading) (one : Heading) → n ≡ i + length headings → bare_numbers i (headings ++ one ∷ []) ≡ bare_numbers i headings ++ bare_number n one.name one.group []
bare_more i n [] one is = let same : i ≡ n = omega (arith, is) in ap (λ m. bare_number m one.name one.group []) same
bare_more i n (h ∷ headings) one is =
    ap (bare_number i h.name h.group) (bare_more (i + 1) n headings one (omega (arith, is))) ∙ bare_front i h.name h.group (bare_numbers (i + 1) headings) (bare_number n one.name one.group [])

member_front : (i : ℕ) (own : List ℕ) (group : Option Group) (a b : List (MemberKey × ℕ)) → member_number_of i own group (a ++ b) ≡ member_number_of i own group a ++ b
member_front i own None a b = refl
member_front i own (Some group) a b = refl

member_more : (i n : ℕ) (headings : List Heading) (one : Heading) → n ≡ i + length headings
    → member_numbers i (headings ++ one ∷ []) ≡ member_numbers i headings ++ member_number_of n one.name one.group []
member_more i n [] one is = let same : i ≡ n = omega (arith, is) in ap (λ m. member_number_of m one.name one.group []) same
member_more i n (h ∷ headings) one is =
    ap (member_number_of i h.name h.group) (member_more (i + 1) n headings one (omega (arith, is)))
    ∙ member_front i h.name h.group (member_numbers (i + 1) headings) (member_number_of n one.name one.group [])

group_long : (groups : List Group) (group : Option Group) → length (with_group groups group) ≡ length groups + new_groups groups group
group_long groups None = omega arith
group_long groups (Some group) = by_test (list_any (has_signature group.signature) groups)
  where
    by_test : (b : Bool) → length (cond b groups (groups ++ group ∷ [])) ≡ length groups + cond b 0 1
    by_test true = omega arith
    by_test false = length-append groups (group ∷ [])

one_heading : (one : Heading) → IsHeading one → All IsHeading (one ∷ [])
one_heading one is zero d within = is
one_heading one is (suc k) d within = absurd (omega arith)

-- a section more, of this heading
pub named_more : (names more : List (List ℕ × ℕ)) (members others : List (MemberKey × ℕ)) (groups all : List Group) (headings : List Heading) (one : Heading)
    → AreNamed names members groups headings → more ≡ names ++ bare_number (length headings) one.name one.group []
    → others ≡ members ++ member_number_of (length headings) one.name one.group [] → all ≡ with_group groups one.group
    → length headings + length groups + new_groups groups one.group < 30005 → IsHeading one → AreNamed more others all (headings ++ one ∷ [])
named_more names more members others groups all headings one sound named put seen few is = record {
  named = named ∙ ap (λ (ns : List (List ℕ × ℕ)). ns ++ bare_number (length headings) one.name one.group []) sound.named ∙ sym (bare_more 0 (length headings) headings one (omega arith));
  members = put ∙ ap (λ (ms : List (MemberKey × ℕ)). ms ++ member_number_of (length headings) one.name one.group []) sound.members ∙ sym (member_more 0 (length headings) headings one (omega arith));
  seen = seen ∙ ap (λ (gs : List Group). with_group gs one.group) sound.seen
      ∙ sym (ap groups_among (map-append (λ (h : Heading). h.group) headings (one ∷ [])) ∙ fold-append with_group [] (map (λ (h : Heading). h.group) headings) (one.group ∷ []));
  few =
      let long = length-append headings (one ∷ []) in
      let count : length all ≡ length groups + new_groups groups one.group = ap length seen ∙ group_long groups one.group in
      omega (arith, long, count, few);
  all = All-append IsHeading headings (one ∷ []) sound.all (one_heading one is);
}

nothing_found : (found : Option ℕ) → is_some found ≡ false → found ≡ None
nothing_found None is = refl
nothing_found (Some n) is = absurd cc

-- a name that none has is not found
pub name_absent : {Item : Type 0} (name : List ℕ) (sections : List (SectionOf Item)) → list_any (is_section_named name) sections ≡ false → section_number name sections ≡ None
name_absent name sections new = nothing_found (section_number name sections) (found_present name sections ∙ new)

pub member_absent : {Item : Type 0} (signature name : List ℕ) (sections : List (SectionOf Item)) → list_any (is_member_named signature name) sections ≡ false → member_number signature name sections ≡ None
member_absent signature name sections new = nothing_found (member_number signature name sections) (member_present signature name sections ∙ new)

heading_more : {Item : Type 0} (sections all : List (SectionOf Item)) (section : SectionOf Item) → all ≡ sections ++ section ∷ []
    → map heading_of all ≡ map heading_of sections ++ heading_of section ∷ []
heading_more sections all section last = ap (map heading_of) last ∙ map-append heading_of sections (section ∷ [])

-- a section more that is in no group
pub added : {Item : Type 0} (names more : List (Vec ℕ × ℕ)) (members : List (MemberKey × ℕ)) (groups : List Group) (key : Vec ℕ) (number : ℕ) (sections all : List (SectionOf Item)) (section : SectionOf Item) (one : Heading)
    → AreNamed (plain_names names) members groups (map heading_of sections) → heading_of section ≡ one → one.group ≡ None → more ≡ names ++ (key, number) ∷ [] → key.items ≡ one.name → number ≡ length sections
    → length sections + length groups < 30005 → IsHeading one → all ≡ sections ++ section ∷ [] → AreNamed (plain_names more) members groups (map heading_of all)
unfolding plain_names
added names more members groups key number sections all section one sound heading bare put name count few is last =
    let long : length (map heading_of sections) ≡ length sections = length-map sections heading_of in
    let place : number ≡ length (map heading_of sections) = omega (arith, count, long) in
    let named : plain_names more ≡ plain_names names ++ bare_number (length (map heading_of sections)) one.name one.group [] =
    ap plain_names put ∙ map-append (λ (e : Vec ℕ × ℕ). (e.0.items, e.1)) names ((key, number) ∷ [])
    ∙ rw (bare, name, place) refl in
    let less : length (map heading_of sections) + length groups + new_groups groups one.group < 30005 = rw bare (omega (arith, long, few)) in
    subst (AreNamed (plain_names more) members groups) (sym (heading_more sections all section last ∙ ap (λ (h : Heading). map heading_of sections ++ h ∷ []) heading))
    (named_more (plain_names names) (plain_names more) members members groups groups (map heading_of sections) one sound named (rw bare (sym (append-nil members))) (rw bare refl) less is)

-- a section more in a group
pub added_member : {Item : Type 0} (names : List (List ℕ × ℕ)) (members more : List (MemberKey × ℕ)) (groups others : List (Vec ℕ × Bool)) (key : MemberKey) (number : ℕ) (sections all : List (SectionOf Item))
    (section : SectionOf Item) (one : Heading) (group : Group)
    → AreNamed names members (plain_groups groups) (map heading_of sections) → heading_of section ≡ one → one.group ≡ Some group
    → more ≡ members ++ (key, number) ∷ [] → key ≡ record { signature = group.signature; name = one.name } → number ≡ length sections
    → plain_groups others ≡ with_group (plain_groups groups) (Some group) → length sections + length groups + new_groups (plain_groups groups) (Some group) < 30005
    → IsHeading one → all ≡ sections ++ section ∷ [] → AreNamed names more (plain_groups others) (map heading_of all)
added_member names members more groups others key number sections all section one group sound heading in_group put named count seen few is last =
    let long : length (map heading_of sections) ≡ length sections = length-map sections heading_of in
    let place : number ≡ length (map heading_of sections) = omega (arith, count, long) in
    let entry : (key, number) ∷ [] ≡ member_number_of (length (map heading_of sections)) one.name one.group [] = rw (in_group, named, place) refl in
    let found : more ≡ members ++ member_number_of (length (map heading_of sections)) one.name one.group [] = put ∙ ap (λ (ms : List (MemberKey × ℕ)). members ++ ms) entry in
    let many : length (plain_groups groups) ≡ length groups = plain_long groups in
    let less : length (map heading_of sections) + length (plain_groups groups) + new_groups (plain_groups groups) one.group < 30005 = rw in_group (omega (arith, long, many, few)) in
    subst (AreNamed names more (plain_groups others)) (sym (heading_more sections all section last ∙ ap (λ (h : Heading). map heading_of sections ++ h ∷ []) heading))
    (named_more names names members more (plain_groups groups) (plain_groups others) (map heading_of sections) one sound (rw in_group (sym (append-nil names))) found
    (rw in_group seen) less is)

-- a section in no group is counted alone
pub counted_bare : {Item : Type 0} (sections all : List (SectionOf Item)) (section : SectionOf Item) → all ≡ sections ++ section ∷ [] → section.group ≡ None → counted all ≡ counted sections + 1
unfolding groups_of
counted_bare sections all section last bare =
    let long = length-append sections (section ∷ []) in
    let groups : groups_of all ≡ groups_of sections =
    ap groups_of last ∙ ap groups_among (map-append (λ (s : SectionOf _). s.group) sections (section ∷ []))
    ∙ fold-append with_group [] (map (λ (s : SectionOf _). s.group) sections) (section.group ∷ [])
    ∙ ap (with_group (groups_among (map (λ (s : SectionOf _). s.group) sections))) bare in
    let same = ap length groups in
    let count = ap length last in
    omega (arith, long, same, count)

-- ANOTHER SECTION IN THE PLACE OF ONE

-- another section of the same name, flags and group in the place of one
pub replaced_there : {Item : Type 0} (names : List (List ℕ × ℕ)) (members : List (MemberKey × ℕ)) (groups : List Group) (sections : List (SectionOf Item)) (number : ℕ) (section d : SectionOf Item)
    → AreNamed names members groups (map heading_of sections) → heading_of section ≡ heading_of (get_or sections number d)
    → AreNamed names members groups (map heading_of (set sections number section))
replaced_there names members groups sections number section d sound same =
    subst (AreNamed names members groups) (sym (map-set_same heading_of sections number section d same)) sound

-- no name and no section
nothing_named : AreNamed [] [] [] []
nothing_named = record { named = refl; members = refl; seen = refl; few = omega arith; all = λ k d within. absurd (omega arith) }

pub none_named : {Item : Type 0} (names : List (Vec ℕ × ℕ)) (members : List (MemberKey × ℕ)) (groups : List (Vec ℕ × Bool)) (sections : List (SectionOf Item))
    → names ≡ [] → members ≡ [] → groups ≡ [] → sections ≡ [] → AreNamed (plain_names names) members (plain_groups groups) (map heading_of sections)
unfolding plain_names plain_groups
none_named names members groups sections bare others none empty = rw (bare, others, none, empty) nothing_named
