-- The invariant of a list of sections.
use Rattle.std.specs.Prelude.{◌≡◌, ℕ, ◌+◌, ◌^◌, ◌≤◌, Bool, List, [], ◌∷◌, All, length, map, is_some, Option, None, Some}
use Rattle.std.specs.Global.{Vec}
use Rattle.asm_frags.specs.declared.flags.SectionFlags.{SectionFlags}
use Rattle.asm_frags.specs.declared.groups.Group.{Group}
use Rattle.asm_frags.specs.declared.section_keys.MemberKey.{MemberKey}
use Rattle.asm_frags.specs.Groups.{groups_among, says_group}
use Rattle.asm_frags.specs.SectionOf.{SectionOf}

-- what a section is found by, and its flags
pub record Heading : Type 0 where
  pub name : List ℕ
  pub flags : SectionFlags
  pub group : Option Group

-- those of sections
abbrev pub heading_of : {Item : Type 0} → SectionOf Item → Heading
heading_of section = record { name = section.name; flags = section.flags; group = section.group }

-- the name of a section that is in no group, with its number
abbrev pub bare_number : ℕ → List ℕ → Option Group → List (List ℕ × ℕ) → List (List ℕ × ℕ)
bare_number number name None others = (name, number) ∷ others
bare_number number name (Some group) others = others

-- the names of those that are in no group, each with its number; the first section has this one
abbrev pub bare_numbers : ℕ → List Heading → List (List ℕ × ℕ)
bare_numbers number [] = []
bare_numbers number (one ∷ headings) = bare_number number one.name one.group (bare_numbers (number + 1) headings)

-- the name of a section that is in a group, with its number
abbrev pub member_number_of : ℕ → List ℕ → Option Group → List (MemberKey × ℕ) → List (MemberKey × ℕ)
member_number_of number name None others = others
member_number_of number name (Some group) others = (record { signature = group.signature; name = name }, number) ∷ others

-- the names of those that are in groups, each with its number; the first section has this one
abbrev pub member_numbers : ℕ → List Heading → List (MemberKey × ℕ)
member_numbers number [] = []
member_numbers number (one ∷ headings) = member_number_of number one.name one.group (member_numbers (number + 1) headings)

-- the numbers of names, with the names as lists of bytes
unfoldable pub plain_names : List (Vec ℕ × ℕ) → List (List ℕ × ℕ)
plain_names entries = map (λ entry. (entry.0.items, entry.1)) entries

-- the groups, with the signatures as lists of bytes
unfoldable pub plain_groups : List (Vec ℕ × Bool) → List Group
plain_groups entries = map (λ entry. record { signature = entry.0.items; comdat = entry.1 }) entries

-- the flags of a section say whether it is in a group, and its name has at most 2 ^ 16 bytes
pub record IsHeading (one : Heading) : Type 0 where
  pub flagged : says_group one.flags ≡ is_some one.group
  pub short : length one.name ≤ 2 ^ 16

-- each section has the number of its name among those in no group, or in its group; there are at most 30,005 sections and groups, those of the two tables among them
pub record AreNamed (names : List (List ℕ × ℕ)) (grouped : List (MemberKey × ℕ)) (groups : List Group) (headings : List Heading) : Type 0 where
  pub named : names ≡ bare_numbers 0 headings
  pub members : grouped ≡ member_numbers 0 headings
  pub seen : groups ≡ groups_among (map (λ one. one.group) headings)
  pub few : length headings + length groups ≤ 30005
  pub all : All IsHeading headings
