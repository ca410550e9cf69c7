-- Groups of sections (gABI, chapter 4, "Section Groups").
use Rattle.std.specs.Prelude.{◌≡◌, ℕ, ◌+◌, ◌^◌, ◌≤◌, ◌==◌, ◌&&◌, not, bit_and, Bool, true, false, List, [], ◌∷◌, ◌++◌, length, map, Option, None, Some, is_some, find, position, if◌then◌else◌}
use Rattle.std.specs.List.{fold, list_any}
use Rattle.std.specs.Str.{bytes_eq}
use Rattle.asm_frags.specs.declared.flags.SectionFlags.{SectionFlags}
use Rattle.asm_frags.specs.declared.groups.Group.{Group}
use Rattle.asm_frags.specs.SectionOf.{SectionOf}

-- the group has this signature: groups of one signature are one group
abbrev pub has_signature : List ℕ → Group → Bool
has_signature signature group = bytes_eq signature group.signature

-- the signature of the group has at most 2^16 bytes
abbrev pub HasShortSignature : Group → Type 0
HasShortSignature group = length group.signature ≤ 2 ^ 16

-- how many groups more there are with this one
abbrev pub new_groups : List Group → Option Group → ℕ
new_groups groups None = 0
new_groups groups (Some group) = if list_any (has_signature group.signature) groups then 0 else 1

-- the groups with the one of a section last, if it is in one, unless it is there
abbrev pub with_group : List Group → Option Group → List Group
with_group groups None = groups
with_group groups (Some group) = if list_any (has_signature group.signature) groups then groups else groups ++ group ∷ []

-- the groups of these sections, each of which is in this one, if in any, in the order in which they are first seen
abbrev pub groups_among : List (Option Group) → List Group
groups_among all = fold with_group [] all

-- the groups that sections are in, in the order in which they are first seen
unfoldable pub groups_of : {Item : Type 0} → List (SectionOf Item) → List Group
groups_of sections = groups_among (map (λ section. section.group) sections)

-- how many sections and groups there are
abbrev pub counted : {Item : Type 0} → List (SectionOf Item) → ℕ
counted sections = length sections + length (groups_of sections)

-- a section with this group is in the one of this signature
abbrev pub is_in : List ℕ → Option Group → Bool
is_in signature None = false
is_in signature (Some group) = has_signature signature group

-- the section has this name and is in the group of this signature
abbrev pub is_member_named : {Item : Type 0} → List ℕ → List ℕ → SectionOf Item → Bool
is_member_named signature name section = is_in signature section.group && bytes_eq name section.name

-- the number of the section of this name in the group of this signature
abbrev pub member_number : {Item : Type 0} → List ℕ → List ℕ → List (SectionOf Item) → Option ℕ
member_number signature name sections = position (is_member_named signature name) sections

-- one of these is said and the other is not
abbrev pub is_otherwise : Bool → Bool → Bool
is_otherwise true other = not other
is_otherwise false other = other

-- the group was seen, and the other word on what a linker keeps was said of it
abbrev pub was_otherwise : Bool → Option Group → Bool
was_otherwise comdat None = false
was_otherwise comdat (Some seen) = is_otherwise comdat seen.comdat

-- the same, where the group was seen if one of the sections is in it
abbrev pub is_said_otherwise : {Item : Type 0} → Group → List (SectionOf Item) → Bool
is_said_otherwise group sections = was_otherwise group.comdat (find (has_signature group.signature) (groups_of sections))

-- SHF_GROUP: the section is in a group
abbrev pub group_flag : ℕ
group_flag = 0x200

-- the flags say that the section is in a group
abbrev pub says_group : SectionFlags → Bool
says_group flags = bit_and flags.0 group_flag == group_flag

-- the flags of the section say whether it is in a group
abbrev pub IsFlagged : {Item : Type 0} → SectionOf Item → Type 0
IsFlagged section = says_group section.flags ≡ is_some section.group
