-- A section that is entered is there already, or is a new one behind all others.
use Rattle.std.proofs.Common.{◌≡◌, ◌≢◌, ℕ, ◌+◌, ◌≤◌, ◌⊎◌, inl, inr, Bool, true, false, cond, List, [], ◌∷◌, ◌++◌, length, Option, None, Some, Ok, Err, refl, sym, ap, subst, All, ◌∙◌, arith, length-append, slice_get}
use Rattle.std.specs.Prelude.{◌^◌, map, nat_lt}
use Rattle.std.specs.List.{list_any}
use Rattle.std.proofs.lemmas.Bool.{ltb-true, ltb-false}
use Rattle.std.proofs.lemmas.List.{map-append}
use Rattle.std.proofs.lemmas.List.Sums.{fold-append}
use Rattle.std.proofs.lemmas.List.Elements.{All-push}
use Rattle.asm_base.specs.declared.causes.FragCause.TheVariants as frag
use Rattle.asm_operands.specs.declared.place_faults.PlaceCause.TheVariants.{BadSection}
use Rattle.asm_frags.specs.declared.flags.SectionFlags.{SectionFlags}
use Rattle.asm_frags.specs.declared.groups.Group.{Group}
use Rattle.asm_frags.specs.Groups.{HasShortSignature, has_signature, new_groups, with_group, groups_among, groups_of, counted, is_said_otherwise, member_number}
use Rattle.asm_frags.specs.SectionOf.{new_section, is_alike, section_number}
use Rattle.asm_frags.specs.Sections.{section_flags, entered_there, entered_by, entered_or_new, new_member}
use Rattle.asm_frags.specs.Writing.{LooseSection}
use Rattle.asm_declarations.specs.declared.section_changes.Header.{Header}
use Rattle.asm_declarations.specs.SectionChanges.{numbered, entered_as, entered_for}
use Rattle.asm_place.specs.SourceSizes.{HasShortName, IsNoGroup}
use Rattle.asm_place.proofs.Walks.{Fine, made, refused, either_by}

-- HOW MANY

group_long : (groups : List Group) (group : Option Group) → length (with_group groups group) ≡ length groups + new_groups groups group
group_long groups None = omega arith
group_long groups (Some group) = by_test (list_any (has_signature group.signature) groups)
  where
    by_test : (known : Bool) → length (cond known groups (groups ++ group ∷ [])) ≡ length groups + cond known 0 1
    by_test true = omega arith
    by_test false = length-append groups (group ∷ [])

groups_more : (sections : List LooseSection) (new : LooseSection) → groups_of (sections ++ new ∷ []) ≡ with_group (groups_of sections) new.group
unfolding groups_of
groups_more sections new =
    ap groups_among (map-append (λ (s : LooseSection). s.group) sections (new ∷ []))
    ∙ fold-append with_group [] (map (λ (s : LooseSection). s.group) sections) (new.group ∷ [])

-- with a section more there is one more, and its group where that is new
counted_more : (sections : List LooseSection) (new : LooseSection) → counted (sections ++ new ∷ []) ≡ counted sections + new_groups (groups_of sections) new.group + 1
counted_more sections new =
    let long = length-append sections (new ∷ []) in
    let groups : length (groups_of (sections ++ new ∷ [])) ≡ length (groups_of sections) + new_groups (groups_of sections) new.group =
    ap length (groups_more sections new) ∙ group_long (groups_of sections) new.group in
    omega (arith, long, groups)

-- the signature of the group, if there is one, is short
abbrev HasShortGroup : Option Group → Type 0
HasShortGroup None = Unit {0}
HasShortGroup (Some group) = HasShortSignature group

signed_with : (groups : List Group) (group : Option Group) → HasShortGroup group → All HasShortSignature groups → All HasShortSignature (with_group groups group)
signed_with groups None short signed = signed
signed_with groups (Some group) short signed = by_test (list_any (has_signature group.signature) groups)
  where
    by_test : (known : Bool) → All HasShortSignature (cond known groups (groups ++ group ∷ []))
    by_test true = signed
    by_test false = All-push HasShortSignature groups group signed short

-- signatures are short with that of the group of a section more
signed_more : (sections : List LooseSection) (new : LooseSection) → HasShortGroup new.group → All HasShortSignature (groups_of sections)
    → All HasShortSignature (groups_of (sections ++ new ∷ []))
signed_more sections new short signed = subst (All HasShortSignature) (sym (groups_more sections new)) (signed_with (groups_of sections) new.group short signed)

-- WHAT IS ENTERED

-- the section is there, and none is added
pub record IsOld (sections : List LooseSection) (pair : List LooseSection × ℕ) : Type 0 where
  pub same : pair.0 ≡ sections
  pub section : LooseSection
  pub there : slice_get sections pair.1 ≡ Some section

-- one is added last that nothing was put into, and there was room for it and its group; its type is that of no group where all others have such
pub record IsNew (sections : List LooseSection) (pair : List LooseSection × ℕ) : Type 0 where
  pub section : LooseSection
  pub last : pair.0 ≡ sections ++ section ∷ []
  pub number : pair.1 ≡ length sections
  pub short : HasShortName section
  pub fields : section.fields ≡ []
  pub items : section.items ≡ []
  pub few : counted (sections ++ section ∷ []) ≤ 30003
  pub signed : All HasShortSignature (groups_of sections) → All HasShortSignature (groups_of (sections ++ section ∷ []))
  pub other : All IsNoGroup sections → IsNoGroup section

-- either
abbrev pub IsEntered : List LooseSection → List LooseSection × ℕ → Type 0
IsEntered sections pair = IsOld sections pair ⊎ IsNew sections pair

module _ (sections : List LooseSection) where
  -- the type is not that of a group where no section has that
  abbrev HasOther : ℕ → Type 0
  HasOther kind = All IsNoGroup sections → kind ≢ 17

  new_entered : (new : LooseSection) → HasShortName new → HasShortGroup new.group → new.fields ≡ [] → new.items ≡ [] → HasOther new.kind
      → (test : Bool) → nat_lt (counted sections + new_groups (groups_of sections) new.group) 30003 ≡ test
      → Fine (IsEntered sections) (numbered (cond test (Ok (length sections, sections ++ new ∷ [])) (Err frag.BadSection)))
  new_entered new short grouped fields items other true is =
      let room = ltb-true (counted sections + new_groups (groups_of sections) new.group) 30003 is in
      let count = counted_more sections new in
      made _ (inr (record { section = new; last = refl; number = refl; short = short; fields = fields; items = items; few = omega (arith, room, count); signed = signed_more sections new grouped; other = other }))
  new_entered new short grouped fields items other false is = refused _

  alike_entered : (number : ℕ) (section : LooseSection) → slice_get sections number ≡ Some section → (test : Bool)
      → Fine (IsEntered sections) (numbered (cond test (Ok (number, sections)) (Err frag.BadSection)))
  alike_entered number section there true = made _ (inl (record { same = refl; section = section; there = there }))
  alike_entered number section there false = refused _

  known_entered : (number : ℕ) (found : Option LooseSection) → slice_get sections number ≡ found → (flags : SectionFlags) (kind entry_size : ℕ)
      → Fine (IsEntered sections) (numbered (entered_there sections number found flags kind entry_size))
  known_entered number None is flags kind entry_size = refused _
  known_entered number (Some section) is flags kind entry_size = alike_entered number section is (is_alike section flags kind entry_size)

  by_entered : (number : Option ℕ) (name : List ℕ) (header : Header) → length name ≤ 2 ^ 16 → HasOther header.kind
      → Fine (IsEntered sections) (numbered (entered_by sections number name (section_flags header.flags) header.kind header.entry_size))
  by_entered None name header short other =
      new_entered (new_section name (section_flags header.flags) header.kind header.entry_size) short tt refl refl other (nat_lt (counted sections + 0) 30003) refl
  by_entered (Some number) name header short other = known_entered number (slice_get sections number) refl (section_flags header.flags) header.kind header.entry_size

  or_entered : (number : Option ℕ) (new : LooseSection) → HasShortName new → HasShortGroup new.group → new.fields ≡ [] → new.items ≡ [] → HasOther new.kind
      → Fine (IsEntered sections) (numbered (entered_or_new sections number new))
  or_entered None new short grouped fields items other = new_entered new short grouped fields items other (nat_lt (counted sections + new_groups (groups_of sections) new.group) 30003) refl
  or_entered (Some number) new short grouped fields items other = known_entered number (slice_get sections number) refl new.flags new.kind new.entry_size

  -- by its name, in no group
  pub as_entered : (name : List ℕ) (header : Header) → (All IsNoGroup sections → header.kind ≢ 17) → Fine (IsEntered sections) (entered_as sections name header)
  unfolding entered_as
  as_entered name header other =
      either_by (nat_lt (2 ^ 16) (length name)) (λ long. refused BadSection)
      (λ short. by_entered (section_number name sections) name header (ltb-false (2 ^ 16) (length name) short) other)

  member_entered : (group : Group) (name : List ℕ) (header : Header) (test : Bool) → length name ≤ 2 ^ 16 → HasShortSignature group → HasOther header.kind
      → Fine (IsEntered sections)
      (numbered (cond test (Err frag.BadSection)
      (entered_or_new sections (member_number group.signature name sections) (new_member group name (section_flags header.flags) header.kind header.entry_size))))
  member_entered group name header true short signed other = refused _
  member_entered group name header false short signed other =
      or_entered (member_number group.signature name sections) (new_member group name (section_flags header.flags) header.kind header.entry_size) short signed refl refl other

  -- the same in this group, if in one
  pub for_entered : (group : Option (List ℕ × Bool)) (name : List ℕ) (header : Header) → (All IsNoGroup sections → header.kind ≢ 17)
      → Fine (IsEntered sections) (entered_for group sections name header)
  unfolding entered_for entered_as
  for_entered None name header other = as_entered name header other
  for_entered (Some said) name header other =
      let group : Group = record { signature = said.0; comdat = said.1 } in
      either_by (nat_lt (2 ^ 16) (length name)) (λ long. refused BadSection)
      (λ short. either_by (nat_lt (2 ^ 16) (length said.0)) (λ long. refused BadSection)
      (λ signed. member_entered group name header (is_said_otherwise group sections) (ltb-false (2 ^ 16) (length name) short) (ltb-false (2 ^ 16) (length said.0) signed) other))
