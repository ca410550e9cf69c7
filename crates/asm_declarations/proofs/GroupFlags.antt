-- The flags of a section say whether it is in a group: those that letters ask for, and those that are not said.
use Rattle.std.proofs.Common.{◌≡◌, ℕ, suc, ◌+◌, ◌*◌, ◌≤◌, ◌<◌, ◌==◌, Bool, true, false, cond, List, [], ◌∷◌, length, Option, None, Some, Result, Ok, Err, refl, sym, ap, subst, ◌∙◌, arith, slice_get}
use Rattle.std.specs.Prelude.{bit_and, not, nat_lt, position, is_none, is_some, IfSome, ◌&&◌, codes, nat_eq}
use Rattle.std.specs.List.{list_all, position_or_len, starts_with}
use Rattle.std.specs.Str.{bytes_eq}
use Rattle.std.proofs.lemmas.Nat.{and_block, and_le_r}
use Rattle.std.proofs.lemmas.Option.{none-some, same_Some}
use Rattle.asm_frags.specs.declared.groups.Group.{Group}
use Rattle.asm_frags.specs.Groups.{says_group, IsFlagged}
use Rattle.asm_frags.specs.SectionOf.{is_section_named, section_number}
use Rattle.asm_frags.specs.Sections.{section_flags}
use Rattle.asm_frags.specs.Writing.{LooseSection}
use Rattle.asm_base.specs.Refusals.{◌>>=◌}
use Rattle.asm_operands.specs.declared.place_faults.PlaceCause.{PlaceCause}
use Rattle.asm_operands.specs.declared.place_faults.PlaceCause.TheVariants.{BadSection}
use Rattle.asm_operands.specs.Results.{if_some}
use Rattle.asm_words.specs.declared.section_defaults.DefaultHeader.{DefaultHeader}
use Rattle.asm_words.specs.SectionDefaults.{default_header, thread_header, array_header, note_header, is_under, is_code, is_constant}
use Rattle.asm_words.specs.SectionWords.{has_letter, is_flag_letter, flag_if, letter_flags, said_flags, says_grouped, SectionWords, comdat_by, group_by, said_group}
use Rattle.asm_declarations.specs.SectionChanges.{flags_by}

-- LETTERS

flag_within : (letter flag : ℕ) (letters : List ℕ) → flag_if letter flag letters ≤ flag
flag_within letter flag letters = by_test (has_letter letter letters)
  where
    by_test : (test : Bool) → cond test flag 0 ≤ flag
    by_test true = omega arith
    by_test false = omega arith

-- the flag stands apart from lower ones
apart : (high low : ℕ) → low < 512 → bit_and (high * 512 + low) 512 ≡ bit_and high 1 * 512
apart high low small =
    let block : bit_and (high * 512 + low) 512 ≡ bit_and high 1 * 512 + bit_and low 0 = and_block 9 high 1 low 0 small (omega arith) in
    let none : bit_and low 0 ≤ 0 = and_le_r low 0 in
    omega (arith, block, none)

shown : (high low all : ℕ) → low < 512 → all ≡ high * 512 + low → says_group (section_flags all) ≡ (bit_and high 1 * 512 == 512)
shown high low all small is = ap (λ (n : ℕ). bit_and n 512 == 512) is ∙ ap (λ (n : ℕ). n == 512) (apart high low small)

summed : (low : ℕ) (grouped thread : Bool) → low < 512 → says_group (section_flags (low + cond grouped 512 0 + cond thread 1024 0)) ≡ grouped
summed low true true small = shown 3 low (low + 512 + 1024) small (omega arith)
summed low true false small = shown 1 low (low + 512 + 0) small (omega arith)
summed low false true small = shown 2 low (low + 0 + 1024) small (omega arith)
summed low false false small = shown 0 low (low + 0 + 0) small (omega arith)

letters_grouped : (letters : List ℕ) → says_group (section_flags (letter_flags letters)) ≡ has_letter 71 letters
unfolding letter_flags
letters_grouped letters =
    let w = flag_within 119 1 letters in
    let a = flag_within 97 2 letters in
    let x = flag_within 120 4 letters in
    let m = flag_within 77 16 letters in
    let s = flag_within 83 32 letters in
    summed (flag_if 119 1 letters + flag_if 97 2 letters + flag_if 120 4 letters + flag_if 77 16 letters + flag_if 83 32 letters)
    (has_letter 71 letters) (has_letter 84 letters) (omega (arith, w, a, x, m, s))

-- NOT SAID

-- the flags say that the section is in no group
record IsBare (header : DefaultHeader) : Type 0 where
  says : says_group (section_flags header.flags) ≡ false

bare_if : (test : Bool) {one other : DefaultHeader} → IsBare one → IsBare other → IsBare (cond test one other)
bare_if true first later = first
bare_if false first later = later

note_bare : (name : List ℕ) → IsBare (note_header name)
unfolding note_header
note_bare name =
    bare_if (bytes_eq name (codes ".note.GNU-stack")) (record { says = refl })
    (bare_if (starts_with nat_eq name (codes ".note")) (record { says = refl }) (record { says = refl }))

array_bare : (name : List ℕ) → IsBare (array_header name)
unfolding array_header
array_bare name =
    bare_if (is_under (codes ".init_array") name) (record { says = refl }) (bare_if (is_under (codes ".fini_array") name) (record { says = refl })
    (bare_if (is_under (codes ".preinit_array") name) (record { says = refl }) (note_bare name)))

thread_bare : (name : List ℕ) → IsBare (thread_header name)
unfolding thread_header
thread_bare name =
    bare_if (is_under (codes ".tdata") name) (record { says = refl }) (bare_if (is_under (codes ".tbss") name) (record { says = refl }) (array_bare name))

default_bare : (name : List ℕ) → IsBare (default_header name)
unfolding default_header
default_bare name =
    bare_if (is_code name) (record { says = refl }) (bare_if (is_under (codes ".data") name) (record { says = refl })
    (bare_if (is_under (codes ".bss") name) (record { says = refl }) (bare_if (is_constant name) (record { says = refl }) (thread_bare name))))

-- a section that is found by its name alone is in no group
passed : {X : Type 0} (p : X → Bool) (xs : List X) (x : X) → slice_get xs (position_or_len p xs) ≡ Some x → p x ≡ true
passed p [] x there = absurd (none-some x there)
passed {X} p (y ∷ ys) x there = by_test (passed p ys x) (p y) refl there
  where
    by_test : (slice_get ys (position_or_len p ys) ≡ Some x → p x ≡ true) → (test : Bool) → p y ≡ test
        → slice_get (y ∷ ys) (cond (not test) (1 + position_or_len p ys) 0) ≡ Some x → p x ≡ true
    by_test later true is there = subst (λ (z : X). p z ≡ true) (same_Some y x there) is
    by_test later false is there =
        let next : 1 + position_or_len p ys ≡ suc (position_or_len p ys) = omega arith in
        later (sym (ap (slice_get (y ∷ ys)) next) ∙ there)

found : {X : Type 0} (p : X → Bool) (xs : List X) (number : ℕ) (x : X) → position p xs ≡ Some number → slice_get xs number ≡ Some x → p x ≡ true
found {X} p xs number x is there = by_test (nat_lt (position_or_len p xs) (length xs)) is
  where
    by_test : (test : Bool) → cond test (Some (position_or_len p xs)) None ≡ Some number → p x ≡ true
    by_test true same = passed p xs x (ap (slice_get xs) (same_Some (position_or_len p xs) number same) ∙ there)
    by_test false same = absurd (none-some number same)

ungrouped : (group : Option Group) (named : Bool) → (is_none group && named) ≡ true → is_some group ≡ false
ungrouped None named is = refl
ungrouped (Some group) named is = absurd cc

pub found_bare : (name : List ℕ) (sections : List LooseSection) (number : ℕ) (section : LooseSection) → section_number name sections ≡ Some number
    → slice_get sections number ≡ Some section → IsFlagged section → says_group section.flags ≡ false
found_bare name sections number section is there flagged =
    flagged ∙ ungrouped section.group (bytes_eq name section.name) (found (is_section_named name) sections number section is there)

-- WHAT A HEADER SAYS

said_grouped : (letters : List ℕ) (flags : Option ℕ) (test : Bool) → (cond {A = Result ℕ PlaceCause} test (Ok (letter_flags letters)) (Err BadSection) >>= λ made. Ok (Some made)) ≡ Ok flags
    → flags ≡ Some (letter_flags letters)
said_grouped letters flags true is = cc
said_grouped letters flags false is = absurd cc

none_said : (flags : Option ℕ) → if_some said_flags None ≡ Ok flags → None ≡ flags
none_said flags is = cc

said_by : (letters : List ℕ) (flags : ℕ) (test : Bool) → cond {A = Result ℕ PlaceCause} test (Ok (letter_flags letters)) (Err BadSection) ≡ Ok flags → flags ≡ letter_flags letters
said_by letters flags true is = cc
said_by letters flags false is = absurd cc

-- flags that letters ask for say whether the section is in a group
pub said_flagged : (letters : List ℕ) (flags : ℕ) → said_flags letters ≡ Ok flags → says_group (section_flags flags) ≡ has_letter 71 letters
unfolding said_flags
said_flagged letters flags is = ap (λ (n : ℕ). says_group (section_flags n)) (said_by letters flags (list_all is_flag_letter letters) is) ∙ letters_grouped letters

-- the flags of a header are those that letters ask for, or those of the section that there is in no group, or those of its name
pub header_flagged : (letters : Option (List ℕ)) (flags : Option ℕ) (there : Option LooseSection) (name : List ℕ) → if_some said_flags letters ≡ Ok flags
    → IfSome there (λ section. says_group section.flags ≡ false) → says_group (section_flags (flags_by flags there name)) ≡ says_grouped letters
unfolding said_flags
header_flagged None flags (Some section) name is bare =
    subst (λ (f : Option ℕ). says_group (section_flags (flags_by f (Some section) name)) ≡ false) (none_said flags is) bare
header_flagged None flags None name is bare =
    subst (λ (f : Option ℕ). says_group (section_flags (flags_by f None name)) ≡ false) (none_said flags is) (default_bare name).says
header_flagged (Some letters) flags there name is bare =
    subst (λ (f : Option ℕ). says_group (section_flags (flags_by f there name)) ≡ has_letter 71 letters)
    (sym (said_grouped letters flags (list_all is_flag_letter letters) is)) (letters_grouped letters)

-- there is a group where a letter says so
group_there : (says : Bool) (signature linkage : Option (List ℕ)) (group : Option (List ℕ × Bool)) → group_by says signature linkage ≡ Ok group → is_some group ≡ says
group_there false signature linkage group is = ap is_some (none_grouped group is)
  where
    none_grouped : (group : Option (List ℕ × Bool)) → group_by false signature linkage ≡ Ok group → group ≡ None
    none_grouped group is = cc
group_there true None linkage group is = absurd cc
group_there true (Some signature) linkage group is = by_linkage (comdat_by linkage) is
  where
    by_linkage : (comdat : Result Bool PlaceCause) → (comdat >>= λ one. Ok (Some (signature, one))) ≡ Ok group → is_some group ≡ true
    by_linkage (Ok one) same = let made : Some (signature, one) ≡ group = cc in sym (ap is_some made)
    by_linkage (Err fault) same = absurd cc

pub group_flagged : (flags : ℕ) (words : SectionWords) (group : Option (List ℕ × Bool)) → said_group words ≡ Ok group
    → says_group (section_flags flags) ≡ says_grouped words.flags → says_group (section_flags flags) ≡ is_some group
group_flagged flags words group is says = says ∙ sym (group_there (says_grouped words.flags) words.signature words.linkage group is)
