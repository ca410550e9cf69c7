-- The sections of a source in the order in which they are first seen.
use Rattle.std.specs.Prelude.{◌≡◌, ℕ, ◌+◌, Bool, List, [], ◌∷◌, ◌++◌, Option, None, Some, Result, Ok, Err, codes, length, nat_lt, slice_get, slice_set, if◌then◌else◌}
use Rattle.asm_base.specs.declared.refusals.Refusal.{Refusal}
use Rattle.asm_base.specs.Refusals.{FailsLast}
use Rattle.asm_base.specs.declared.causes.FragCause.{FragCause}
use Rattle.asm_base.specs.declared.causes.FragCause.TheVariants.{BadSection}
use Rattle.asm_frags.specs.declared.flags.SectionFlags.{SectionFlags}
use Rattle.asm_frags.specs.declared.groups.Group.{Group}
use Rattle.asm_frags.specs.SectionOf.{SectionOf, new_section, is_alike, section_number}
use Rattle.asm_frags.specs.Groups.{groups_of, counted, new_groups, is_said_otherwise, member_number}

-- the flags with these bits
abbrev pub section_flags : ℕ → SectionFlags
section_flags bits = record { 0 = bits }

-- the sections of an empty source: `.text`, `.data` and `.bss` (GNU as manual, "Ld Sections")
unfoldable pub first_sections : {Item : Type 0} → List (SectionOf Item)
first_sections =
    new_section (codes ".text") (section_flags 6) 1 0
    ∷ new_section (codes ".data") (section_flags 3) 1 0
    ∷ new_section (codes ".bss") (section_flags 3) 8 0 ∷ []

-- the section last, whose number is how many there were
abbrev pub put_last : {Item : Type 0} → List (SectionOf Item) → SectionOf Item → Result (ℕ × List (SectionOf Item)) FragCause
put_last sections made = Ok (length sections, sections ++ made ∷ [])

-- the same, unless there would be more sections and groups than so many
abbrev pub last_of : {Item : Type 0} → ℕ → List (SectionOf Item) → SectionOf Item → Result (ℕ × List (SectionOf Item)) FragCause
last_of most sections made = if nat_lt (counted sections + new_groups (groups_of sections) made.group) most then put_last sections made else Err BadSection

-- a source makes at most 30,000 beside the first three
abbrev pub new_last : {Item : Type 0} → List (SectionOf Item) → SectionOf Item → Result (ℕ × List (SectionOf Item)) FragCause
new_last sections made = last_of 30003 sections made

-- after all statements there are two tables more at most
abbrev pub table_last : {Item : Type 0} → List (SectionOf Item) → SectionOf Item → Result (ℕ × List (SectionOf Item)) FragCause
table_last sections made = last_of 30005 sections made

-- the number of the section that there is, unless flags, type or entry size differ
abbrev pub entered_there : {Item : Type 0} → List (SectionOf Item) → ℕ → Option (SectionOf Item) → SectionFlags → ℕ → ℕ → Result (ℕ × List (SectionOf Item)) FragCause
entered_there sections number None flags kind entry_size = Err BadSection
entered_there sections number (Some section) flags kind entry_size = if is_alike section flags kind entry_size then Ok (number, sections) else Err BadSection

-- the section of the number that the name has among those in no group, or a new section where the name is new
abbrev pub entered_by : {Item : Type 0} → List (SectionOf Item) → Option ℕ → List ℕ → SectionFlags → ℕ → ℕ → Result (ℕ × List (SectionOf Item)) FragCause
entered_by sections None name flags kind entry_size = new_last sections (new_section name flags kind entry_size)
entered_by sections (Some number) name flags kind entry_size = entered_there sections number (slice_get sections number) flags kind entry_size

-- the number of the section of this name that is in no group, and the sections with it, or the fault (GNU as manual, ".section")
abbrev pub entered : {Item : Type 0} → List (SectionOf Item) → List ℕ → SectionFlags → ℕ → ℕ → Result (ℕ × List (SectionOf Item)) FragCause
entered sections name flags kind entry_size = entered_by sections (section_number name sections) name flags kind entry_size

-- the section of the number that there is, or this new one of a group
abbrev pub entered_or_new : {Item : Type 0} → List (SectionOf Item) → Option ℕ → SectionOf Item → Result (ℕ × List (SectionOf Item)) FragCause
entered_or_new sections None made = new_last sections made
entered_or_new sections (Some number) made = entered_there sections number (slice_get sections number) made.flags made.kind made.entry_size

-- a section of this group that nothing was put into
abbrev pub new_member : {Item : Type 0} → Group → List ℕ → SectionFlags → ℕ → ℕ → SectionOf Item
new_member group name flags kind entry_size = record (new_section name flags kind entry_size) { group = Some group }

-- the number of the section of this name in a group, and the sections with it, or the fault: a group is always of one word on what a linker keeps
abbrev pub entered_member : {Item : Type 0} → List (SectionOf Item) → List ℕ → SectionFlags → ℕ → ℕ → Group → Result (ℕ × List (SectionOf Item)) FragCause
entered_member sections name flags kind entry_size group =
    if is_said_otherwise group sections then Err BadSection
    else entered_or_new sections (member_number group.signature name sections) (new_member group name flags kind entry_size)

-- the number of the section of this name, in the group of this signature, which may be one of which a linker keeps one alone, or in none
abbrev pub entered_in : {Item : Type 0} → List (SectionOf Item) → List ℕ → SectionFlags → ℕ → ℕ → Option (List ℕ × Bool) → Result (ℕ × List (SectionOf Item)) FragCause
entered_in sections name flags kind entry_size None = entered sections name flags kind entry_size
entered_in sections name flags kind entry_size (Some said) = entered_member sections name flags kind entry_size (record { signature = said.0; comdat = said.1 })

-- the call made the due value and answers the due number, or is refused as `Changes` says
abbrev pub Enters : {Value : Type 0} → Value → Value → Result ℕ (Refusal FragCause) → Result (ℕ × Value) FragCause → Type 0
Enters old new (Ok number) due = due ≡ Ok (number, new)
Enters old new (Err refusal) due = FailsLast refusal due × (new ≡ old)

-- the sections with the section of this number replaced, or the fault
abbrev pub with_section_or_fault : {Item : Type 0} → List (SectionOf Item) → ℕ → Result (SectionOf Item) FragCause → Result (List (SectionOf Item)) FragCause
with_section_or_fault sections number (Ok section) = Ok (slice_set sections number section)
with_section_or_fault sections number (Err fault) = Err fault

-- the same, by the section that there is of this number
abbrev pub put_into_there : {Item : Type 0} → (SectionOf Item → Result (SectionOf Item) FragCause) → List (SectionOf Item) → ℕ → Option (SectionOf Item) → Result (List (SectionOf Item)) FragCause
put_into_there put sections number None = Err BadSection
put_into_there put sections number (Some section) = with_section_or_fault sections number (put section)

-- the sections with something put into the one of this number, or the fault
abbrev pub put_into : {Item : Type 0} → (SectionOf Item → Result (SectionOf Item) FragCause) → List (SectionOf Item) → ℕ → Result (List (SectionOf Item)) FragCause
put_into put sections number = put_into_there put sections number (slice_get sections number)
