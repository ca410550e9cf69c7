-- Sections as values: what a section header says, the plain bytes with their fields, and the items.
use Rattle.std.specs.Prelude.{ℕ, ◌==◌, ◌&&◌, Bool, List, [], ◌∷◌, ◌++◌, Option, None, is_none, position}
use Rattle.std.specs.Str.{bytes_eq}
use Rattle.asm_frags.specs.declared.fields.Field.{Field}
use Rattle.asm_frags.specs.declared.flags.SectionFlags.{SectionFlags}
use Rattle.asm_frags.specs.declared.groups.Group.{Group}

-- a section: its name, `sh_flags`, `sh_type`, `sh_entsize`, its group, if it is in one, the plain bytes of all its statements in one piece, the fields over them,
-- and the items in order: a run says where plain bytes begin, and each other item stands between the plain bytes before its offset and those behind it
pub record SectionOf (Item : Type 0) : Type 0 where
  pub name : List ℕ
  pub flags : SectionFlags
  pub kind : ℕ
  pub entry_size : ℕ
  pub group : Option Group
  pub bytes : List ℕ
  pub fields : List Field
  pub items : List Item

-- a section in no group that nothing was put into
abbrev pub new_section : {Item : Type 0} → List ℕ → SectionFlags → ℕ → ℕ → SectionOf Item
new_section name flags kind entry_size =
    record { name = name; flags = flags; kind = kind; entry_size = entry_size; group = None; bytes = []; fields = []; items = [] }

-- the section with the item last
abbrev pub with_last_item : {Item : Type 0} → SectionOf Item → Item → SectionOf Item
with_last_item section item = record section { items = section.items ++ item ∷ [] }

-- the section has these flags, this type and this entry size
abbrev pub is_alike : {Item : Type 0} → SectionOf Item → SectionFlags → ℕ → ℕ → Bool
is_alike section flags kind entry_size = (section.flags.0 == flags.0) && (section.kind == kind) && (section.entry_size == entry_size)

-- the section has this name and is in no group
abbrev pub is_section_named : {Item : Type 0} → List ℕ → SectionOf Item → Bool
is_section_named name section = is_none section.group && bytes_eq name section.name

-- the number of the section of this name that is in no group
abbrev pub section_number : {Item : Type 0} → List ℕ → List (SectionOf Item) → Option ℕ
section_number name sections = position (is_section_named name) sections
