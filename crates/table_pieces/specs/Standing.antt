-- What is put stands behind all that was there, which stays as it is.
use Rattle.std.specs.Prelude.{◌≡◌, ℕ, ◌≤◌, List, ◌++◌, length, All, IsSomeAnd, Some, slice_get}
use Rattle.asm_frags.specs.declared.fields.Field.{Field}
use Rattle.asm_frags.specs.Writing.{LooseItem, LooseSection, ends_in_run}
use Rattle.table_pieces.specs.declared.ends.SectionEnd.{SectionEnd}

-- the section became this one: what was there is first and as it was, and what was put is behind it
pub record Extends (before after : LooseSection) : Type 0 where
  pub bytes : List ℕ
  pub fields : List Field
  pub items : List LooseItem
  pub all_bytes : after.bytes ≡ before.bytes ++ bytes
  pub all_fields : after.fields ≡ before.fields ++ fields
  pub all_items : after.items ≡ before.items ++ items
  pub fields_behind : All (λ field. length before.bytes ≤ field.offset) fields
  pub items_behind : All (λ item. length before.bytes ≤ item.offset) items
  pub name : after.name ≡ before.name
  pub flags : after.flags ≡ before.flags
  pub kind : after.kind ≡ before.kind
  pub entry_size : after.entry_size ≡ before.entry_size
  pub group : after.group ≡ before.group

-- the section of this number became such a one, and all others stay
pub record OneExtends (section : ℕ) (before after : List LooseSection) : Type 0 where
  pub count : length after ≡ length before
  pub others : (other : ℕ) → (other ≡ section → ⊥) → slice_get after other ≡ slice_get before other
  pub there : (held : LooseSection) → slice_get before section ≡ Some held
      → (now : LooseSection) × (slice_get after section ≡ Some now) × Extends held now

-- all sections stay in those that are made of them, with more behind
abbrev pub AllExtend : List LooseSection → List LooseSection → Type 0
AllExtend before after = (number : ℕ) (held : LooseSection) → slice_get before number ≡ Some held
    → (now : LooseSection) × (slice_get after number ≡ Some now) × Extends held now

-- sections that stay, or are extended once more, are extended; and where one is, all stay
pub record Extensions : Type 0 where
  pub same : (section : ℕ) (sections : List LooseSection) → OneExtends section sections sections
  pub on : (section : ℕ) (before middle after : List LooseSection) → OneExtends section before middle → OneExtends section middle after
      → OneExtends section before after
  pub all : (section : ℕ) (before after : List LooseSection) → OneExtends section before after → AllExtend before after

-- the section has this end
pub record HasEnd (end : SectionEnd) (section : LooseSection) : Type 0 where
  pub items : length section.items ≡ end.items
  pub bytes : length section.bytes ≡ end.bytes
  pub in_run : ends_in_run section.items ≡ end.in_run

-- the section of this number has this end
abbrev pub Reaches : ℕ → List LooseSection → SectionEnd → Type 0
Reaches section sections end = IsSomeAnd (slice_get sections section) (HasEnd end)
