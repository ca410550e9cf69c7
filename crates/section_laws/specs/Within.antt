-- Fields and items within the plain bytes of their section, in order; fields count the items.
use Rattle.std.specs.Prelude.{◌≡◌, ◌≤◌, ℕ, suc, true, List, All, Option, Some, length, take, drop, slice_get}
use Rattle.asm_base.specs.declared.positions.Pos.{Pos}
use Rattle.asm_expr.specs.Forms.{Form}
use Rattle.x86_insn.specs.declared.amounts.Suffix.{Suffix}
use Rattle.item_contents.specs.declared.contents.Content.TheVariants.{Growing}
use Rattle.item_contents.specs.declared.kinds.Growth.{Growth}
use Rattle.asm_frags.specs.declared.fields.Field.{Field}
use Rattle.asm_frags.specs.declared.fields.FieldSize.{FieldSize}
use Rattle.asm_frags.specs.declared.fields.FieldSize.TheVariants.{Four}
use Rattle.asm_frags.specs.declared.items.Frag.{Frag}
use Rattle.asm_frags.specs.declared.roles.FieldRole.{FieldRole}
use Rattle.asm_frags.specs.Fields.{growth_role}
use Rattle.asm_frags.specs.PlainBytes.{field_end, FieldsStand}
use Rattle.asm_frags.specs.Writing.{LooseItem, LooseSection, with_item, with_run, with_bytes}
use Rattle.asm_frags.specs.Writing.{with_field, with_growing}

-- so many items stand before these plain bytes, from the one offset to the other, and the other
-- items after them
pub record AreBetween {P Address : Type 0} (items : List (Frag P Address)) (count from to : ℕ) : Type 0 where
  pub enough : count ≤ length items
  pub before : All (λ item. item.offset ≤ from) (take count items)
  pub after : All (λ item. to ≤ item.offset) (drop count items)

-- the field stands in the item before its place, at the same offset; the item grows with the value of
-- the field, which has the size and role of such a field
pub record IsInItem {P Address : Type 0} (fields : List Field) (items : List (Frag P Address)) (field : Field) : Type 0 where
  pub index : ℕ
  pub next : field.item ≡ suc index
  pub item : Frag P Address
  pub item_there : slice_get items index ≡ Some item
  pub offset : item.offset ≡ field.offset
  pub number : ℕ
  pub field_there : slice_get fields number ≡ Some field
  pub growth : Growth
  pub content : item.content ≡ Growing (record { kind = growth; field = number })
  pub suffix : Option Suffix
  pub role : field.role ≡ growth_role growth suffix
  pub size : field.size ≡ Four

-- the field counts the items of its section: as many as it says stand before it, and the others after
-- it; one in an item stands in the last of those before it
pub record CountsItems {P Address : Type 0} (fields : List Field) (items : List (Frag P Address)) (field : Field) : Type 0 where
  pub between : AreBetween items field.item field.offset (field_end field)
  pub inside : field.in_item ≡ true → IsInItem fields items field

-- each field of the section ends within its bytes, the fields stand in order and apart over zeros,
-- each item stands within the bytes or after them, and each field counts the items
pub record IsWithin (section : LooseSection) : Type 0 where
  pub fields : All (λ field. field_end field ≤ length section.bytes) section.fields
  pub apart : FieldsStand section.bytes 0 section.fields
  pub items : All (λ item. item.offset ≤ length section.bytes) section.items
  pub counted : All (CountsItems section.fields section.items) section.fields

-- each section is so
abbrev pub AreWithin : List LooseSection → Type 0
AreWithin sections = All IsWithin sections

-- whatever is put into a section that is so, it stays so
pub record PutsStayWithin : Type 0 where
  pub run : (pos : Pos) (section : LooseSection) → IsWithin section
      → IsWithin (with_run pos section)
  pub bytes : (pos : Pos) (more : List ℕ) (section : LooseSection) → IsWithin section
      → IsWithin (with_bytes pos more section)
  pub field : (pos : Pos) (number : ℕ) (size : FieldSize) (role : FieldRole) (form : Form)
      → (section : LooseSection) → IsWithin section
      → IsWithin (with_field pos number size role form section)
  pub item : (item : LooseItem) (section : LooseSection) → IsWithin section
      → IsWithin (with_item item section)
  pub growing : (pos : Pos) (number : ℕ) (kind : Growth) (suffix : Option Suffix) (form : Form)
      → (section : LooseSection) → IsWithin section
      → IsWithin (with_growing pos number kind suffix form section)
