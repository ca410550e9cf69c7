-- What is put into a section: plain bytes, a field over zeros, an item, or one that grows with the value of its field.
use Rattle.std.specs.Prelude.{ℕ, ◌+◌, ◌==◌, ◌&&◌, not, Bool, true, false, List, [], ◌∷◌, ◌++◌, length, replicate, Option, Result, Ok, Err, if◌then◌else◌}
use Rattle.std.specs.List.{list_all}
use Rattle.asm_base.specs.declared.positions.Pos.{Pos}
use Rattle.asm_expr.specs.Forms.{Form}
use Rattle.asm_frags.specs.declared.phases.Loose.{Loose}
use Rattle.asm_base.specs.declared.causes.FragCause.{FragCause}
use Rattle.asm_base.specs.declared.causes.FragCause.TheVariants.{BadSection}
use Rattle.asm_frags.specs.declared.fields.FieldSize.{FieldSize}
use Rattle.asm_frags.specs.declared.fields.FieldSize.TheVariants.{Four}
use Rattle.asm_frags.specs.declared.roles.FieldRole.{FieldRole}
use Rattle.x86_insn.specs.declared.amounts.Suffix.{Suffix}
use Rattle.item_contents.specs.declared.contents.Content.{Content}
use Rattle.item_contents.specs.declared.contents.Content.TheVariants.{Run, Growing}
use Rattle.item_contents.specs.declared.kinds.Growth.{Growth}
use Rattle.asm_frags.specs.declared.items.Frag.{Frag}
use Rattle.asm_frags.specs.Fields.{width, growth_role}
use Rattle.item_contents.specs.Zeros.{is_zero}
use Rattle.item_contents.specs.Contents.{is_run, is_known_zeros}
use Rattle.asm_frags.specs.SectionOf.{SectionOf, with_last_item}

-- an item before it has an address
abbrev pub LooseItem : Type 0
LooseItem = Frag Loose (Unit {0})

-- a section before layout
abbrev pub LooseSection : Type 0
LooseSection = SectionOf LooseItem

-- the last item is a run: plain bytes go on with it
abbrev pub ends_in_run : {P Address : Type 0} → List (Frag P Address) → Bool
ends_in_run [] = false
ends_in_run (item ∷ []) = is_run item.content
ends_in_run (item ∷ next ∷ items) = ends_in_run (next ∷ items)

-- an item that is put nowhere so far
abbrev pub new_item : Pos → Content → LooseItem
new_item pos content = record { pos = pos; offset = 0; content = content; address = tt; size = tt }

-- the item behind so many plain bytes
abbrev pub item_behind : ℕ → LooseItem → LooseItem
item_behind bytes item = record { pos = item.pos; offset = bytes; content = item.content; address = item.address; size = item.size }

-- the section with this item last, behind all its plain bytes
abbrev pub with_item : LooseItem → LooseSection → LooseSection
with_item item section = with_last_item section (item_behind (length section.bytes) item)

-- the section with a run last: the one that is there, or a new one
abbrev pub with_run : Pos → LooseSection → LooseSection
with_run pos section = if ends_in_run section.items then section else with_item (new_item pos Run) section

-- the section with plain bytes more
abbrev pub with_bytes : Pos → List ℕ → LooseSection → LooseSection
with_bytes pos more section = record (with_run pos section) { bytes = section.bytes ++ more }

-- the section, which has this number, with a field more, over zeros
abbrev pub with_field : Pos → ℕ → FieldSize → FieldRole → Form → LooseSection → LooseSection
with_field pos number size role form section = record (with_run pos section) {
  bytes = section.bytes ++ replicate (width size) 0;
  fields = section.fields ++ record {
    pos = pos;
    item = length (with_run pos section).items;
    offset = length section.bytes;
    section = number;
    size = size;
    role = role;
    in_item = false;
    form = form;
  } ∷ [];
}

-- the section, which has this number, with an item more that grows with the value of this form, and with the field of the form, whose place is the end
-- of the item; a jump's field is that of its near form, four bytes
abbrev pub with_growing : Pos → ℕ → Growth → Option Suffix → Form → LooseSection → LooseSection
with_growing pos number kind suffix form section = record (with_item (new_item pos (Growing (record { kind = kind; field = length section.fields }))) section) {
  fields = section.fields ++ record {
    pos = pos;
    item = length section.items + 1;
    offset = length section.bytes;
    section = number;
    size = Four;
    role = growth_role kind suffix;
    in_item = true;
    form = form;
  } ∷ [];
}

-- the section has the type `SHT_NOBITS`: it takes only what is known to be zeros
abbrev pub takes_zeros_alone : {Item : Type 0} → SectionOf Item → Bool
takes_zeros_alone section = section.kind == 8

-- plain bytes are put into the section, or refused
abbrev pub bytes_put : Pos → List ℕ → LooseSection → Result LooseSection FragCause
bytes_put pos more section = if takes_zeros_alone section && not (list_all is_zero more) then Err BadSection else Ok (with_bytes pos more section)

-- a field is put into the section, which has this number, or refused
abbrev pub field_put : Pos → ℕ → FieldSize → FieldRole → Form → LooseSection → Result LooseSection FragCause
field_put pos number size role form section = if takes_zeros_alone section then Err BadSection else Ok (with_field pos number size role form section)

-- an item that grows is put into the section, which has this number, or refused
abbrev pub growing_put : Pos → ℕ → Growth → Option Suffix → Form → LooseSection → Result LooseSection FragCause
growing_put pos number kind suffix form section = if takes_zeros_alone section then Err BadSection else Ok (with_growing pos number kind suffix form section)

-- an item is put into the section, or refused
abbrev pub item_put : LooseItem → LooseSection → Result LooseSection FragCause
item_put item section = if takes_zeros_alone section && not (is_known_zeros item.content) then Err BadSection else Ok (with_item item section)
