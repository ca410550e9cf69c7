-- Sections as layout takes them over: the form of each field is substituted, each item gets an address and a size, and all else is kept.
use Rattle.std.specs.Prelude.{ℕ, List, map}
use Rattle.asm_expr.specs.Forms.{Form}
use Rattle.asm_frags.specs.declared.phases.Laid.{Laid}
use Rattle.asm_frags.specs.declared.fields.Field.{Field}
use Rattle.asm_frags.specs.declared.items.Frag.{Frag}
use Rattle.asm_frags.specs.SectionOf.{SectionOf}
use Rattle.asm_frags.specs.Writing.{LooseItem, LooseSection}

-- the field with its form substituted
abbrev pub substituted_field : (Form → Form) → Field → Field
substituted_field substitute field =
    record { pos = field.pos; item = field.item; offset = field.offset; section = field.section; size = field.size; role = field.role; in_item = field.in_item; form = substitute field.form }

-- the item at address 0 and without bytes, until layout sets its address and its size
abbrev pub laid_item : LooseItem → Frag Laid ℕ
laid_item item = record { pos = item.pos; offset = item.offset; content = item.content; address = 0; size = 0 }

-- the section with substituted forms, each item at address 0
abbrev pub laid_section : (Form → Form) → LooseSection → SectionOf (Frag Laid ℕ)
laid_section substitute section = record {
  name = section.name;
  flags = section.flags;
  kind = section.kind;
  entry_size = section.entry_size;
  group = section.group;
  bytes = section.bytes;
  fields = map (substituted_field substitute) section.fields;
  items = map laid_item section.items;
}

-- the sections with substituted forms, each item at address 0
abbrev pub laid_sections : (Form → Form) → List LooseSection → List (SectionOf (Frag Laid ℕ))
laid_sections substitute sections = map (laid_section substitute) sections
