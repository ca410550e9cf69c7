-- What the types of the program stand for.
use Rattle.std.specs.Prelude.{List}
use Rattle.asm_frags.specs.Alignments.{alignment_of_all}
use Rattle.asm_frags.specs.SectionOf.{SectionOf}
use Rattle.asm_relax.specs.Settling.{LaidItem}
use Rattle.elf_file.specs.Sections.{SectionEntry}
use Rattle.elf_file.specs.Views.{content_view}
use Rattle.elf_object.specs.declared.contents.HeldSection.{HeldSection}
use Rattle.elf_object.specs.declared.relocations.Relocation.{Relocation}

-- a section of the source
unfoldable pub held_entry : HeldSection → SectionEntry
held_entry held = record {
  name = held.source.now.name;
  kind = held.source.now.kind;
  flags = held.source.now.flags.0;
  alignment = alignment_of_all held.source.now.items;
  entry_size = held.source.now.entry_size;
  link = 0;
  info = 0;
  content = content_view held.body;
}

-- the section of the source
abbrev pub source_of : HeldSection → SectionOf LaidItem
source_of held = held.source.now

-- the relocations of a section of the source
abbrev pub relocations_in : HeldSection → List Relocation
relocations_in held = held.relocations.items
