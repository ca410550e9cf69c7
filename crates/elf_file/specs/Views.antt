-- What the types of the program stand for.
use Rattle.std.specs.Prelude.{◌≡◌, ℕ, ◌+◌, List, ◌++◌, length}
use Rattle.elf_file.specs.declared.sections.Body.{Body}
use Rattle.elf_file.specs.declared.sections.Body.TheVariants.{Bytes, Mixed, NoBits}
use Rattle.elf_file.specs.declared.sections.FileSection.{FileSection}
use Rattle.elf_file.specs.Image.{header_end}
use Rattle.elf_file.specs.Pieces.{mixed_bytes}
use Rattle.elf_file.specs.Sections.{Content, stored, nobits, SectionEntry}

-- what a section of the file holds
abbrev pub content_view : Body → Content
content_view (Bytes bytes) = stored bytes.items
content_view (Mixed held) = stored (mixed_bytes held)
content_view (NoBits size) = nobits size

-- a section of the file
unfoldable pub section_view : FileSection → SectionEntry
section_view s = record {
  name = s.prefix.now ++ s.name.now;
  kind = s.kind;
  flags = s.flags;
  alignment = s.alignment;
  entry_size = s.entry_size;
  link = s.link;
  info = s.info;
  content = content_view s.body;
}

-- behind the ELF header these bytes end there
abbrev pub ends_at : ℕ → List ℕ → Type 0
ends_at end bytes = end ≡ header_end + length bytes
