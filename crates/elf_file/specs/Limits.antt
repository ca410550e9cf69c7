-- What the numbers of a section fit (gABI, chapter 4, "Data Representation").
use Rattle.std.specs.Prelude.{ℕ, ◌^◌, ◌<◌}
use Rattle.elf_file.specs.Sections.{SectionEntry}

-- the type of the section fits an Elf64_Word, and its flags, alignment and entry size fit Elf64_Xwords
pub record EntryFits (s : SectionEntry) : Type 0 where
  pub kind : s.kind < 2 ^ 32
  pub flags : s.flags < 2 ^ 64
  pub alignment : s.alignment < 2 ^ 64
  pub entry_size : s.entry_size < 2 ^ 64
