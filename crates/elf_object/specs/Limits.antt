-- What lets the numbers of an object fit their fields, as far as the program's own numbers do (gABI, chapter 4, "Data Representation").
use Rattle.std.specs.Prelude.{◌^◌, ◌<◌, List, All, length}
use Rattle.asm_frags.specs.Alignments.{alignment_of_all}
use Rattle.asm_frags.specs.Groups.{IsFlagged}
use Rattle.asm_frags.specs.SectionOf.{SectionOf}
use Rattle.asm_symbols.specs.SymbolMap.{SymbolMap}
use Rattle.asm_relax.specs.Settling.{LaidItem, LaidSections}
use Rattle.elf_symbols.specs.Limits.{SymbolFits}
use Rattle.elf_symbols.specs.SymbolTable.{table_of}
use Rattle.elf_object.specs.declared.relocations.Relocation.{Relocation}
use Rattle.elf_object.specs.Contents.{relocations_of}
use Rattle.elf_object.specs.Image.{image_with}
use Rattle.elf_object.specs.Naming.{named_of}

-- each number of a section of the source fits its field, as those of the program do; just those in a group have the flag for that
pub record SourceFits (section : SectionOf LaidItem) : Type 0 where
  pub kind : section.kind < 2 ^ 32
  pub flags : section.flags.0 < 2 ^ 64
  pub flagged : IsFlagged section
  pub alignment : alignment_of_all section.items < 2 ^ 64
  pub entry_size : section.entry_size < 2 ^ 64

-- the numbers of sections and symbols fit, and the file has fewer than 2^64 bytes, where the sections have these relocations
pub record NumbersFitWith (symbols : SymbolMap) (sections : LaidSections) (found : List (List Relocation)) : Type 0 where
  pub source_sections : All SourceFits sections
  pub symbol_values : All SymbolFits (table_of symbols sections (named_of found (length symbols.symbols)))
  pub file_size : length (image_with symbols sections found) < 2 ^ 64

-- the same of the object of sections and symbols
abbrev pub NumbersFit : SymbolMap → LaidSections → Type 0
NumbersFit symbols sections = NumbersFitWith symbols sections (relocations_of symbols sections)
