-- Where the bytes of each section of an object begin, by its header (gABI, chapter 4, "Sections").
use Rattle.std.specs.Prelude.{◌≡◌, ℕ, List, Some, slice_get}
use Rattle.asm_frags.specs.SectionOf.{SectionOf}
use Rattle.asm_symbols.specs.SymbolMap.{SymbolMap}
use Rattle.asm_relax.specs.Settling.{LaidItem, LaidSections}
use Rattle.elf_file.specs.Sections.{SectionEntry}
use Rattle.elf_object.specs.Image.{image_of}
use Rattle.elf_object.specs.Places.{section_offset}
use Rattle.elf_object.specs.Sections.{source_section}
use Rattle.object_laws.specs.FileReading.{SectionRead}
use Rattle.object_laws.specs.ObjectLimits.{ObjectFits}
use Rattle.object_laws.specs.SymbolReading.{header_index}

-- the header of this index says what the section is, and by sh_offset that its bytes begin at this offset of the file
pub record SectionFound (file : List ℕ) (index : ℕ) (s : SectionEntry) (offset : ℕ) : Type 0 where
  pub read : SectionRead file index s
  pub begins : read.header.offset ≡ offset

-- so each section of the source is found by its header, with its bytes where they stand in the file
abbrev pub SectionsFound : SymbolMap → LaidSections → Type 0
SectionsFound symbols sections =
    (number : ℕ) (section : SectionOf LaidItem) → slice_get sections number ≡ Some section
    → SectionFound (image_of symbols sections) (header_index symbols sections number) (source_section symbols sections section) (section_offset symbols sections number)

-- in each object whose numbers fit
abbrev pub SourceSectionsFound : Type 0
SourceSectionsFound = (symbols : SymbolMap) (sections : LaidSections) → ObjectFits symbols sections → SectionsFound symbols sections
