-- What a reader finds of the relocations of each object (gABI, chapter 4, "Relocation").
use Rattle.std.specs.Prelude.{◌≡◌, ℕ, ◌+◌, ◌<◌, ◌≤◌, List, length, Option, None, Some, slice_get, option_and_then}
use Rattle.asm_frags.specs.SectionOf.{SectionOf}
use Rattle.asm_symbols.specs.declared.entries.Symbol.{Symbol}
use Rattle.asm_symbols.specs.SymbolMap.{SymbolMap}
use Rattle.asm_relax.specs.Settling.{LaidItem, LaidSections}
use Rattle.elf_file.specs.declared.reader.RelocationRecord.{RelocationRecord}
use Rattle.elf_file.specs.Reader.{content_at, relocation_record}
use Rattle.elf_file.specs.Sections.{SectionEntry, relocation_section}
use Rattle.elf_symbols.specs.declared.targets.Target.{Target}
use Rattle.elf_symbols.specs.declared.targets.Target.TheVariants.{OfSection, OfSymbol}
use Rattle.elf_symbols.specs.Numbers.{numbers_of}
use Rattle.elf_symbols.specs.SymbolTable.{SymbolEntry, listed_all, section_entry, text_of}
use Rattle.elf_object.specs.declared.relocations.Relocation.{Relocation}
use Rattle.elf_object.specs.Contents.{relocations_of}
use Rattle.elf_object.specs.Image.{image_of}
use Rattle.elf_object.specs.Relocations.{kind_number}
use Rattle.elf_object.specs.Sections.{relocation_bytes}
use Rattle.elf_object.specs.TableLaws.{named_targets}
use Rattle.object_laws.specs.FileReading.{SectionRead}
use Rattle.object_laws.specs.ObjectLimits.{ObjectFits, symbol_table_index}
use Rattle.object_laws.specs.SymbolReading.{header_index, ObjectSymbolRead}

-- the relocations of the section of this number: sh_info is the index of that section's header, sh_link that of the symbol table's
abbrev pub relocations_section : SymbolMap → LaidSections → ℕ → SectionOf LaidItem → List Relocation → SectionEntry
relocations_section symbols sections number section own =
    relocation_section section.flags.0 (symbol_table_index symbols sections) (header_index symbols sections number) section.name
    (relocation_bytes (numbers_of symbols sections (named_targets symbols sections)) own)

-- behind the header of each section with relocations stands that of its relocations
abbrev pub RelocationTablesRead : Type 0
RelocationTablesRead = (symbols : SymbolMap) (sections : LaidSections) (number : ℕ) (section : SectionOf LaidItem) (own : List Relocation) → ObjectFits symbols sections
    → slice_get sections number ≡ Some section → slice_get (relocations_of symbols sections) number ≡ Some own → 0 < length own
    → SectionRead (image_of symbols sections) (header_index symbols sections number + 1) (relocations_section symbols sections number section own)

-- the relocation of this index, where the section of relocations has the header of this index
abbrev pub read_relocation : List ℕ → ℕ → ℕ → Option RelocationRecord
read_relocation file table index = option_and_then (λ bytes. relocation_record bytes index) (content_at file table)

-- the entry is what a relocation means: the section's own symbol, or the symbol of that index, with its name
abbrev pub IsMeant : SymbolMap → LaidSections → Target → SymbolEntry → Type 0
IsMeant symbols sections (OfSection number) entry = entry ≡ section_entry number
IsMeant symbols sections (OfSymbol index) entry =
    (symbol : Symbol) × (slice_get symbols.symbols index ≡ Some symbol) × (entry.name ≡ text_of symbol.name)
    × (slice_get (listed_all symbols sections (named_targets symbols sections)) index ≡ Some (Some entry))

-- the relocation of this index has the offset, type and addend of that one, and its number leads to the symbol that it
-- means
pub record RelocationRead (symbols : SymbolMap) (sections : LaidSections) (table index : ℕ) (r : Relocation) : Type 0 where
  pub relocation : RelocationRecord
  pub found : read_relocation (image_of symbols sections) table index ≡ Some relocation
  pub offset : relocation.offset ≡ r.offset
  pub kind : relocation.kind ≡ kind_number r.kind
  pub addend : relocation.addend ≡ r.addend
  pub entry : SymbolEntry
  pub meant : IsMeant symbols sections r.target entry
  pub symbol : ObjectSymbolRead symbols sections relocation.symbol entry

-- so for each relocation of each section
abbrev pub RelocationsRead : Type 0
RelocationsRead = (symbols : SymbolMap) (sections : LaidSections) (number index : ℕ) (section : SectionOf LaidItem) (own : List Relocation) (r : Relocation)
    → ObjectFits symbols sections → slice_get sections number ≡ Some section → slice_get (relocations_of symbols sections) number ≡ Some own
    → slice_get own index ≡ Some r → RelocationRead symbols sections (header_index symbols sections number + 1) index r

-- there are no other relocations of the section
abbrev pub RelocationsEnd : Type 0
RelocationsEnd = (symbols : SymbolMap) (sections : LaidSections) (number index : ℕ) (section : SectionOf LaidItem) (own : List Relocation)
    → ObjectFits symbols sections → slice_get sections number ≡ Some section → slice_get (relocations_of symbols sections) number ≡ Some own
    → 0 < length own → length own ≤ index → read_relocation (image_of symbols sections) (header_index symbols sections number + 1) index ≡ None
