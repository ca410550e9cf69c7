-- The objects of small sources have few headers, symbols and names (gABI, chapter 4, "Data Representation" and "Special Section Indexes").
use Rattle.std.specs.Prelude.{◌≡◌, ℕ, ◌+◌, ◌-◌, ◌*◌, ◌^◌, ◌<◌, ◌≤◌, All, length, Some, slice_get}
use Rattle.asm_frags.specs.Groups.{HasShortSignature, counted, groups_of}
use Rattle.asm_frags.specs.SectionOf.{SectionOf}
use Rattle.asm_symbols.specs.Interning.{names_size}
use Rattle.asm_symbols.specs.SymbolMap.{SymbolMap}
use Rattle.asm_relax.specs.Settling.{LaidItem, LaidSections}
use Rattle.elf_object.specs.Limits.{NumbersFit}
use Rattle.object_laws.specs.ObjectLimits.{ObjectFits, symbol_table_index}
use Rattle.object_laws.specs.SymbolReading.{header_index}

-- there are at most 30,005 sections and groups, the names of sections and the signatures of groups have at most 2^16 bytes, there are so few symbols and files that
-- their entries can be counted beside those of sections, and names of symbols and files take at most 2^31 bytes
pub record IsSmallSource (symbols : SymbolMap) (sections : LaidSections) : Type 0 where
  pub section_count : counted sections ≤ 30005
  pub section_names : All (λ section. length section.name ≤ 2 ^ 16) sections
  pub signatures : All HasShortSignature (groups_of sections)
  pub symbol_count : length symbols.symbols + length symbols.files < 2 ^ 32 - 2 ^ 17
  pub name_bytes : names_size symbols ≤ 2 ^ 31

-- the first index of a header that is reserved: SHN_LORESERVE
abbrev pub first_reserved : ℕ
first_reserved = 0xff00

-- the headers of the file are those up to that of the symbol table, and those of the names of symbols and of sections behind it: one for each group, at
-- most two for each section, and four more; so the index of a section, which st_shndx has for the symbols in it, is neither 0 nor a reserved one
pub record HasFewHeaders (symbols : SymbolMap) (sections : LaidSections) : Type 0 where
  pub count : symbol_table_index symbols sections + 3 ≤ 2 * 30005 + 4
  pub all : symbol_table_index symbols sections + 3 < first_reserved
  pub own : (number : ℕ) (section : SectionOf LaidItem) → slice_get sections number ≡ Some section
      → (0 < header_index symbols sections number) × (header_index symbols sections number < first_reserved)

-- where the program's own numbers fit, all numbers of the object of a small source do
abbrev pub ObjectsFit : Type 0
ObjectsFit = (symbols : SymbolMap) (sections : LaidSections) → NumbersFit symbols sections → IsSmallSource symbols sections
    → ObjectFits symbols sections × HasFewHeaders symbols sections
