-- What a table adds to the sections and to the symbols, and what stays.
use Rattle.std.specs.Prelude.{◌≡◌, ℕ, ◌⊎◌, List, [], ◌∷◌, ◌++◌, All, codes, map, Some, Ok, slice_get}
use Rattle.asm_frags.specs.Groups.{groups_of}
use Rattle.asm_frags.specs.SectionOf.{section_number}
use Rattle.asm_frags.specs.Writing.{LooseSection}
use Rattle.asm_symbols.specs.declared.entries.Symbol.{Symbol}
use Rattle.asm_symbols.specs.Interning.{name_size, names_size}
use Rattle.section_laws.specs.Within.{IsWithin}
use Rattle.line_directives.specs.Taking.{LineTable}
use Rattle.table_pieces.specs.Labels.{GetsLabels}
use Rattle.table_pieces.specs.Pieces.{Tables}
use Rattle.table_pieces.specs.Standing.{AllExtend}
use Rattle.line_table.specs.Placing.{placed}

-- the names of sections, in their order
abbrev pub section_names : List LooseSection → List (List ℕ)
section_names sections = map (λ section. section.name) sections

-- the types of sections, in their order
abbrev pub section_kinds : List LooseSection → List ℕ
section_kinds sections = map (λ section. section.kind) sections

-- the sections have their names and types, and there is at most one more, `.debug_line`, of type SHT_PROGBITS; groups stay; symbols whose names take no bytes are put
-- last, and files stay, so that all names take as many bytes as before
pub record AddsLittle (before after : Tables) : Type 0 where
  pub sections : (section_names after.sections ≡ section_names before.sections) ⊎ (section_names after.sections ≡ section_names before.sections ++ codes ".debug_line" ∷ [])
  pub kinds : (section_kinds after.sections ≡ section_kinds before.sections) ⊎ (section_kinds after.sections ≡ section_kinds before.sections ++ 1 ∷ [])
  pub groups : groups_of after.sections ≡ groups_of before.sections
  pub labels : List Symbol
  pub all : after.symbols.symbols ≡ before.symbols.symbols ++ labels
  pub without_bytes : All (λ label. name_size label.name ≡ 0) labels
  pub files : after.symbols.files ≡ before.symbols.files
  pub size : names_size after.symbols ≡ names_size before.symbols

-- so much does any table add
abbrev pub TablesAddLittle : Type 0
TablesAddLittle = (lines : LineTable) (tables after : Tables) → placed lines tables ≡ Ok after → AddsLittle tables after

-- each section but `.debug_line` is as it was; all stay, with more behind; and labels of places alone are added to the symbols
pub record StaysBeside (before after : Tables) : Type 0 where
  pub others : (number : ℕ) (held : LooseSection) → slice_get before.sections number ≡ Some held
      → (section_number (codes ".debug_line") before.sections ≡ Some number → ⊥) → slice_get after.sections number ≡ Some held
  pub grows : AllExtend before.sections after.sections
  pub gets : GetsLabels before.symbols after.symbols

-- so it is behind any table, and items and fields stand within their sections as before
pub record OthersStay : Type 0 where
  pub stays : (lines : LineTable) (tables after : Tables) → placed lines tables ≡ Ok after → StaysBeside tables after
  pub within : (lines : LineTable) (tables after : Tables) → placed lines tables ≡ Ok after → All IsWithin tables.sections → All IsWithin after.sections
