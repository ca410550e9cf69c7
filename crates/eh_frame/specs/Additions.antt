-- What a table adds to the sections and to the symbols.
use Rattle.std.specs.Prelude.{◌≡◌, ℕ, ◌⊎◌, List, [], ◌∷◌, ◌++◌, All, codes, map, Ok}
use Rattle.asm_frags.specs.Groups.{groups_of}
use Rattle.asm_frags.specs.Writing.{LooseSection}
use Rattle.asm_symbols.specs.declared.entries.Symbol.{Symbol}
use Rattle.asm_symbols.specs.Interning.{name_size, names_size}
use Rattle.cfi_directives.specs.declared.frames.Frame.{Frame}
use Rattle.table_pieces.specs.Pieces.{Tables}
use Rattle.eh_frame.specs.Placing.{placed}

-- the names of sections, in their order
abbrev pub section_names : List LooseSection → List (List ℕ)
section_names sections = map (λ section. section.name) sections

-- the types of sections, in their order
abbrev pub section_kinds : List LooseSection → List ℕ
section_kinds sections = map (λ section. section.kind) sections

-- the sections have their names and types, and there is at most one more, `.eh_frame`, of type SHT_PROGBITS; groups stay; symbols whose names take no bytes are put
-- last, and files stay, so that all names take as many bytes as before
pub record AddsLittle (before after : Tables) : Type 0 where
  pub sections : (section_names after.sections ≡ section_names before.sections) ⊎ (section_names after.sections ≡ section_names before.sections ++ codes ".eh_frame" ∷ [])
  pub kinds : (section_kinds after.sections ≡ section_kinds before.sections) ⊎ (section_kinds after.sections ≡ section_kinds before.sections ++ 1 ∷ [])
  pub groups : groups_of after.sections ≡ groups_of before.sections
  pub labels : List Symbol
  pub all : after.symbols.symbols ≡ before.symbols.symbols ++ labels
  pub without_bytes : All (λ label. name_size label.name ≡ 0) labels
  pub files : after.symbols.files ≡ before.symbols.files
  pub size : names_size after.symbols ≡ names_size before.symbols

-- so much does any table add
abbrev pub TablesAddLittle : Type 0
TablesAddLittle = (frames : List Frame) (tables after : Tables) → placed frames tables ≡ Ok after → AddsLittle tables after
