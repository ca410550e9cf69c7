-- Pointers to one symbol and a number more.
use Rattle.std.specs.Prelude.{◌≡◌, ℕ, ◌<◌, ◌≤◌, [], ◌∷◌, length, None}
use Rattle.asm_expr.specs.Forms.{term_of}
use Rattle.asm_frags.specs.Fields.{own_place}
use Rattle.asm_frags.specs.SectionOf.{SectionOf}
use Rattle.asm_symbols.specs.Assigning.{form_at}
use Rattle.asm_symbols.specs.SymbolMap.{SymbolMap}
use Rattle.asm_relax.specs.Settling.{LaidItem, LaidSections}
use Rattle.cfi_directives.specs.declared.frames.Pointer.{Pointer}
use Rattle.cfi_rows.specs.Pointers.{is_relative}
use Rattle.eh_frame.specs.Commons.{pointer_field, pointer_form}
use Rattle.piece_laws.specs.Pointers.{one_symbol, HoldsForm}

-- the pointer leads to this symbol and a number more, and the symbol is no assigned one
pub record LeadsToSymbol (map : SymbolMap) (pointer : Pointer) (symbol : ℕ) : Type 0 where
  pub few : length map.symbols ≤ own_place
  pub there : symbol < length map.symbols
  pub unassigned : form_at map.symbols symbol ≡ None
  pub terms : pointer.target.terms ≡ term_of symbol 1 ∷ []

-- the field of such a pointer is of the symbol, less its own place exactly where the encoding counts from there: where the linker fills it (`LinkerFills`), its
-- relocation is by its size R_X86_64_PC64 or R_X86_64_PC32 there, and else R_X86_64_64 or R_X86_64_32
abbrev pub SymbolsAreNamed : Type 0
SymbolsAreNamed = (map : SymbolMap) (laid : LaidSections) (number : ℕ) (section : SectionOf LaidItem) (offset : ℕ) (pointer : Pointer) (symbol : ℕ)
    → LeadsToSymbol map pointer symbol → (held : HoldsForm map laid number section offset (pointer_field pointer.encoding) (pointer_form pointer))
    → held.field.form.terms ≡ one_symbol symbol (is_relative pointer.encoding)
