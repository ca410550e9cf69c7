-- The symbol of a field, and how its relocation names it.
use Rattle.std.specs.Prelude.{◌≡◌, ℕ, ◌+◌, Bool, true, false, [], ◌∷◌, Option, Some, option_map, find, slice_get}
use Rattle.asm_expr.specs.Forms.{Form, term_of, wrapped}
use Rattle.asm_expr.specs.Knowledge.{label}
use Rattle.asm_expr.specs.Settled.{settled}
use Rattle.asm_frags.specs.declared.fields.Field.{Field}
use Rattle.asm_frags.specs.SectionOf.{SectionOf}
use Rattle.asm_symbols.specs.declared.entries.Symbol.{Symbol}
use Rattle.asm_symbols.specs.SymbolMap.{SymbolMap}
use Rattle.item_rows.specs.Links.{is_suffixed}
use Rattle.asm_relax.specs.FieldValues.{told_in_field}
use Rattle.asm_relax.specs.Final.{final_told}
use Rattle.asm_relax.specs.Settling.{LaidItem, LaidSections}
use Rattle.elf_symbols.specs.SymbolValues.{binding_of, is_local, is_flagged}
use Rattle.elf_symbols.specs.declared.targets.Target.TheVariants.{OfSection, OfSymbol}
use Rattle.elf_object.specs.declared.relocations.Relocation.{Relocation}
use Rattle.elf_object.specs.Relocations.{merge, is_plus, field_relocation}

-- what is left of the form of a field where the labels that cancel are taken out
abbrev pub form_left : SymbolMap → LaidSections → Field → Form
form_left map sections field = settled (told_in_field map sections field) field.form

-- the symbol whose address the field is to have: the first that counts once in what is left of its form
abbrev pub added_symbol : SymbolMap → LaidSections → Field → Option ℕ
added_symbol map sections field = option_map (λ term. term.symbol) (find is_plus (form_left map sections field).terms)

-- the symbol at this index is that of the field
pub record IsSymbolOf (map : SymbolMap) (sections : LaidSections) (field : Field) (index : ℕ) (symbol : Symbol) : Type 0 where
  pub added : added_symbol map sections field ≡ Some index
  pub there : slice_get map.symbols index ≡ Some symbol

-- the symbol is STB_LOCAL: no other object defines it or sees it
abbrev pub is_local_symbol : Symbol → Bool
is_local_symbol symbol = is_local (binding_of symbol.meaning symbol.binding)

-- the relocation names the symbol at this index: by itself where it is global or weak, since another object may define
-- it, where the field has a suffix, which asks for something of the symbol itself, and where it stands in a section with
-- SHF_MERGE, whose parts the linker may move; any other label is named by its section, so that S + A of a label and a
-- number is the label's address and the number
pub record NamesSymbol (map : SymbolMap) (sections : LaidSections) (field : Field) (index : ℕ) (symbol : Symbol) (r : Relocation) : Type 0 where
  pub global : is_local_symbol symbol ≡ false → r.target ≡ OfSymbol index
  pub suffixed : is_suffixed field.role.suffix ≡ true → r.target ≡ OfSymbol index
  pub merged : (number address : ℕ) → final_told map sections index ≡ label number address → is_flagged sections merge number ≡ true → r.target ≡ OfSymbol index
  pub other : (number address : ℕ) → final_told map sections index ≡ label number address → is_flagged sections merge number ≡ false
      → is_local_symbol symbol ≡ true → is_suffixed field.role.suffix ≡ false → r.target ≡ OfSection number
  pub own_name : (named : ℕ) → r.target ≡ OfSymbol named → named ≡ index
  pub own_section : (number : ℕ) → r.target ≡ OfSection number → (address : ℕ) × (final_told map sections index ≡ label number address)
      × ((form_left map sections field).terms ≡ term_of index 1 ∷ [] → r.addend ≡ wrapped (address + (form_left map sections field).constant))

-- each relocation is one of a field with a symbol, which it names
abbrev pub RelocationsNameSymbols : Type 0
RelocationsNameSymbols = (map : SymbolMap) (sections : LaidSections) (number : ℕ) (section : SectionOf LaidItem) (field : Field) (r : Relocation)
    → field_relocation map sections number section field ≡ Some r
    → (index : ℕ) × (symbol : Symbol) × IsSymbolOf map sections field index symbol × NamesSymbol map sections field index symbol r
