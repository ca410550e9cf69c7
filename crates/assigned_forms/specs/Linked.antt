-- What is left to the linker: a weak symbol that is assigned a place of this object. Another object may define the symbol too, and then that
-- definition counts; so fields name the symbol itself.
use Rattle.std.specs.Prelude.{◌≡◌, ◌⊎◌, ℕ, ◌==◌, ◌&&◌, Bool, true, false, List, [], ◌∷◌, map, Option, None, Some, option_map, is_some, slice_get}
use Rattle.std.specs.Option.{option_map_or}
use Rattle.asm_expr.specs.declared.forms.Term.{Term}
use Rattle.asm_expr.specs.Forms.{Form}
use Rattle.asm_symbols.specs.declared.entries.Meaning.{Meaning}
use Rattle.asm_symbols.specs.declared.entries.Meaning.TheVariants as meaning
use Rattle.asm_symbols.specs.declared.entries.Symbol.{Symbol}
use Rattle.asm_symbols.specs.Assigning.{form_of, IsNamedIn}
use Rattle.asm_symbols.specs.Attributes.{is_weak}
use Rattle.asm_symbols.specs.SymbolMap.{SymbolMap}
use Rattle.assigned_forms.specs.Expanding.{expanded}
use Rattle.assigned_forms.specs.Opened.{opened_if}

-- a label or space of this object
abbrev pub has_place : Meaning → Bool
has_place meaning.Undefined = false
has_place (meaning.Label spot) = true
has_place (meaning.Common size align) = false
has_place (meaning.Space spot) = true
has_place (meaning.Assigned form) = false

-- the symbol at this index is a label or space of this object
abbrev pub is_placed : SymbolMap → ℕ → Bool
is_placed map index = option_map_or (λ symbol. has_place symbol.meaning) (slice_get map.symbols index) false

-- the terms are a label or space of this object, once
abbrev pub is_one_place : SymbolMap → List Term → Bool
is_one_place map [] = false
is_one_place map (term ∷ []) = (term.coefficient == 1) && is_placed map term.symbol
is_one_place map (one ∷ other ∷ more) = false

-- the expanded form, if it is there, is a place of this object and a number
abbrev pub comes_to_place : SymbolMap → Option Form → Bool
comes_to_place map None = false
comes_to_place map (Some made) = is_one_place map made.terms

-- the symbol is weak and assigned
abbrev pub is_weak_assigned : Symbol → Bool
is_weak_assigned symbol = is_weak symbol.binding && is_some (form_of symbol.meaning)

-- a weak alias: a weak symbol whose last form comes to a place of this object and a number
abbrev pub is_weak_alias : SymbolMap → Symbol → Bool
is_weak_alias map symbol = is_weak symbol.binding && comes_to_place map (option_map (expanded map) (form_of symbol.meaning))

-- the map, in which weak aliases are undefined
unfoldable pub linked_map : SymbolMap → SymbolMap
linked_map symbols = record symbols { symbols = map (λ symbol. opened_if (is_weak_alias symbols symbol) symbol) symbols.symbols }

-- the form of a field, with each assigned symbol but weak aliases replaced by the expansion of its form
unfoldable pub linked : SymbolMap → Form → Form
linked symbols made = expanded (linked_map symbols) made

-- the symbol is no assigned one, or a weak alias
abbrev pub IsLinkedSymbol : SymbolMap → Symbol → Type 0
IsLinkedSymbol map symbol = (is_some (form_of symbol.meaning) ≡ false) ⊎ (is_weak_alias map symbol ≡ true)

-- the form names no assigned symbol but weak aliases
abbrev pub NamesLinked : SymbolMap → Form → Type 0
NamesLinked map made = (index : ℕ) (symbol : Symbol) → IsNamedIn made.terms index → slice_get map.symbols index ≡ Some symbol → IsLinkedSymbol map symbol
