-- The expansion of assigned symbols in forms: each is replaced by the expansion of the form that it was assigned last.
use Rattle.std.specs.Prelude.{◌≡◌, ℕ, zero, suc, Bool, true, false, ◌&&◌, not, List, [], ◌∷◌, length, map, drop, Option, None, Some, is_some, option_map, slice_get, if◌then◌else◌}
use Rattle.std.specs.Option.{option_flatten}
use Rattle.std.specs.List.{list_any}
use Rattle.asm_expr.specs.declared.forms.Term.{Term}
use Rattle.asm_expr.specs.Forms.{Form, constant_form, symbol_form, plus_times}
use Rattle.asm_symbols.specs.SymbolMap.{SymbolMap}
use Rattle.asm_symbols.specs.Assigning.{form_of, form_at, IsNamedIn}
use Rattle.asm_symbols.specs.declared.entries.Symbol.{Symbol}

-- the form that stands for a symbol, or else the symbol itself
abbrev pub form_or_symbol : ℕ → Option Form → Form
form_or_symbol symbol None = symbol_form symbol
form_or_symbol symbol (Some form) = form

-- what replaces a symbol: for an assigned one, what its last form becomes
abbrev pub replacement : (Form → Form) → SymbolMap → ℕ → Form
replacement becomes map symbol = form_or_symbol symbol (option_map becomes (form_at map.symbols symbol))

-- the form plus the terms, with their symbols replaced
unfoldable pub plus_terms : (ℕ → Form) → Form → List Term → Form
plus_terms replaces made [] = made
plus_terms replaces made (term ∷ terms) = plus_terms replaces (plus_times made term.coefficient (replaces term.symbol)) terms

-- the sum of the form's terms and its constant, with the symbols replaced
abbrev pub with_replaced : (ℕ → Form) → Form → Form
with_replaced replaces form = plus_terms replaces (constant_form form.constant) form.terms

-- the term is of an assigned symbol
abbrev pub is_assigned : SymbolMap → Term → Bool
is_assigned map term = is_some (form_at map.symbols term.symbol)

-- the form names an assigned symbol
abbrev pub names_assigned : SymbolMap → Form → Bool
names_assigned map form = list_any (is_assigned map) form.terms

-- the form, if it is there, names no assigned symbol
abbrev pub is_expanded : SymbolMap → Option Form → Bool
is_expanded map None = true
is_expanded map (Some form) = not (names_assigned map form)

-- the symbol is no assigned one
abbrev pub is_plain : Symbol → Bool
is_plain symbol = not (is_some (form_of symbol.meaning))

-- the symbol is no assigned one, or its form names none
abbrev pub stands_for_itself : SymbolMap → Symbol → Bool
stands_for_itself map symbol = is_expanded map (form_of symbol.meaning)

-- the form of each symbol, where it is an assigned one
abbrev pub own_forms : List Symbol → List (Option Form)
own_forms symbols = map (λ symbol. form_of symbol.meaning) symbols

-- the form expanded, in assigned symbols that lead to one another so far at most
unfoldable pub expanded_within : ℕ → SymbolMap → Form → Form
expanded_within zero map form = form
expanded_within (suc more) map form = if names_assigned map form then with_replaced (replacement (λ next. expanded_within more map next) map) form else form

-- the form with each assigned symbol replaced by the expansion of its form: no more of them than there are lead to one another
unfoldable pub expanded : SymbolMap → Form → Form
expanded map form = expanded_within (suc (length map.symbols)) map form

-- the expanded form of the symbol at this index, where it is an assigned one
abbrev pub expansion_at : SymbolMap → ℕ → Option Form
expansion_at map index = option_map (expanded map) (form_at map.symbols index)

-- the form that is there for the symbol at this index
abbrev pub entry_at : List (Option Form) → ℕ → Option Form
entry_at forms index = option_flatten (slice_get forms index)

-- the form names a symbol whose expanded form is there
abbrev pub names_expanded : List (Option Form) → Form → Bool
names_expanded forms form = list_any (λ term. is_some (entry_at forms term.symbol)) form.terms

-- each symbol has its expanded form, where it is an assigned one
pub record AreExpansions (map : SymbolMap) (forms : List (Option Form)) : Type 0 where
  pub each : (index : ℕ) → entry_at forms index ≡ expansion_at map index

-- there is room for each symbol, and the forms that are there are expanded ones
pub record ArePartly (map : SymbolMap) (forms : List (Option Form)) : Type 0 where
  pub long : length forms ≡ length map.symbols
  pub each : (index : ℕ) (form : Form) → entry_at forms index ≡ Some form → expansion_at map index ≡ Some form

-- the symbol is an assigned one whose expanded form is not there
abbrev pub awaits : SymbolMap → List (Option Form) → ℕ → Bool
awaits map forms index = is_some (form_at map.symbols index) && not (is_some (entry_at forms index))

-- the terms of the symbol at this index, if it is an assigned one
abbrev pub terms_of : Option Form → List Term
terms_of None = []
terms_of (Some form) = form.terms

-- the sum so far and the terms from this place on give the expanded form of the symbol
abbrev pub Expands : SymbolMap → ℕ → ℕ → Form → Type 0
Expands map index seen made = expansion_at map index ≡ Some (plus_terms (replacement (expanded map) map) made (drop seen (terms_of (form_at map.symbols index))))

-- the form of the symbol names this other one, whose expanded form is not there
pub record IsAwaited (map : SymbolMap) (forms : List (Option Form)) (index other : ℕ) : Type 0 where
  pub named : IsNamedIn (terms_of (form_at map.symbols index)) other
  pub missing : awaits map forms other ≡ true

-- what is not awaited before is not awaited after
abbrev pub KeepsForms : SymbolMap → List (Option Form) → List (Option Form) → Type 0
KeepsForms map before after = (index : ℕ) → awaits map before index ≡ false → awaits map after index ≡ false
