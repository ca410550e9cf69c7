-- Aliases: assigned symbols that stand for one other symbol (GNU as, ".set" and ".type").
use Rattle.std.specs.Prelude.{ℕ, zero, suc, ◌==◌, List, [], ◌∷◌, length, Option, None, Some, slice_get, option_and_then, if◌then◌else◌}
use Rattle.std.specs.Option.{option_or}
use Rattle.asm_expr.specs.declared.forms.Term.{Term}
use Rattle.asm_expr.specs.Forms.{Form}
use Rattle.asm_symbols.specs.declared.entries.Kind.{Kind}
use Rattle.asm_symbols.specs.declared.entries.Meaning.{Meaning}
use Rattle.asm_symbols.specs.declared.entries.Symbol.{Symbol}
use Rattle.asm_symbols.specs.Assigning.{form_of}
use Rattle.asm_symbols.specs.SymbolMap.{SymbolMap}

-- the symbol that a form has alone
abbrev pub lone_symbol : List Term → Option ℕ
lone_symbol [] = None
lone_symbol (term ∷ []) = if term.coefficient == 1 then Some term.symbol else None
lone_symbol (one ∷ other ∷ more) = None

-- the symbol of a form that is one symbol and no number
abbrev pub symbol_in : Form → Option ℕ
symbol_in form = if form.constant == 0 then lone_symbol form.terms else None

-- where the symbol stands that one of this meaning is an alias of
abbrev pub alias_of : Meaning → Option ℕ
alias_of meaning = option_and_then symbol_in (form_of meaning)

-- where the symbol stands that the one at this index is an alias of
abbrev pub alias_at : SymbolMap → ℕ → Option ℕ
alias_at map index = option_and_then (λ symbol. alias_of symbol.meaning) (slice_get map.symbols index)

-- what is said first, along a chain of at most so many symbols that begins at this index
unfoldable pub said_along : {T : Type 0} → (Symbol → Option T) → SymbolMap → ℕ → Option ℕ → Option T
said_along said map zero index = None
said_along said map (suc more) None = None
said_along said map (suc more) (Some index) =
    option_or (option_and_then said (slice_get map.symbols index)) (said_along said map more (alias_at map index))

-- what is said of the symbol, or else first along the symbols that it is an alias of; no chain has more than there are
abbrev pub said_of : {T : Type 0} → (Symbol → Option T) → SymbolMap → Symbol → Option T
said_of said map symbol = option_or (said symbol) (said_along said map (length map.symbols) (alias_of symbol.meaning))

-- an alias has its symbol's type where it has no `.type` of its own
unfoldable pub symbol_kind : SymbolMap → Symbol → Option Kind
symbol_kind map symbol = said_of (λ s. s.kind) map symbol

-- an alias has its symbol's size where it has no `.size` of its own
unfoldable pub symbol_size : SymbolMap → Symbol → Option Form
symbol_size map symbol = said_of (λ s. s.size) map symbol
