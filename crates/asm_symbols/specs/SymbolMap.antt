-- The symbol map: the symbols in the order in which they were first named, and what is known of each.
use Rattle.std.specs.Prelude.{ℕ, zero, suc, ◌+◌, List, [], ◌∷◌, map, Option, None, Some, option_map, if◌then◌else◌}
use Rattle.asm_expr.specs.declared.naming.Name.{Name}
use Rattle.asm_expr.specs.Names.{same_name}
use Rattle.asm_symbols.specs.declared.entries.Symbol.{Symbol}
use Rattle.asm_symbols.specs.declared.entries.Meaning.{Meaning}

-- the symbols, the names of files, for each numeric label that is defined how often it is, and how many sizes were said
pub record SymbolMap : Type 0 where
  pub symbols : List Symbol
  pub files : List Name
  pub counts : List (ℕ × ℕ)
  pub sizes : ℕ

-- the map at the beginning of a source
abbrev pub nothing_named : SymbolMap
nothing_named = record { symbols = []; files = []; counts = []; sizes = 0 }

-- the names of symbols, in the order in which they were first named
abbrev pub names : List Symbol → List Name
names symbols = map (λ symbol. symbol.name) symbols

-- where the name stands
abbrev pub index_of : Name → List Name → Option ℕ
index_of name [] = None
index_of name (first ∷ rest) = if same_name name first then Some 0 else option_map (λ index. index + 1) (index_of name rest)

-- the symbols where the one at this index is changed so
unfoldable pub changed : (Symbol → Symbol) → List Symbol → ℕ → List Symbol
changed change [] index = []
changed change (symbol ∷ rest) zero = change symbol ∷ rest
changed change (symbol ∷ rest) (suc index) = symbol ∷ changed change rest index

-- the map where the symbol at this index is changed so
abbrev pub with_symbol : (Symbol → Symbol) → SymbolMap → ℕ → SymbolMap
with_symbol change map index = record map { symbols = changed change map.symbols index }

-- a symbol that is something else now
abbrev pub with_meaning : Meaning → Symbol → Symbol
with_meaning meaning symbol = record symbol { meaning = meaning }
