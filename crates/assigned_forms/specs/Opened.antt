-- Symbols of which some count as undefined: no form stands for them.
use Rattle.std.specs.Prelude.{Bool, true, false, List, [], ◌∷◌}
use Rattle.asm_symbols.specs.declared.entries.Meaning.TheVariants.{Undefined}
use Rattle.asm_symbols.specs.declared.entries.Symbol.{Symbol}
use Rattle.asm_symbols.specs.SymbolMap.{SymbolMap, with_meaning}

-- the symbol, undefined where that is so
abbrev pub opened_if : Bool → Symbol → Symbol
opened_if true symbol = with_meaning Undefined symbol
opened_if false symbol = symbol

-- the symbols, of which those that are marked are undefined; behind the marks none is
abbrev pub all_opened : List Bool → List Symbol → List Symbol
all_opened [] symbols = symbols
all_opened (mark ∷ marks) [] = []
all_opened (mark ∷ marks) (symbol ∷ symbols) = opened_if mark symbol ∷ all_opened marks symbols

-- the map, in which the symbols that are marked are undefined
unfoldable pub opened : SymbolMap → List Bool → SymbolMap
opened map marks = record map { symbols = all_opened marks map.symbols }
