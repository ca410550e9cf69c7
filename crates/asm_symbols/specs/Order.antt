-- The order in which symbols are first named.
use Rattle.std.specs.Prelude.{◌≡◌, length, take}
use Rattle.asm_symbols.specs.SymbolMap.{SymbolMap, names}

-- the names before are the first of the names after
abbrev pub KeepsOrder : SymbolMap → SymbolMap → Type 0
KeepsOrder before after = take (length before.symbols) (names after.symbols) ≡ names before.symbols
