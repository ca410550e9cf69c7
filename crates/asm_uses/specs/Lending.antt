-- The symbol map of a table, lent.
use Rattle.std.specs.Borrow.{Lends, MutBor, Fml}
use Rattle.asm_symbols.specs.SymbolMap.{SymbolMap}
use Rattle.asm_symbols.specs.contracts.symbol_map.Symbols as symbols
use Rattle.asm_uses.specs.contracts.tables.SymbolUses as uses
use Rattle.asm_uses.specs.Tables.{Table, with_map}

-- the table ends with the map that is left behind the reference; where symbols are named, and where their sizes are said, stays
abbrev pub LendsMap : MutBor Table → MutBor SymbolMap → Fml
LendsMap table map = Lends uses.the_row symbols.the_row table map (λ left. with_map table.now left)
