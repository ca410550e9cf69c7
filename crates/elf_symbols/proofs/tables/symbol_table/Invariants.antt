-- The tables so far, and what is to come, are the whole tables.
use Rattle.std.proofs.Common.{◌≡◌, ◌++◌, All, drop, length, map}
use Rattle.elf_symbols.specs.Limits.{SymbolFits}
use Rattle.elf_symbols.specs.SymbolTable.{symbol_names, symbol_table_of, all_symbol_bytes}
use Rattle.elf_file.specs.StringTable.{strings, string_table_of, name_offsets_after}
use Rattle.elf_symbols.specs.Views.{symbol_view}
use Rattle.elf_symbols.proofs.tables.symbol_table.Given as goal

abbrev pub invariant-loop-symbol : goal.invariant-loop-symbol
invariant-loop-symbol l = record {
  entries : l.table.entries.items ++ all_symbol_bytes l.headers
      (name_offsets_after (length l.table.strings.items) (symbol_names (map symbol_view (drop l.symbol-index l.symbols)))) (map symbol_view (drop l.symbol-index l.symbols))
      ≡ symbol_table_of l.headers (map symbol_view l.symbols);
  strings : l.table.strings.items ++ strings (symbol_names (map symbol_view (drop l.symbol-index l.symbols)))
      ≡ string_table_of (symbol_names (map symbol_view l.symbols));
  numbers : All SymbolFits (map symbol_view (drop l.symbol-index l.symbols)) → All SymbolFits (map symbol_view l.symbols);
}
