-- One more symbol is in the tables, and its numbers fit.
use Rattle.std.proofs.Common.{rules, arith}
use Rattle.std.proofs.lemmas.Grind.{common_steps}
use Rattle.elf_file.specs.StringTable.{string_table_of, name_offsets}
use Rattle.elf_symbols.specs.Limits.{SymbolFits}
use Rattle.elf_symbols.specs.SymbolTable.{symbol_names, symbol_table_of}
use Rattle.elf_symbols.specs.Views.{symbol_view}
use Rattle.elf_symbols.proofs.LoopSteps.{holds_next}
use Rattle.elf_symbols.proofs.tables.symbol_table.Goals as goal

pub loop-symbol-preserved : goal.loop-symbol-preserved
unfolding symbol_table_of symbol_names string_table_of name_offsets symbol_view
loop-symbol-preserved c = record {
  entries = first_of (search rules, grind (arith, common_steps));
  strings = first_of (search rules, grind (arith, common_steps));
  numbers = holds_next symbol_view SymbolFits c.args.symbols.now c.loop-symbol.symbol-index _ c.loop-symbol-test.true c.in_ok-put.ensures.numbers c.loop-symbol.invariant.numbers;
}
