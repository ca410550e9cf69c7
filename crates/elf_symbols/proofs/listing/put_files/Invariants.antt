-- The entries so far, and those to come, are all.
use Rattle.std.proofs.Common.{◌≡◌, ◌++◌, drop, map}
use Rattle.elf_symbols.specs.SymbolTable.{file_entry}
use Rattle.elf_symbols.specs.Views.{symbol_view}
use Rattle.elf_symbols.proofs.listing.put_files.Given as goal

abbrev pub invariant-loop-name : goal.invariant-loop-name
invariant-loop-name l =
    map symbol_view l.out.items ++ map file_entry (drop l.name-index l.files) ≡ map symbol_view l.fn.out.items ++ map file_entry l.files
