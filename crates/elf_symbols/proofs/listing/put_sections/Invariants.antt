-- The entries so far, and those to come, are all.
use Rattle.std.proofs.Common.{◌≡◌, ◌++◌, drop, map}
use Rattle.elf_symbols.specs.SymbolTable.{section_entries}
use Rattle.elf_symbols.specs.Views.{symbol_view}
use Rattle.elf_symbols.proofs.listing.put_sections.Given as goal

abbrev pub invariant-loop-number : goal.invariant-loop-number
invariant-loop-number l =
    map symbol_view l.out.items ++ section_entries l.number (drop l.number l.marks) ≡ map symbol_view l.fn.out.items ++ section_entries 0 l.marks
