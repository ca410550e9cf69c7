-- The entries so far, and those to come, are all.
use Rattle.std.proofs.Common.{◌≡◌, ◌++◌, drop, map}
use Rattle.asm_frags.specs.Groups.{groups_of}
use Rattle.elf_symbols.specs.SymbolTable.{signature_entries}
use Rattle.elf_symbols.specs.Views.{symbol_view}
use Rattle.elf_symbols.proofs.listing.put_signatures.Given as goal

abbrev pub invariant-loop-index : goal.invariant-loop-index
invariant-loop-index l =
    map symbol_view l.out.items ++ signature_entries l.at.symbols.now l.standings l.index (drop l.index (groups_of l.at.sections.now))
    ≡ map symbol_view l.fn.out.items ++ signature_entries l.at.symbols.now l.standings 0 (groups_of l.at.sections.now)
