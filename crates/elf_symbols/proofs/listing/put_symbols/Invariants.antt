-- The entries so far, and those to come, are all.
use Rattle.std.proofs.Common.{◌≡◌, ◌++◌, true, false, drop, map}
use Rattle.elf_symbols.specs.SymbolTable.{standing_of, part, listed_by}
use Rattle.elf_symbols.specs.Views.{symbol_view}
use Rattle.elf_symbols.proofs.listing.put_symbols.Given as goal

abbrev pub invariant-loop-index : goal.invariant-loop-index
invariant-loop-index l =
    let all = listed_by l.at.symbols.now l.at.sections.now l.marks l.threads l.symbols in
    let left = listed_by l.at.symbols.now l.at.sections.now (drop l.index l.marks) (drop l.index l.threads) (drop l.index l.symbols) in
    record {
      locals : map symbol_view l.locals.items ++ part true left ≡ map symbol_view l.fn.locals.items ++ part true all;
      others : map symbol_view l.others.items ++ part false left ≡ map symbol_view l.fn.others.items ++ part false all;
      standings : l.standings.items ++ map standing_of left ≡ map standing_of all;
    }
