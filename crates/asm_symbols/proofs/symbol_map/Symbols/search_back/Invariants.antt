-- The names of all that was seen before the place are seen.
use Rattle.std.proofs.Common.{◌-◌, length}
use Rattle.asm_symbols.proofs.SearchLemmas.{IsSearching}
use Rattle.asm_symbols.proofs.symbol_map.Symbols.search_back.Given as goal

abbrev pub invariant-symbols : goal.invariant-symbols
invariant-symbols l = IsSearching l.self.symbols l.form l.id l.seen.keys l.at

abbrev pub decreases-symbols : goal.decreases-symbols
decreases-symbols l = length l.self.symbols - l.at
