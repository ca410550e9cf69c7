-- All terms make of the symbols seen at first what those to come make of the symbols seen so far.
use Rattle.std.proofs.Common.{◌≡◌, drop, length}
use Rattle.asm_symbols.specs.Searching.{seen_with}
use Rattle.asm_symbols.proofs.symbol_map.Symbols.see.Given as goal

abbrev pub invariant-loop-term : goal.invariant-loop-term
invariant-loop-term l = seen_with (length l.self.symbols) l.id l.terms l.initial.seen.keys ≡ seen_with (length l.self.symbols) l.id (drop l.term-index l.terms) l.seen.keys
