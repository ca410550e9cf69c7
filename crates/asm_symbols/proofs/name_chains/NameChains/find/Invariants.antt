-- The name does not stand at a place of the chain that was passed.
use Rattle.std.proofs.Common.{◌+◌, length}
use Rattle.asm_symbols.specs.SymbolMap.{names}
use Rattle.asm_symbols.specs.NameChains.{sought_name}
use Rattle.asm_symbols.proofs.ChainLemmas.{IsSearching}
use Rattle.asm_symbols.proofs.name_chains.NameChains.find.Given as goal

abbrev pub invariant-chain : goal.invariant-chain
invariant-chain l = IsSearching (names l.symbols) l.self.hashes (length l.self.hashes + l.self.room) (sought_name l.sought) l.hash l.number

abbrev pub decreases-chain : goal.decreases-chain
decreases-chain l = l.number
