-- What is said first along the rest of the chain is said of the symbol.
use Rattle.std.proofs.Common.{◌≡◌}
use Rattle.elf_symbols.specs.Aliases.{said_along, symbol_size}
use Rattle.elf_symbols.proofs.aliases.symbol_size.Given as goal

abbrev pub invariant-loop-left : goal.invariant-loop-left
invariant-loop-left l = said_along (λ s. s.size) l.symbols l.left l.next ≡ symbol_size l.symbols l.symbol

abbrev pub decreases-loop-left : goal.decreases-loop-left
decreases-loop-left l = l.left
