-- What is found in the sizes so far, and in those that follow, is found in all.
use Rattle.std.proofs.Common.{◌≡◌, drop}
use Rattle.asm_uses.specs.Tables.{said_last, last_sized}
use Rattle.asm_uses.proofs.tables.SymbolUses.sized.Given as goal

abbrev pub invariant-loop-said : goal.invariant-loop-said
invariant-loop-said l = said_last l.last l.index (drop l.said-index l.self.sized) ≡ last_sized l.index l.self.sized
