-- The first sum stands for what it stood for when the names of the second are symbols.
use Rattle.asm_operands.specs.Sums.{long_tree}
use Rattle.asm_uses.proofs.LongSumLemmas.{long_stays}
use Rattle.asm_uses.proofs.tables.SymbolUses.intern_two_long.Goals as goal

pub returns-clause-one : goal.returns-clause-one
returns-clause-one c = long_stays c.args.pos (long_tree c.args.other.now) _ _ c.args.sum.now _ c.in_ok-another.ensures.ok c.in_ok-one.ensures.named
