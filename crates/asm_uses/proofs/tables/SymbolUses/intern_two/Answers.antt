-- The first sum stands for what it stood for when the names of the second are symbols.
use Rattle.asm_operands.specs.Sums.{sum_tree}
use Rattle.asm_uses.proofs.SumNames.{named_stays}
use Rattle.asm_uses.proofs.tables.SymbolUses.intern_two.Goals as goal

pub returns-clause-one : goal.returns-clause-one
returns-clause-one c = named_stays c.args.pos (sum_tree c.args.other.now) _ _ c.args.sum.now _ c.in_ok-another.ensures.ok c.in_ok-one.ensures.named
