-- A prefix operator makes a number of a number.
use Rattle.asm_operands.proofs.TreeCounts.{turned_found}
use Rattle.asm_operands.proofs.leaves.NumbersLeaves.turned.Goals as goal

pub returns : goal.returns
returns c = turned_found _ _ _ c.turned.ensures
