-- A number is worth itself.
use Rattle.asm_operands.proofs.TreeCounts.{number_found}
use Rattle.asm_operands.proofs.leaves.NumbersLeaves.leaf.Goals as goal

pub returns : goal.returns
returns c = number_found _ _ c.leaf.ensures
