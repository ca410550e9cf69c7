-- An operator makes a number of two.
use Rattle.asm_base.specs.Tokens.{spelled}
use Rattle.asm_operands.proofs.TreeCounts.{joined_found}
use Rattle.asm_operands.proofs.leaves.NumbersLeaves.joined.Goals as goal

pub returns : goal.returns
returns c = joined_found (spelled c.args.operator.now) c.args.left c.args.right c.operator_value.result c.operator_value.ensures
