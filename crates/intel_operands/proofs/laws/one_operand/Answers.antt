-- The layers below tell of values and of sums.
use Rattle.intel_operands.proofs.SpelledIsRead.{one_operand}
use Rattle.intel_operands.proofs.laws.one_operand.Goals as goal

pub returns : goal.returns
returns c = one_operand c.sums_are_read.ensures.read c.values_are_read.ensures.read
