-- The layers below tell of values and of sums.
use Rattle.intel_operands.proofs.SpelledIsRead.{operand_reads}
use Rattle.intel_operands.proofs.laws.spelled_is_read.Goals as goal

pub returns : goal.returns
returns c = operand_reads c.sums_are_read.ensures.read c.values_are_read.ensures.read
