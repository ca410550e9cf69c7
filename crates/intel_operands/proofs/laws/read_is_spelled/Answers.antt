-- The layers below tell of values and of sums.
use Rattle.intel_operands.proofs.ReadIsSpelled.{read_is_spelled}
use Rattle.intel_operands.proofs.laws.read_is_spelled.Goals as goal

pub returns : goal.returns
returns c = read_is_spelled c.sums_are_read.ensures.written c.values_are_read.ensures.written
