-- A text of an expression is read as it, and one that is read is written.
use Rattle.att_operands.proofs.WholeValues.{values_are_read, values_are_written}
use Rattle.att_operands.proofs.laws.values_are_read.Goals as goal

pub returns-clause-read : goal.returns-clause-read
returns-clause-read c = values_are_read c.written_is_read.ensures

pub returns-clause-written : goal.returns-clause-written
returns-clause-written c = values_are_written c.read_is_written.ensures
