-- An expression has the faults that the layer below tells, and one that has none is read as it is written.
use Rattle.att_operands.proofs.FailsRefused.{has_fault_exactly}
use Rattle.att_operands.proofs.laws.faults_of_an_operand.Goals as goal

pub returns : goal.returns
returns c = has_fault_exactly c.faults_of_an_expression.ensures c.written_is_read.ensures c.read_is_written.ensures
