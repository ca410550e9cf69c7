-- The layers below tell of values and of sums.
use Rattle.intel_operands.proofs.Faults.{has_fault_exactly}
use Rattle.intel_operands.proofs.laws.faults_of_an_operand.Goals as goal

pub returns : goal.returns
returns c = has_fault_exactly c.sums_are_read.ensures.read c.sums_are_read.ensures.written c.values_are_read.ensures.read c.values_are_read.ensures.written c.faults_of_a_value.ensures.fail c.faults_of_a_value.ensures.refused
