-- The layer below tells of operands.
use Rattle.intel_insns.proofs.FaultsOfInsns.{has_fault_exactly}
use Rattle.intel_insns.proofs.laws.faults_of_an_insn.Goals as goal

pub returns : goal.returns
returns c = has_fault_exactly c.spelled_is_read.ensures c.read_is_spelled.ensures c.faults_of_an_operand.ensures
