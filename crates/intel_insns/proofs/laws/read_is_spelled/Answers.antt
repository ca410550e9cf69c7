-- The layer below tells of operands.
use Rattle.intel_insns.proofs.ReadInsns.{insn_spelled}
use Rattle.intel_insns.proofs.laws.read_is_spelled.Goals as goal

pub returns : goal.returns
returns c = insn_spelled c.read_is_spelled.ensures
