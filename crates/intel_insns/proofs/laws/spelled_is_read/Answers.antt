-- The layer below tells of operands.
use Rattle.intel_insns.proofs.SpelledInsns.{insn_reads}
use Rattle.intel_insns.proofs.laws.spelled_is_read.Goals as goal

pub returns : goal.returns
returns c = insn_reads c.spelled_is_read.ensures
