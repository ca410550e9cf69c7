-- The layer below tells of operands.
use Rattle.intel_insns.proofs.SpelledInsns.{one_insn}
use Rattle.intel_insns.proofs.laws.one_insn.Goals as goal

pub returns : goal.returns
returns c = one_insn c.spelled_is_read.ensures
