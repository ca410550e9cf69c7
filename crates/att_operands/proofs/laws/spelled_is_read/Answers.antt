-- A text of an expression is read as it.
use Rattle.att_operands.proofs.SpelledWhole.{operand_reads}
use Rattle.att_operands.proofs.laws.spelled_is_read.Goals as goal

pub returns : goal.returns
returns c = operand_reads c.written_is_read.ensures
