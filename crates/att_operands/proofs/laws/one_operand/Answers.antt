-- A text of an expression is read as it.
use Rattle.att_operands.proofs.SpelledWhole.{one_operand}
use Rattle.att_operands.proofs.laws.one_operand.Goals as goal

pub returns : goal.returns
returns c = one_operand c.written_is_read.ensures
