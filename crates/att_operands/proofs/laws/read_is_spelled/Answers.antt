-- An expression that is read is written.
use Rattle.att_operands.proofs.ReadOperands.{read_is_spelled}
use Rattle.att_operands.proofs.laws.read_is_spelled.Goals as goal

pub returns : goal.returns
returns c = read_is_spelled c.read_is_written.ensures
