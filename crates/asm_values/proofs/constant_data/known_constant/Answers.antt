-- What is known as a number ends where the operand ends.
use Rattle.asm_values.proofs.OperandEnds.{known_at}
use Rattle.asm_values.proofs.constant_data.known_constant.Goals as goal

pub returns-then-ends_at : goal.returns-then-ends_at
returns-then-ends_at c = known_at c.args.view.now c.args.tokens.now c.args.at _ c.in_ok-front.front c.requires c.in_ok-front.ensures c.in-Number.is c.if-ends_at.ensures
