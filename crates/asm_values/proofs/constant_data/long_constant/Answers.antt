-- The operand in front ends where it should.
use Rattle.asm_values.proofs.OperandEnds.{number_at}
use Rattle.asm_values.proofs.constant_data.long_constant.Goals as goal

pub returns-then-ends_at : goal.returns-then-ends_at
returns-then-ends_at c = number_at c.args.tokens.now c.args.at c.in_ok-front.front c.requires c.in_ok-front.ensures c.if-ends_at.ensures
