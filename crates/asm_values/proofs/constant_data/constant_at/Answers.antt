-- The operand is one token.
use Rattle.asm_values.proofs.OperandEnds.{single_at}
use Rattle.asm_values.proofs.constant_data.constant_at.Goals as goal

pub returns : goal.returns
returns c = single_at c.args.tokens.now c.args.at _ _ c.if-at-tokens.false c.in_ok-value.ensures c.if-not-ends_at.ensures
