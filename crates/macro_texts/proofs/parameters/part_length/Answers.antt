-- All tokens are of one parameter.
use Rattle.std.proofs.Common.{arith}
use Rattle.macro_texts.proofs.ParameterLemmas.{end_part}
use Rattle.macro_texts.proofs.parameters.part_length.Goals as goal

pub returns-clause-value : goal.returns-clause-value
returns-clause-value c = end_part c.args.tokens.now c.loop-at.at (omega arith) (omega arith) c.loop-at.auto.at-end c.loop-at.invariant
