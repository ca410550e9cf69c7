-- A value of one token.
use Rattle.std.proofs.Common.{map}
use Rattle.asm_base.specs.Tokens.{spelled}
use Rattle.intel_operands.proofs.UsualOperands.{word_is}
use Rattle.intel_operands.proofs.usual.whole_value.Goals as goal

pub returns-in-Some-word_value-clause-value : goal.returns-in-Some-word_value-clause-value
returns-in-Some-word_value-clause-value c =
    word_is c.args.is_branch (map spelled c.args.tokens.now) c.args.at (spelled c.in-Some.token.now) c.in-Some-word_value.value c.word_by-word.result
    c.in-Some.ensures.value c.in-Some-word_value.ensures c.word_by-word.ensures
