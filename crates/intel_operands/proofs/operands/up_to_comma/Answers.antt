-- What the program counts is counted of what its tokens spell.
use Rattle.intel_operands.specs.OperandTexts.{is_no_comma}
use Rattle.intel_operands.proofs.SpelledTests.{front_spelled}
use Rattle.intel_operands.proofs.operands.up_to_comma.Goals as goal

pub returns-clause-value : goal.returns-clause-value
returns-clause-value c = front_spelled is_no_comma c.args.tokens.now c.without_comma.result c.without_comma.ensures.value
