-- What the program counts is counted of what its tokens spell.
use Rattle.intel_operands.specs.Symbols.{is_numeric}
use Rattle.intel_operands.proofs.SpelledTests.{front_spelled}
use Rattle.intel_operands.proofs.symbols.numbers_in_front.Goals as goal

pub returns-clause-value : goal.returns-clause-value
returns-clause-value c = front_spelled is_numeric c.args.text.now c.front_numbers.result c.front_numbers.ensures.value
