-- A test of the program's tokens is one of what they spell.
use Rattle.intel_operands.specs.Symbols.{is_numeric, are_numbers}
use Rattle.intel_operands.proofs.SpelledTests.{all_spelled}
use Rattle.intel_operands.proofs.symbols.are_numbers.Goals as goal

pub returns : goal.returns
unfolding are_numbers
returns c = all_spelled is_numeric c.args.text.now c.all_numeric.result c.all_numeric.ensures
