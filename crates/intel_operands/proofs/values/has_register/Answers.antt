-- A test of the program's tokens is one of what they spell.
use Rattle.intel_sums.specs.Sums.{is_register}
use Rattle.intel_operands.specs.OperandTexts.{has_register}
use Rattle.intel_operands.proofs.SpelledTests.{any_spelled}
use Rattle.intel_operands.proofs.values.has_register.Goals as goal

pub returns : goal.returns
unfolding has_register
returns c = any_spelled is_register c.args.text.now c.any_register.result c.any_register.ensures
