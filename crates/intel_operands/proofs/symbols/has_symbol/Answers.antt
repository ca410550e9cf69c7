-- A test of the program's tokens is one of what they spell.
use Rattle.intel_operands.specs.Symbols.{is_symbol}
use Rattle.intel_operands.specs.Symbols.{has_symbol}
use Rattle.intel_operands.proofs.SpelledTests.{any_spelled}
use Rattle.intel_operands.proofs.symbols.has_symbol.Goals as goal

pub returns : goal.returns
unfolding has_symbol
returns c = any_spelled is_symbol c.args.text.now c.any_symbol.result c.any_symbol.ensures
