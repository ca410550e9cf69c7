-- A test of the program's tokens is one of what they spell.
use Rattle.std.proofs.Common.{Some, ◌==◌}
use Rattle.att_operands.specs.Marks.{mark_by}
use Rattle.intel_operands.specs.OperandTexts.{has_bracket}
use Rattle.intel_operands.proofs.SpelledTests.{any_spelled}
use Rattle.intel_operands.proofs.outlines.has_bracket.Goals as goal

pub returns : goal.returns
unfolding has_bracket
returns c = any_spelled (λ token. mark_by (Some token) == 91) c.args.text.now c.any_bracket.result c.any_bracket.ensures
