-- A number is the only operand where no other is left.
use Rattle.std.proofs.Common.{map}
use Rattle.asm_base.specs.Tokens.{spelled}
use Rattle.asm_values.proofs.ConstantOperandsLemmas.{only_finds}
use Rattle.asm_values.proofs.operand_constants.long_number.Goals as goal

pub returns-in-None : goal.returns-in-None
returns-in-None c = only_finds (map spelled c.args.tokens.now) _ _ c.in_ok-value.value c.new-operands.ensures c.in-None.ensures.steps.0 c.in_ok-value.ensures
