-- Tokens without a comma are one operand.
use Rattle.std.proofs.Common.{map}
use Rattle.asm_base.specs.Tokens.{spelled}
use Rattle.asm_values.proofs.ConstantOperandsLemmas.{lone_only}
use Rattle.asm_values.proofs.operand_constants.only_number.Goals as goal

pub returns-in-Some : goal.returns-in-Some
returns-in-Some c = lone_only (map spelled c.args.tokens.now) c.in-Some.value c.in-Some.ensures
