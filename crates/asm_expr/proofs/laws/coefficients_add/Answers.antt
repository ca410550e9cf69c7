-- Coefficients are added name by name.
use Rattle.asm_expr.proofs.CoefficientLaws.{are_added}
use Rattle.asm_expr.proofs.laws.coefficients_add.Goals as goal

pub returns : goal.returns
returns c = are_added
