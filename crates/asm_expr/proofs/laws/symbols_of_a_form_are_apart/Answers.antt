-- The form of an expression is reduced.
use Rattle.asm_expr.proofs.ReducedForms.{linear_reduced}
use Rattle.asm_expr.proofs.laws.symbols_of_a_form_are_apart.Goals as goal

pub returns : goal.returns
returns c = linear_reduced
