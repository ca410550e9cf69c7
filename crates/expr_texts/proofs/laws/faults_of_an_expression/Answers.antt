-- The reading has a fault exactly where an expression fails.
use Rattle.expr_texts.proofs.RefusedFails.{has_fault}
use Rattle.expr_texts.proofs.laws.faults_of_an_expression.Goals as goal

pub returns : goal.returns
returns c = has_fault
