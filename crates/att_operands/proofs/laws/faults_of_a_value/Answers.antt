-- An expression has the faults that the layer below tells.
use Rattle.att_operands.proofs.WholeValues.{failing_values_are_refused, refused_values_fail}
use Rattle.att_operands.proofs.laws.faults_of_a_value.Goals as goal

pub returns-clause-fail : goal.returns-clause-fail
returns-clause-fail c = refused_values_fail c.faults_of_an_expression.ensures

pub returns-clause-refused : goal.returns-clause-refused
returns-clause-refused c = failing_values_are_refused c.faults_of_an_expression.ensures
