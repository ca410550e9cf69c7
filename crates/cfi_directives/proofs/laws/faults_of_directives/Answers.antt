-- Each clause is a lemma on the definitions.
use Rattle.cfi_directives.proofs.FaultLemmas.{comes, only}
use Rattle.cfi_directives.proofs.laws.faults_of_directives.Goals as goal

pub returns-clause-comes : goal.returns-clause-comes
returns-clause-comes c = comes

pub returns-clause-exact : goal.returns-clause-exact
returns-clause-exact c = only
