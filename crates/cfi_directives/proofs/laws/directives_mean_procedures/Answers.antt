-- Each clause is a lemma on the definitions.
use Rattle.std.proofs.Common.{[]}
use Rattle.cfi_directives.proofs.DivisionLemmas.{are_divided}
use Rattle.cfi_directives.proofs.MeaningLemmas.{are_taken}
use Rattle.cfi_directives.proofs.laws.directives_mean_procedures.Goals as goal

pub returns-clause-taken : goal.returns-clause-taken
returns-clause-taken c lines procedures are = are_taken [] lines procedures.closed procedures.begun are

pub returns-clause-meant : goal.returns-clause-meant
returns-clause-meant c = are_divided
