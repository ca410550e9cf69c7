-- Each clause is a lemma on the definitions.
use Rattle.line_directives.proofs.MeaningLemmas.{rows_made, rows_meant}
use Rattle.line_directives.proofs.laws.directives_mean_rows.Goals as goal

pub returns-clause-meant : goal.returns-clause-meant
returns-clause-meant c = rows_meant

pub returns-clause-made : goal.returns-clause-made
returns-clause-made c = rows_made
