-- Each clause is a lemma on the definitions.
use Rattle.cfi_directives.proofs.MeantLemmas.{has_row, row_there, has_ended, are_split, addressed_row}
use Rattle.cfi_directives.proofs.laws.rows_are_meant.Goals as goal

pub returns-clause-each : goal.returns-clause-each
returns-clause-each c = has_row

pub returns-clause-there : goal.returns-clause-there
returns-clause-there c = row_there

pub returns-clause-ended : goal.returns-clause-ended
returns-clause-ended c = has_ended

pub returns-clause-split : goal.returns-clause-split
returns-clause-split c = are_split

pub returns-clause-addressed : goal.returns-clause-addressed
returns-clause-addressed c = addressed_row
