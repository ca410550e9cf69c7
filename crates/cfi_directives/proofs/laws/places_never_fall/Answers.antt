-- Each clause is a lemma on the definitions.
use Rattle.cfi_directives.proofs.OrderLemmas.{kept, reached, all}
use Rattle.cfi_directives.proofs.laws.places_never_fall.Goals as goal

pub returns-clause-kept : goal.returns-clause-kept
returns-clause-kept c = kept

pub returns-clause-reached : goal.returns-clause-reached
returns-clause-reached c = reached

pub returns-clause-all : goal.returns-clause-all
returns-clause-all c = all
