-- Each clause is a lemma on the definitions.
use Rattle.line_rows.proofs.PlaceLemmas.{places_due, places_written}
use Rattle.line_rows.proofs.laws.places_are_distances.Goals as goal

pub returns-clause-written : goal.returns-clause-written
returns-clause-written c = places_written

pub returns-clause-due : goal.returns-clause-due
returns-clause-due c = places_due
