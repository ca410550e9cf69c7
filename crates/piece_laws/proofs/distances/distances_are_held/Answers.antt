-- By what the symbols of marks are known as.
use Rattle.piece_laws.proofs.HeldValues.{held, are_expanded, places_apart, are_linked, one_stays}
use Rattle.piece_laws.proofs.distances.distances_are_held.Goals as goal

pub returns-clause-held : goal.returns-clause-held
returns-clause-held c = held

pub returns-clause-expanded : goal.returns-clause-expanded
returns-clause-expanded c = are_expanded

pub returns-clause-places : goal.returns-clause-places
returns-clause-places c = places_apart

pub returns-clause-linked : goal.returns-clause-linked
returns-clause-linked c = are_linked

pub returns-clause-symbols : goal.returns-clause-symbols
returns-clause-symbols c = one_stays
