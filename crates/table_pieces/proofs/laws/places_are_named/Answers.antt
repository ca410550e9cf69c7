-- Labels of places are put last.
use Rattle.table_pieces.proofs.NamedPlaces.{place_named, places_known, place_stays, pieces_get, label_same, label_on}
use Rattle.table_pieces.proofs.laws.places_are_named.Goals as goal

pub returns-clause-named : goal.returns-clause-named
returns-clause-named c = place_named

pub returns-clause-known : goal.returns-clause-known
returns-clause-known c = places_known

pub returns-clause-stays : goal.returns-clause-stays
returns-clause-stays c = place_stays

pub returns-clause-pieces : goal.returns-clause-pieces
returns-clause-pieces c = pieces_get

pub returns-clause-same : goal.returns-clause-same
returns-clause-same c = label_same

pub returns-clause-on : goal.returns-clause-on
returns-clause-on c = label_on
