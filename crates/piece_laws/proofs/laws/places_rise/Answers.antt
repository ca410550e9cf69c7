-- A layout keeps its sections.
use Rattle.piece_laws.proofs.PlacesAndEnds.{places_rise}
use Rattle.piece_laws.proofs.laws.places_rise.Goals as goal

pub returns : goal.returns
returns c = places_rise c.layouts_keep_sections.ensures
