use Rattle.place_laws.proofs.Standing.{spots_give_places}
use Rattle.place_laws.proofs.statements.spots_give_places.Goals as goal

pub returns : goal.returns
returns c = spots_give_places
