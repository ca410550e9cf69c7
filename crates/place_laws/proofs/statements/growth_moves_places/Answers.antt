use Rattle.place_laws.proofs.Standing.{growth_moves_places}
use Rattle.place_laws.proofs.statements.growth_moves_places.Goals as goal

pub returns : goal.returns
returns c = growth_moves_places
