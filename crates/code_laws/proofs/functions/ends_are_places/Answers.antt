use Rattle.code_laws.proofs.Placing.{ends_are_places}
use Rattle.code_laws.proofs.functions.ends_are_places.Goals as goal

pub returns : goal.returns
returns c = ends_are_places
