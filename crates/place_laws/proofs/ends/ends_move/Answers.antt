use Rattle.place_laws.proofs.Moving.{ends_move}
use Rattle.place_laws.proofs.ends.ends_move.Goals as goal

pub returns : goal.returns
returns c = ends_move
