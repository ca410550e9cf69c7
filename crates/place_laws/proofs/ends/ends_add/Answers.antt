use Rattle.place_laws.proofs.Moving.{ends_add}
use Rattle.place_laws.proofs.ends.ends_add.Goals as goal

pub returns : goal.returns
returns c = ends_add
