-- The greater of a level and what is needed is the level.
use Rattle.level_ranks.proofs.RaisedLemmas.{settled_holds}
use Rattle.level_ranks.proofs.laws.levels_hold.Goals as goal

pub returns : goal.returns
returns c = λ need levels index settled inside. settled_holds need levels index settled inside
