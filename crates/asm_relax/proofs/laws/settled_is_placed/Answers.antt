-- The levels of a ranking are within the highest ones.
use Rattle.asm_relax.proofs.SettlingLemmas.{settled_placed, settled_sized}
use Rattle.asm_relax.proofs.laws.settled_is_placed.Goals as goal

pub returns-clause-placed : goal.returns-clause-placed
returns-clause-placed c = settled_placed c.layouts_are_reached.ensures c.needs_stay_within_tops.ensures c.some_ranking.ensures

pub returns-clause-sized : goal.returns-clause-sized
returns-clause-sized c = settled_sized c.layouts_are_reached.ensures c.needs_stay_within_tops.ensures c.some_ranking.ensures
