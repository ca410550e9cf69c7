-- A ranking that there is has the levels that the rounds reach.
use Rattle.asm_relax.proofs.SettlingLemmas.{levels_ranked}
use Rattle.asm_relax.proofs.laws.settled_by_the_ranking.Goals as goal

pub returns : goal.returns
returns c = levels_ranked c.layouts_are_reached.ensures c.needs_stay_within_tops.ensures c.some_ranking.ensures
