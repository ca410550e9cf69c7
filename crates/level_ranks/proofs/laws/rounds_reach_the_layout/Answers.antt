-- The rounds are a run, which gives the layout.
use Rattle.level_ranks.proofs.LayoutLemmas.{rounds_layout}
use Rattle.level_ranks.proofs.laws.rounds_reach_the_layout.Goals as goal

pub returns : goal.returns
returns c = λ need tops start levels count rounds settled. rounds_layout need tops start levels count rounds settled
