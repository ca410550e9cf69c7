-- By induction on the rounds between.
use Rattle.level_ranks.proofs.RoundLemmas.{never_falls}
use Rattle.level_ranks.proofs.laws.levels_never_fall.Goals as goal

pub returns : goal.returns
returns c = λ need start earlier later index before. never_falls need start earlier later index before
