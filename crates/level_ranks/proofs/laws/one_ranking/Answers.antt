-- Two rankings agree on all numbers.
use Rattle.level_ranks.proofs.OneRanking.{one_ranking}
use Rattle.level_ranks.proofs.laws.one_ranking.Goals as goal

pub returns : goal.returns
returns c = λ need tops one other this that. one_ranking need tops one other this that
