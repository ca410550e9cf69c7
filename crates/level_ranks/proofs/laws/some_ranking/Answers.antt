-- Rounds reach it.
use Rattle.level_ranks.proofs.SomeRanking.{some_ranking}
use Rattle.level_ranks.proofs.laws.some_ranking.Goals as goal

pub returns : goal.returns
returns c = λ need tops. some_ranking need tops
