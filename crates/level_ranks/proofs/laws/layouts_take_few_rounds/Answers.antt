-- Its ranking is the one that rounds reach.
use Rattle.level_ranks.proofs.SomeRanking.{layout_few}
use Rattle.level_ranks.proofs.laws.layouts_take_few_rounds.Goals as goal

pub returns : goal.returns
returns c = λ need tops levels rounds layout. layout_few need tops levels rounds layout
