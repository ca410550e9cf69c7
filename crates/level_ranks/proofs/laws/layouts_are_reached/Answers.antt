-- Rounds that end in one that raises none reach the one layout, and are that few.
use Rattle.level_ranks.proofs.ReachedLemmas.{layout_reached}
use Rattle.level_ranks.proofs.laws.layouts_are_reached.Goals as goal

pub returns : goal.returns
returns c = λ need tops start levels rounds items lowest within layout. layout_reached need tops start items lowest within levels rounds layout
