-- The last item is found.
use Rattle.flow_graph.proofs.LandingLemmas.{last_found}
use Rattle.flow_graph.proofs.laws.last_item_is_found.Goals as goal

pub returns : goal.returns
returns c = λ items place. last_found place items
