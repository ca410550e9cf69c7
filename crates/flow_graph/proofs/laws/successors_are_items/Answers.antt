-- Successors are items.
use Rattle.flow_graph.proofs.RuleLemmas.{reached}
use Rattle.flow_graph.proofs.laws.successors_are_items.Goals as goal

pub returns : goal.returns
returns c = reached
