-- The graph keeps it.
use Rattle.flow_graph.proofs.graphs.Graph.targets_are_inside.Goals as goal

pub returns : goal.returns
returns c = rw (← c.self.view_is) c.self.invariant
