-- The nodes of the items so far.
use Rattle.std.proofs.Common.{◌≡◌, map, take}
use Rattle.flow_graph.specs.Nodes.{node_of}
use Rattle.flow_graph.proofs.graphs.Graph.build.Given as goal

abbrev pub invariant-loop-item : goal.invariant-loop-item
invariant-loop-item l =
    l.nodes.items ≡ map (node_of l.forms.symbols.now l.function.section l.forms.fields.now l.function.items.now) (take l.item-index l.function.items.now)
