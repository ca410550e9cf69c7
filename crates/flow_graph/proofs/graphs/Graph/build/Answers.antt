-- The nodes of all items, of which each target is an item.
use Rattle.std.proofs.Common.{◌≡◌, List, map, sym, ap, subst, ◌∙◌}
use Rattle.std.proofs.lemmas.List.{take_all}
use Rattle.code_functions.specs.declared.items.CodeItem.{CodeItem}
use Rattle.flow_graph.specs.Nodes.{node_of, nodes_of}
use Rattle.flow_graph.specs.Walks.{IsInside}
use Rattle.flow_graph.proofs.NodeLemmas.{nodes_inside}
use Rattle.flow_graph.proofs.graphs.Graph.build.Goals as goal

pub invariant_of-result : goal.invariant_of-result
unfolding nodes_of
invariant_of-result c =
    let forms = c.args.forms.now in
    let function = c.args.function.now in
    let node = node_of forms.symbols.now function.section forms.fields.now function.items.now in
    let is : c.loop-item.nodes.items ≡ nodes_of forms.symbols.now function.section forms.fields.now function.items.now =
    c.loop-item.invariant ∙ ap (λ (items : List CodeItem). map node items) (take_all c.loop-item.item-index function.items.now c.loop-item-test.false) in
    subst IsInside (sym is) (nodes_inside forms.symbols.now function.section forms.fields.now function.items.now)
