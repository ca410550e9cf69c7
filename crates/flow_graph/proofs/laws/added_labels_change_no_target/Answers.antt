-- Targets and nodes stay.
use Rattle.flow_graph.proofs.AddedLabels.{target_stays, node_stays, nodes_stay}
use Rattle.flow_graph.proofs.laws.added_labels_change_no_target.Goals as goal

pub returns-clause-targets : goal.returns-clause-targets
returns-clause-targets c = λ before after section items field labelled named.
    target_stays (λ symbols forward. record {
      sum = λ form some. c.expansions_are_exact.ensures.sum symbols form forward some;
      none = λ form none. c.expansions_are_exact.ensures.none symbols form none;
    }) before after labelled section items field named

pub returns-clause-nodes : goal.returns-clause-nodes
returns-clause-nodes c = λ before after section fields items item labelled named.
    node_stays (λ symbols forward. record {
      sum = λ form some. c.expansions_are_exact.ensures.sum symbols form forward some;
      none = λ form none. c.expansions_are_exact.ensures.none symbols form none;
    }) before after labelled section fields items item named

pub returns-clause-graphs : goal.returns-clause-graphs
returns-clause-graphs c = λ before after section fields items labelled named.
    nodes_stay (λ symbols forward. record {
      sum = λ form some. c.expansions_are_exact.ensures.sum symbols form forward some;
      none = λ form none. c.expansions_are_exact.ensures.none symbols form none;
    }) before after labelled section fields items named
