-- Targets are labels.
use Rattle.flow_graph.proofs.FieldLemmas.{target_is_label}
use Rattle.flow_graph.proofs.laws.targets_are_labels.Goals as goal

pub returns : goal.returns
returns c = target_is_label
