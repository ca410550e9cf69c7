-- What is left of a form has its value, and its symbol counts once.
use Rattle.object_laws.proofs.ValueLaws.{value_of}
use Rattle.object_laws.proofs.relocation_meanings.linked_values_are_forms.Goals as goal

pub returns : goal.returns
returns c = value_of c.cancelled_labels_keep_the_value.ensures c.whole_stretches_cancel.ensures
