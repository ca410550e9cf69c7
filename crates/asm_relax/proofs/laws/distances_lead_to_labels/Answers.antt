-- The place of the field and the label cancel.
use Rattle.asm_relax.proofs.DistanceLemmas.{distances_lead}
use Rattle.asm_relax.proofs.laws.distances_lead_to_labels.Goals as goal

pub returns : goal.returns
returns c = distances_lead
