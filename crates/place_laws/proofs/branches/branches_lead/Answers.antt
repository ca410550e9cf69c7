use Rattle.place_laws.proofs.Leading.{branches_lead}
use Rattle.place_laws.proofs.branches.branches_lead.Goals as goal

pub returns : goal.returns
returns c = branches_lead c.distances_lead_to_labels.ensures
