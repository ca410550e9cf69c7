use Rattle.place_laws.proofs.Jumping.{jumps_lead}
use Rattle.place_laws.proofs.branches.jumps_lead.Goals as goal

pub returns : goal.returns
returns c = jumps_lead c.ends_are_addresses.ensures c.branches_lead.ensures
