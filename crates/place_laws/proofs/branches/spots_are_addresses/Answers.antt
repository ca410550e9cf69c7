use Rattle.place_laws.proofs.Jumping.{spots_are_addresses}
use Rattle.place_laws.proofs.branches.spots_are_addresses.Goals as goal

pub returns : goal.returns
returns c = spots_are_addresses c.ends_are_addresses.ensures
