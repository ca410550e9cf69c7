use Rattle.place_laws.proofs.Addresses.{ends_are_addresses}
use Rattle.place_laws.proofs.ends.ends_are_addresses.Goals as goal

pub returns : goal.returns
returns c = ends_are_addresses c.layouts_keep_sections.ensures c.sizes_add_up.ensures.shift
