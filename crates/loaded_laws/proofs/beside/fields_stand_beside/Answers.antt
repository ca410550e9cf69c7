use Rattle.loaded_laws.proofs.Orders.{fields_stand_beside}
use Rattle.loaded_laws.proofs.beside.fields_stand_beside.Goals as goal

pub returns : goal.returns
returns c = fields_stand_beside c.places_are_addresses.ensures
