use Rattle.loaded_laws.proofs.Relocated.{relocations_beside}
use Rattle.loaded_laws.proofs.beside.relocations_beside.Goals as goal

pub returns : goal.returns
returns c = relocations_beside c.relocations_suit_fields.ensures
