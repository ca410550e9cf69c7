-- Items have as many bytes as their sizes say, and the bodies of sections stand in the file.
use Rattle.elf_object.proofs.ItemPlaces.{values_stand}
use Rattle.elf_object.proofs.laws.values_stand.Goals as goal

pub returns : goal.returns
returns c = values_stand c.bytes_are_sized.ensures c.bodies_stand.ensures.bodies c.bodies_stand.ensures.pieces
