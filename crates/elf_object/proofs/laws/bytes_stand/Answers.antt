-- Items have as many bytes as their sizes say, and the bodies of sections stand in the file.
use Rattle.elf_object.proofs.ItemPlaces.{bytes_stand}
use Rattle.elf_object.proofs.laws.bytes_stand.Goals as goal

pub returns : goal.returns
returns c = bytes_stand c.bytes_are_sized.ensures c.bodies_stand.ensures.bodies c.bodies_stand.ensures.pieces
