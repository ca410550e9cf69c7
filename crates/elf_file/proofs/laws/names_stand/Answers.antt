-- The law holds.
use Rattle.elf_file.proofs.NamePlaces as law
use Rattle.elf_file.proofs.laws.names_stand.Goals as goal

pub returns : goal.returns
returns c = law.names_stand
